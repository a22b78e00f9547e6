use Rattle.std.proofs.Common.{◌≡◌, zero, suc, true, [], ◌∷◌, string_bytes, ap, ◌∙◌, sym, subst, arith}
use Rattle.std.specs.List.{All}
use Rattle.std.proofs.lemmas.List.Elements.{All-append}
use Rattle.toml.specs.View.{view, members_view}
use Rattle.eco_func.specs.Masters.{MasterTables, is_master}
use Rattle.eco_func.specs.FunctionsFile.{master_of, masters_of}
use Rattle.eco_func.proofs.DocumentLemmas.{behind, step}
use Rattle.eco_func.proofs.document.read_masters.Goals as goal

pub loop-name-preserved : goal.loop-name-preserved
loop-name-preserved c =
    let done = c.loop-name.masters.items in
    let name = string_bytes c.in-Some.name.now in
    let value = view c.in-Some.value.now in
    let rest = masters_of (members_view c.next.new.self) in
    let made : (m : MasterTables) → Type 0 = λ m. is_master m.inputs m.outputs ≡ true in
    record {
      said = c.loop-name.invariant.said ∙ ap (λ es. behind done (masters_of (members_view es))) c.in-Some.ensures.steps
          ∙ step done (master_of name value) (λ m. m) rest c.in_ok-read_master.field-0 (ap (λ n. master_of n value) (sym c.as_str.ensures.value) ∙ c.in_ok-read_master.ensures.said)
          ∙ ap (λ all. behind all rest) (sym c.in_ok-push.ensures.items);
      make = subst (All made) (sym c.in_ok-push.ensures.items) (All-append made done (c.in_ok-read_master.field-0 ∷ []) c.loop-name.invariant.make (All-one made c.in_ok-read_master.field-0 c.in_ok-read_master.ensures.makes));
    }
  where
    All-one : (P : MasterTables → Type 0) (m : MasterTables) → P m → All P (m ∷ [])
    All-one P m p zero d h = p
    All-one P m p (suc k) d h = absurd (omega (arith, h))
