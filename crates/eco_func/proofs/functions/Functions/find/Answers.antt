use Rattle.std.proofs.Common.{◌≡◌, ◌∙◌, Some, Equal, get_or, nat_cmp, rules, arith, sym, ap, subst}
use Rattle.std.specs.Cmp.Lexicographic.{slice_cmp}
use Rattle.std.proofs.lemmas.Fn.{always_returns_same}
use Rattle.eco_func.specs.FunctionsFile.{IsByName, find_master}
use Rattle.eco_func.proofs.Finding.{found, searchable, none_between}
use Rattle.eco_func.proofs.functions.Functions.find.Goals as goal

pub returns-in-Ok : goal.returns-in-Ok
returns-in-Ok c =
    let name = c.args.name.now in
    let ms = c.self.inside.masters.items in
    let x = c.index.result.now in
    let same = c.in-Ok.ensures.position (λ m. slice_cmp nat_cmp m.name name) (always_returns_same _ _ _ (λ a r q k. search rules)) in
    let here = subst (λ xs. slice_cmp nat_cmp (get_or xs c.in-Ok.place x).name name ≡ Equal) c.deref.ensures.value (same x) in
    ap Some c.index.ensures ∙ found name ms c.self.invariant c.in-Ok.place x (omega (arith, c.in-Ok.ensures.bound, c.deref.ensures.len)) here ∙ ap (find_master name) c.self.view_is

pub returns-in-Err : goal.returns-in-Err
returns-in-Err c =
    let name = c.args.name.now in
    let ms = c.deref.result.now in
    let split = c.in-Err.ensures.position (λ m. slice_cmp nat_cmp m.name name) (always_returns_same _ _ _ (λ a r q k. search rules)) in
    let sorted = subst IsByName (sym c.deref.ensures.value) c.self.invariant in
    none_between name ms c.in-Err.field-0 (split (searchable name ms sorted)) ∙ ap (find_master name) (c.deref.ensures.value ∙ c.self.view_is)
