-- The faults of tie nets, stock and loops by what the code looks at are those of the texts.
use Rattle.std.proofs.Common.{◌≡◌, ℕ, suc, true, false, List, [], ◌∷◌, length, inl, inr, refl, ap, ◌∙◌, subst}
use Rattle.std.specs.List.{AllZip}
use Rattle.eco_net.specs.Netlist.{Name, Netlist}
use Rattle.eco_net.specs.Bases.{bare}
use Rattle.eco_desk_file.specs.Desk.{Desk}
use Rattle.eco_base.specs.Ties.{IsTieNet}
use Rattle.eco_base.specs.declared.fault.BaseFault.{BaseFault}
use Rattle.eco_base.specs.declared.fault.BaseFault.TheVariants.{TieNotConstant, TooMuchStock, Loop, Memory}
use Rattle.eco_base.specs.Texts.{TextParts}
use Rattle.eco_base.specs.Bases.{listed_netlist, stock_names, frozen}
use Rattle.eco_base.specs.Stocked.{BlamesTie, BlamesTies, BlamesCount, BlamesLoop}
use Rattle.eco_base.specs.Joined.{AreJoined}
use Rattle.eco_base.specs.Opened.{AreTied, HasFewSpares, IsFirstOf}

module _ (t : TextParts) (joined : AreJoined t) where
  untied : (e : BaseFault) → BlamesTies t.desk (listed_netlist t) e → IsFirstOf t e
  untied (TieNotConstant net) h = λ lef def functions desk read. (t, read, (joined, h))
  untied Memory h = λ lef def functions desk read. tt
  untied other h = absurd h

  pub ties_first : (N : Netlist) → N ≡ listed_netlist t → (e : BaseFault) → BlamesTies t.desk N e → IsFirstOf t e
  ties_first N same e h = untied e (subst (λ M. BlamesTies t.desk M e) same h)

  pub count_first : AreTied t → (n : ℕ) → n ≡ length (stock_names t) → (e : BaseFault) → BlamesCount n e → IsFirstOf t e
  count_first tied n same (TooMuchStock count) h = λ lef def functions desk read. (t, read, (joined, tied, (h.0 ∙ same, h.1)))
  count_first tied n same other h = absurd h

  looped : AreTied t → HasFewSpares t → (e : BaseFault) → BlamesLoop (bare (frozen t)) e → IsFirstOf t e
  looped tied few (Loop nets) h = λ lef def functions desk read. (t, read, (joined, tied, few, h))
  looped tied few Memory h = λ lef def functions desk read. tt
  looped tied few other h = absurd h

  pub loop_first : AreTied t → HasFewSpares t → (N : Netlist) → N ≡ bare (frozen t) → (e : BaseFault) → BlamesLoop N e → IsFirstOf t e
  loop_first tied few N same e h = looped tied few e (subst (λ M. BlamesLoop M e) same h)

-- ---- one tie net

pub high_blamed : (desk : Desk) (N : Netlist) (n : Name) (e : BaseFault) → n ≡ desk.high → (IsTieNet desk.prefixes N desk.high true → ⊥) → BlamesTie n e → BlamesTies desk N e
high_blamed desk N n (TieNotConstant net) is not_tied h = inl (not_tied, h ∙ is)
high_blamed desk N n Memory is not_tied h = tt
high_blamed desk N n other is not_tied h = absurd h

pub low_blamed : (desk : Desk) (N : Netlist) (n : Name) (e : BaseFault) → n ≡ desk.low → IsTieNet desk.prefixes N desk.high true → (IsTieNet desk.prefixes N desk.low false → ⊥) → BlamesTie n e → BlamesTies desk N e
low_blamed desk N n (TieNotConstant net) is tied not_tied h = inr (tied, not_tied, h ∙ is)
low_blamed desk N n Memory is tied not_tied h = tt
low_blamed desk N n other is tied not_tied h = absurd h

-- as many functions as spares
pub as_many : {A B : Type 0} (R : A → B → Type 0) (xs : List A) (ys : List B) → AllZip R xs ys → length xs ≡ length ys
as_many R [] [] h = refl
as_many R [] (y ∷ ys) h = absurd h
as_many R (x ∷ xs) [] h = absurd h
as_many R (x ∷ xs) (y ∷ ys) h = ap suc (as_many R xs ys h.1)
