use Rattle.std.proofs.Common.{ℕ, ◌-◌, ◌≡◌, arith, inl, inr, pos, false}
use Rattle.std.proofs.Math.ListN.{replicate, get_or}
use Rattle.std.proofs.lemmas.List.{get_or-replicate, get_or_past, length-replicate}
use Rattle.eco_match.proofs.Order.{split}
use Rattle.eco_match.proofs.answer.MatchOut.new.Goals as goal

-- one value throughout, and past the end
same-value : {A : Type 0} → (n g : ℕ) (x : A) → get_or (replicate n x) g x ≡ x
same-value n g x =
    elim (split (n - g)) [
      | inl past ↦ get_or_past (replicate n x) g x (let l = length-replicate n x in omega (arith, l, past))
      | inr inside ↦ get_or-replicate n g x x (omega (arith, inside))
    ]

pub returns : goal.returns
returns c = record {
  spare = λ g. same-value 128 g 0;
  worth = λ g. same-value 128 g (pos 0);
  price = λ g. same-value 128 g (pos 0);
  short = λ g. same-value 128 g false;
}
