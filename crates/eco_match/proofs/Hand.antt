use Rattle.std.proofs.Common.{ℕ, ◌-◌, ◌≤◌, ◌<◌, ◌≡◌, ◌≢◌, List, length, slice_index, slice_set, refl, ap, ◌∙◌, arith}
use Rattle.std.proofs.lemmas.List.{get_or-set_same, get_or-set_other}
use Rattle.eco_match.specs.declared.table.Table.{Table}
use Rattle.eco_match.specs.declared.answer.MatchOut.{MatchOut}
use Rattle.eco_match.specs.Phase.{Handed}
use Rattle.eco_match.specs.Table.{InRow, spare_at, AreRising}
use Rattle.eco_match.specs.Work.{SetsPrice}
use Rattle.eco_match.proofs.Numbers.{worths-same, prices-same}
use Rattle.eco_match.proofs.Place.{pair-here, pair-same}

-- the answer with another spare for the gate at a place
abbrev pub with_spare : MatchOut → ℕ → ℕ → MatchOut
with_spare out k s = record { spare = slice_set out.spare (k - 1) s; worth = out.worth; price = out.price; short = out.short }

-- a gate is given a spare, and then its price is set
pub record Gives (t : Table) (gate pair price : ℕ) (g g' : MatchOut) : Type 0 where
  pub rising : AreRising t
  pub row : InRow t gate pair
  pub some : 0 < gate
  pub most : gate ≤ length g.spare
  pub priced : SetsPrice gate price (with_spare g gate (spare_at t pair)) g'

spare-here : (t : Table) (gate pair price : ℕ) (g g' : MatchOut) → Gives t gate pair price g g' → slice_index g'.spare (gate - 1) ≡ spare_at t pair
spare-here t gate pair price g g' w =
    ap (λ (xs : List ℕ). slice_index xs (gate - 1)) w.priced.spares ∙ get_or-set_same g.spare (gate - 1) (spare_at t pair) 0 (omega (arith, w.some, w.most))

spare-other : (t : Table) (gate pair price : ℕ) (g g' : MatchOut) → Gives t gate pair price g g' → (k : ℕ) → 0 < k → k ≢ gate → slice_index g'.spare (k - 1) ≡ slice_index g.spare (k - 1)
spare-other t gate pair price g g' w k some ne =
    ap (λ (xs : List ℕ). slice_index xs (k - 1)) w.priced.spares ∙ get_or-set_other g.spare (gate - 1) (k - 1) (spare_at t pair) 0 (omega (arith, w.some, some, ne))

pub handed : (t : Table) (gate pair price : ℕ) (g g' : MatchOut) (owner : List ℕ) → Gives t gate pair price g g' → Handed t gate pair price owner (slice_set owner (spare_at t pair) gate) g g'
handed t gate pair price g g' owner w = record {
  owner_is = refl;
  pair_is = pair-here t g' gate pair w.rising w.some w.row (spare-here t gate pair price g g' w);
  other_pairs = λ k ne. pair-same t g g' k (λ some. spare-other t gate pair price g g' w k some ne);
  price_is = w.priced.here;
  other_prices = λ k ne. w.priced.others k ne ∙ prices-same g (with_spare g gate (spare_at t pair)) refl k;
  worths = λ k. w.priced.worths k ∙ worths-same g (with_spare g gate (spare_at t pair)) refl k;
}
