-- Lists of pins that stand one after another in one list.
use Rattle.std.specs.Prelude.{ℕ, ◌+◌, ◌<◌, ◌≤◌, List, ◌∷◌, map, take, sum, length, Option, Some, None, slice_index, slice_set, slice_range}
use Rattle.std.specs.List.{fold, range_with_len}
use Rattle.eco_net.specs.declared.ids.PinRef.{PinRef}
use Rattle.eco_net.specs.Listing.{Listing}
use Rattle.eco_net.specs.ByNumber.{net_at}

-- lists that are being filled: where the next pin of each goes, and the places
pub record Places : Type 0 where
  pub ends : List ℕ
  pub pins : List PinRef

-- with a pin at the next place of a list
abbrev pub put : Places → ℕ → PinRef → Places
put P n p = record {
  ends = slice_set P.ends n (slice_index P.ends n + 1);
  pins = slice_set P.pins (slice_index P.ends n) p;
}

abbrev pub put_if_on : Places → Option ℕ → PinRef → Places
put_if_on P None p = P
put_if_on P (Some n) p = put P n p

-- with each of these pins that is on a net at the next place of its net
abbrev pub put_all : Listing → Places → List PinRef → Places
put_all L P ps = fold (λ P p. put_if_on P (net_at L p) p) P ps

-- for each count the sum of those before it
abbrev pub sums : List ℕ → List ℕ
sums counts = map (λ n. sum (take n counts)) (range_with_len 0 (length counts))

-- the list of a number: it begins where the one before it ends
abbrev pub list_at : List ℕ → List PinRef → ℕ → List PinRef
list_at ends pins n = slice_range pins (slice_index (0 ∷ ends) n) (slice_index ends n)

abbrev pub lists : List ℕ → List PinRef → List (List PinRef)
lists ends pins = map (list_at ends pins) (range_with_len 0 (length ends))

-- each list lies within so many places
abbrev pub AreEnds : List ℕ → ℕ → Type 0
AreEnds ends m = (n : ℕ) → n < length ends → (slice_index (0 ∷ ends) n ≤ slice_index ends n) × (slice_index ends n ≤ m)
