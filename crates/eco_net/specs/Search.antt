-- A search through computed nets, and what it finds: an order in which each net stands after those that its driver reads,
-- or nets in a ring.
use Rattle.std.specs.Prelude.{◌≡◌, ℕ, List, [], ◌∷◌, ◌++◌, length, Some, slice_get, nat_eq, ◌↔◌}
use Rattle.std.specs.List.{IsDistinct}
use Rattle.eco_net.specs.declared.search.Mark.{Mark}
use Rattle.eco_net.specs.declared.search.Mark.TheVariants.{Unseen, Open, Done}
use Rattle.eco_net.specs.declared.search.Stop.{Stop}
use Rattle.eco_net.specs.declared.search.Stop.TheVariants.{Ring, Memory}
use Rattle.eco_net.specs.Listing.{Listing}
use Rattle.eco_net.specs.Gates.{GatePin, computed_by, FeedsNet}
use Rattle.eco_net.specs.Among.{Has}

abbrev pub IsMark : List Mark → ℕ → Mark → Type 0
IsMark marks n m = slice_get marks n ≡ Some m

abbrev pub weight : Mark → ℕ
weight Unseen = 2
weight Open = 1
weight Done = 0

abbrev pub IsComputedNet : Listing → ℕ → Type 0
IsComputedNet L n = (g : GatePin) × (computed_by L n ≡ Some g)

-- each net of the list is read by the driver of the one before it
abbrev pub ChainFrom : Listing → ℕ → List ℕ → Type 0
ChainFrom L b [] = Unit {0}
ChainFrom L b (a ∷ ns) = FeedsNet L a b × ChainFrom L a ns

abbrev pub Chain : Listing → List ℕ → Type 0
Chain L [] = Unit {0}
Chain L (n ∷ ns) = ChainFrom L n ns

-- each net stands after all that its driver reads, or these stand in `before`
abbrev pub AreSettled : Listing → List ℕ → List ℕ → Type 0
AreSettled L before [] = Unit {0}
AreSettled L before (n ∷ ns) = ((a : ℕ) → FeedsNet L a n → Has before a) × AreSettled L (n ∷ before) ns

-- an open path, each of its nets read by the driver of the one before; and the nets that are done, in order
pub record IsSearch (L : Listing) (marks : List Mark) (path order : List ℕ) : Type 0 where
  pub sized : length marks ≡ length L.nets
  pub on_path : (n : ℕ) → Has path n ↔ IsMark marks n Open
  pub finished : (n : ℕ) → Has order n ↔ IsMark marks n Done
  pub path_distinct : IsDistinct nat_eq path
  pub order_distinct : IsDistinct nat_eq order
  pub path_computed : (n : ℕ) → Has path n → IsComputedNet L n
  pub order_computed : (n : ℕ) → Has order n → IsComputedNet L n
  pub chain : Chain L path
  pub settled : AreSettled L [] order

-- the computed nets, each once and after all computed nets that its driver reads
pub record IsEvaluationOrder (L : Listing) (order : List ℕ) : Type 0 where
  pub settled : AreSettled L [] order
  pub computed : (n : ℕ) → Has order n → IsComputedNet L n
  pub each : (n : ℕ) → IsComputedNet L n → Has order n
  pub distinct : IsDistinct nat_eq order

-- what isn't seen now wasn't seen before
abbrev pub Stays : List Mark → List Mark → Type 0
Stays old new = (n : ℕ) → IsMark new n Unseen → IsMark old n Unseen

-- from a through these to b, each read by the driver of the next
abbrev pub Around : Listing → ℕ → List ℕ → ℕ → Type 0
Around L a [] b = FeedsNet L a b
Around L a (c ∷ cs) b = FeedsNet L a c × Around L c cs b

-- each net once, each read by the driver of the next, the last by that of the first
abbrev pub IsRing : Listing → List ℕ → Type 0
IsRing L [] = ⊥
IsRing L (n ∷ ns) = Around L n ns n × IsDistinct nat_eq (n ∷ ns)

abbrev pub StopIs : Listing → Stop → Type 0
StopIs L (Ring ring) = IsRing L ring.items
StopIs L Memory = Unit {0}

-- the last item of a path
abbrev pub EndsWith : List ℕ → ℕ → Type 0
EndsWith path n = (front : List ℕ) × (path ≡ front ++ n ∷ [])
