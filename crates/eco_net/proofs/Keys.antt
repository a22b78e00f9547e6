-- What kind of net each is; a free net has exactly one cut key, and keys are ordered by their names
use Rattle.std.proofs.Common.{◌≡◌, Bool, Some, sym, ap, ap₂, ◌∙◌, inl, inr, ◌⊎◌}
use Rattle.std.specs.Cmp.{IsTotalOrder, on_total}
use Rattle.std.specs.Cmp.Lexicographic.{nat_list_cmp_total, lists_total}
use Rattle.std.specs.FinMap.{IsAntisymmetric, slice_cmp-IsAntisymmetric, get}
use Rattle.std.proofs.lemmas.Map.Lookups.{exact_bytes}
use Rattle.eco_net.specs.Netlist.{Name, Netlist, TopPin, CompPin, IsNet}
use Rattle.eco_net.specs.Drivers.{IsComputed, IsFree}
use Rattle.eco_net.specs.CutKeys.{CutKey, PinKey, NetKey, KeyOf, key_cmp, key_names}
use Rattle.eco_net.proofs.Basics.{same_Some, not_None}
use Rattle.eco_net.proofs.Decide.{Shape, supply_net, computed_net, free_net, no_net, shape}
use Rattle.eco_net.proofs.Solved.{one_key}

pub one_cut_key : (N : Netlist) (n : Name) → IsFree N n → (key : CutKey) × KeyOf N n key × ((other : CutKey) → KeyOf N n other → other ≡ key)
one_cut_key N n f = go (shape N n)
  where
    go : Shape N n → (key : CutKey) × KeyOf N n key × ((other : CutKey) → KeyOf N n other → other ≡ key)
    go (free_net key g k) = (key, k, λ other l. one_key N n other key l k)
    go (computed_net table ins c) = absurd (f.1 (table, ins, c))
    go (supply_net b e) = absurd (not_None (sym (same_Some (sym f.0 ∙ e))))
    go (no_net e) = absurd (not_None (sym f.0 ∙ e))

pub each_net : (N : Netlist) (n : Name) → IsNet N n → ((b : Bool) × (get N.nets n ≡ Some (Some b))) ⊎ (IsComputed N n ⊎ IsFree N n)
each_net N n i = go (shape N n)
  where
    go : Shape N n → ((b : Bool) × (get N.nets n ≡ Some (Some b))) ⊎ (IsComputed N n ⊎ IsFree N n)
    go (supply_net b e) = inl (b, e)
    go (computed_net table ins c) = inr (inl (table, ins, c))
    go (free_net key f k) = inr (inr f)
    go (no_net e) = absurd (not_None (sym i.1 ∙ e))

pub key_cmp_total : IsTotalOrder key_cmp
key_cmp_total = on_total key_names (lists_total nat_list_cmp_total)

same_names : (a b : CutKey) → key_names a ≡ key_names b → a ≡ b
same_names (PinKey (TopPin s)) (PinKey (TopPin t)) e = ap (λ n. PinKey (TopPin n)) (cc)
same_names (PinKey (TopPin s)) (PinKey (CompPin c p)) e = absurd (cc)
same_names (PinKey (TopPin s)) (NetKey n) e = absurd (cc)
same_names (PinKey (CompPin c p)) (PinKey (TopPin t)) e = absurd (cc)
same_names (PinKey (CompPin c p)) (PinKey (CompPin d q)) e = ap₂ (λ a b. PinKey (CompPin a b)) (cc) (cc)
same_names (PinKey (CompPin c p)) (NetKey n) e = absurd (cc)
same_names (NetKey n) (PinKey (TopPin t)) e = absurd (cc)
same_names (NetKey n) (PinKey (CompPin d q)) e = absurd (cc)
same_names (NetKey n) (NetKey m) e = ap NetKey (cc)

pub key_cmp-IsAntisymmetric : IsAntisymmetric key_cmp
key_cmp-IsAntisymmetric a b e = same_names a b (slice_cmp-IsAntisymmetric exact_bytes (key_names a) (key_names b) e)
