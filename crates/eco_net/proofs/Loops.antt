-- Netlists with loops: what is reported of one, and why the law of one valuation speaks of those without
use Rattle.std.proofs.Common.{◌≡◌, Bool, true, false, List, [], ◌∷◌, Some, None, refl, sym, ap, subst, inl, inr, codes, true≢false}
use Rattle.std.specs.List.{IsDistinct}
use Rattle.std.specs.Option.{unwrap_or}
use Rattle.std.specs.declared.cmp.Ordering.TheVariants.{Less}
use Rattle.eco_net.proofs.Basics.{Has, contains_from_has, has_from_contains}
use Rattle.eco_net.specs.Netlist.{Name, name_cmp, Gate, Netlist, CompPin}
use Rattle.eco_net.specs.Drivers.{Computed}
use Rattle.eco_net.specs.CutKeys.{CutBits}
use Rattle.eco_net.specs.Valuation.{Valuation, IsValuation, table_value, read}
use Rattle.eco_net.specs.Walks.{ReadsNet, IsLoopFree, IsClosedWalk}
use Rattle.eco_net.proofs.Lists.{Part, Lists, made, driver_by, computed_by}
use Rattle.eco_net.proofs.Walks.{reported}

abbrev not_table : List Bool
not_table = true ∷ false ∷ []

-- ---- two inverters in a ring

abbrev inverter : Name → Name → Part
inverter from to = (Gate (codes "A" ∷ []) ((codes "Y", not_table) ∷ []), (codes "A", from) ∷ (codes "Y", to) ∷ [])

abbrev ring_lists : Lists
ring_lists = record {
  nets = (codes "x", None) ∷ (codes "y", None) ∷ [];
  comps = (codes "i1", inverter (codes "x") (codes "y")) ∷ (codes "i2", inverter (codes "y") (codes "x")) ∷ [];
  tops = [];
  ties = codes "x" ∷ codes "y" ∷ [];
  reserved = [];
}

abbrev ring : Netlist
ring = made ring_lists

y_computed : Computed ring (codes "y") not_table (Some (codes "x") ∷ [])
y_computed = computed_by ring_lists (codes "y") (codes "i1") (codes "Y") (inverter (codes "x") (codes "y")) not_table refl (driver_by ring_lists (codes "y") (CompPin (codes "i1") (codes "Y")) refl refl) refl refl

x_computed : Computed ring (codes "x") not_table (Some (codes "y") ∷ [])
x_computed = computed_by ring_lists (codes "x") (codes "i2") (codes "Y") (inverter (codes "y") (codes "x")) not_table refl (driver_by ring_lists (codes "x") (CompPin (codes "i2") (codes "Y")) refl refl) refl refl

x_to_y : ReadsNet ring (codes "x") (codes "y")
x_to_y = record { from = (_, _, x_computed); table = _; inputs = _; to = y_computed; reads = contains_from_has (Some (codes "x") ∷ []) _ (inl refl) }

y_to_x : ReadsNet ring (codes "y") (codes "x")
y_to_x = record { from = (_, _, y_computed); table = _; inputs = _; to = x_computed; reads = contains_from_has (Some (codes "y") ∷ []) _ (inl refl) }

-- the walk is reported from its least net
least : (m : Name) → Has (codes "y" ∷ []) m → name_cmp (codes "x") m ≡ Less
least m (inl e) = subst (λ n. name_cmp (codes "x") n ≡ Less) e refl
least m (inr h) = absurd h

closed : IsClosedWalk ring (codes "x" ∷ codes "y" ∷ [])
unfolding IsDistinct
closed = ((x_to_y, y_to_x), λ m c. least m (has_from_contains (codes "y" ∷ []) m c), (tt, tt))

not_loop_free : IsLoopFree ring → ⊥
not_loop_free = reported ring (codes "x" ∷ codes "y" ∷ []) closed

-- ---- an inverter that reads its own output: no valuation

abbrev own_lists : Lists
own_lists = record {
  nets = (codes "y", None) ∷ [];
  comps = (codes "i1", inverter (codes "y") (codes "y")) ∷ [];
  tops = [];
  ties = codes "y" ∷ [];
  reserved = [];
}

own_computed : Computed (made own_lists) (codes "y") not_table (Some (codes "y") ∷ [])
own_computed = computed_by own_lists (codes "y") (codes "i1") (codes "Y") (inverter (codes "y") (codes "y")) not_table refl (driver_by own_lists (codes "y") (CompPin (codes "i1") (codes "Y")) refl refl) refl refl

no_valuation : (cut : CutBits) (v : Valuation) → IsValuation (made own_lists) cut v → ⊥
no_valuation cut v is = go (read v (Some (codes "y"))) (ap (λ o. unwrap_or o false) (is.computed (codes "y") _ _ own_computed))
  where
    go : (b : Bool) → b ≡ table_value not_table (b ∷ []) → ⊥
    go true e = true≢false e
    go false e = true≢false (sym e)
