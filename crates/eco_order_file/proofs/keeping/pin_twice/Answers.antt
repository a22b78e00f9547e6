use Rattle.std.proofs.Common.{◌≡◌, List, [], ◌∷◌, ℕ, Bool, ◌&&◌, Bor, map, refl, ap, ap₂, sym, ◌∙◌}
use Rattle.std.specs.Option.{option_map}
use Rattle.std.specs.Ordering.{eq_by_cmp, ordering_then, nat_cmp}
use Rattle.std.specs.Cmp.Lexicographic.{slice_cmp}
use Rattle.std.specs.Str.{bytes_eq}
use Rattle.std.proofs.lemmas.Map.Text.{is_eq-slice_cmp}
use Rattle.eco_order_file.specs.Names.{Name}
use Rattle.eco_order_file.specs.Repeats.{first_twice}
use Rattle.eco_order_file.specs.Rules.{is_pin}
use Rattle.eco_order_file.proofs.Again.{first_again-map, first_again-alike, is_eq-then}
use Rattle.eco_order_file.proofs.keeping.pin_twice.Goals as goal

abbrev pair : Bor Name × Bor Name → Name × Name
pair k = (k.0.now, k.1.now)

abbrev same_keys : Bor Name × Bor Name → Bor Name × Bor Name → Bool
same_keys a b = eq_by_cmp (λ (x : Bor Name × Bor Name) y. ordering_then (slice_cmp nat_cmp x.0.now y.0.now) (slice_cmp nat_cmp x.1.now y.1.now)) a b

keys_alike : (a b : Bor Name × Bor Name) → same_keys a b ≡ is_pin (pair a) (pair b)
keys_alike a b =
    is_eq-then (slice_cmp nat_cmp a.0.now b.0.now) (slice_cmp nat_cmp a.1.now b.1.now)
    ∙ ap₂ (λ x y. x && y) (is_eq-slice_cmp a.0.now b.0.now) (is_eq-slice_cmp a.1.now b.1.now)

keys_twice : (keys : List (Bor Name × Bor Name)) → option_map pair (first_twice same_keys keys) ≡ first_twice is_pin (map pair keys)
keys_twice keys =
    ap (option_map pair) (first_again-alike same_keys (λ a b. is_pin (pair a) (pair b)) [] keys keys_alike)
    ∙ first_again-map pair is_pin [] keys

pub returns : goal.returns
returns c =
    ap (option_map pair) (c.in_ok-first_twice.ensures ∙ ap (first_twice same_keys) c.deref.ensures.value)
    ∙ keys_twice c.in_ok-keys.keys.items
    ∙ ap (first_twice is_pin) c.in_ok-keys.ensures
