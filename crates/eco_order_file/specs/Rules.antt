-- The rules that an order alone decides, in their order: 3, 4 and 5. Each is tested on the whole order before the next one: on
-- its name, on who orders it, on its nets, on its gates, on its moves.
use Rattle.std.specs.Prelude.{ℕ, nat_lt, Bool, not, ◌&&◌, List, [], ◌∷◌, ◌++◌, map, length, Option, Some, None, if◌then◌else◌}
use Rattle.std.specs.Option.{option_map}
use Rattle.std.specs.List.{find}
use Rattle.std.specs.Str.{byte, bytes_eq}
use Rattle.eco_common.specs.Options.{first_some}
use Rattle.eco_order_file.specs.declared.limits.TheConstants.{MAX_ORDER_NETS, MAX_ORDER_GATES, MAX_ORDER_MOVES}
use Rattle.eco_order_file.specs.declared.rule.Counted.{Counted}
use Rattle.eco_order_file.specs.declared.rule.Counted.TheVariants.{Nets, Gates, Moves}
use Rattle.eco_order_file.specs.declared.rule.Rule.{Rule}
use Rattle.eco_order_file.specs.declared.rule.Rule.TheVariants.{TooLarge, BadName, TwiceNamed}
use Rattle.eco_order_file.specs.Names.{Name, is_label, can_be_new}
use Rattle.eco_order_file.specs.Orders.{Move, Order}
use Rattle.eco_order_file.specs.Repeats.{first_twice}

-- ---- 3: at most 640 nets, 128 gates and 512 moves

abbrev pub too_many : {A : Type 0} → Counted → ℕ → List A → Option Rule
too_many what most xs = if nat_lt most (length xs) then Some (TooLarge what (length xs)) else None

abbrev pub too_large : Order → Option Rule
too_large o = first_some (too_many Nets MAX_ORDER_NETS o.nets ∷ too_many Gates MAX_ORDER_GATES o.gates ∷ too_many Moves MAX_ORDER_MOVES o.moves ∷ [])

-- ---- 4: names have their form

abbrev pub gate_names : Order → List Name
gate_names o = map (λ g. g.name) o.gates

abbrev pub no_label : List Name → Option Name
no_label names = find (λ n. not (is_label n)) names

abbrev pub no_new_net : List Name → Option Name
no_new_net names = find (λ n. not (can_be_new n)) names

abbrev pub bad_name : Order → Option Rule
bad_name o = option_map BadName (first_some (no_label (o.name ∷ o.by ∷ []) ∷ no_new_net o.nets ∷ no_label (gate_names o) ∷ []))

-- ---- 5: no net, no gate and no moved pin stands twice

-- a moved pin by its names, as a/b and c, which is another pin than a and b/c
abbrev pub pin_of : Move → Name × Name
pin_of m = (m.comp, m.pin)

abbrev pub is_pin : Name × Name → Name × Name → Bool
is_pin p q = bytes_eq p.0 q.0 && bytes_eq p.1 q.1

-- comp/pin
abbrev pub pin_text : Name × Name → Name
pin_text p = p.0 ++ byte "/" ∷ p.1

abbrev pub moved_twice : Order → Option Name
moved_twice o = option_map pin_text (first_twice is_pin (map pin_of o.moves))

abbrev pub twice_named : Order → Option Rule
twice_named o = option_map TwiceNamed (first_some (first_twice bytes_eq o.nets ∷ first_twice bytes_eq (gate_names o) ∷ moved_twice o ∷ []))

-- ---- all of them

-- the first broken rule of those that the order alone decides
abbrev pub broken_alone : Order → Option Rule
broken_alone o = first_some (too_large o ∷ bad_name o ∷ twice_named o ∷ [])
