-- The first joint of no pin, the first pin on two nets, and the first pattern on a signal pin.
use Rattle.std.specs.Prelude.{ℕ, Bool, false, not, ◌&&◌, ◌||◌, List, [], ◌++◌, Option, Some, None, codes, if◌then◌else◌}
use Rattle.std.specs.List.{list_any, find}
use Rattle.std.specs.Option.{option_map, unwrap_or}
use Rattle.std.specs.Str.{bytes_eq}
use Rattle.eco_def.specs.declared.design.Design.{Design}
use Rattle.eco_def.specs.Named.{NamedPin, NamedDesign, names_of}
use Rattle.eco_def.specs.View.{design_in}
use Rattle.eco_net.specs.Netlist.{Name}
use Rattle.eco_elaborate.specs.Netlists.{Kinds, Powers}
use Rattle.eco_pin_faults.specs.declared.faults.UnknownPin.{UnknownPin}
use Rattle.eco_pin_faults.specs.declared.faults.TwoNets.{TwoNets}
use Rattle.eco_pin_faults.specs.declared.faults.Pattern.{Pattern}
use Rattle.eco_pin_faults.specs.Places.{PinPlace, top_word, every_word, joints, places}
use Rattle.eco_pin_faults.specs.Pins.{Parts, parts_of, has_signal, is_signal, is_supply}

-- the names of a design
abbrev pub named : List ℕ → Design → NamedDesign
named text d = names_of (design_in text d)

-- ---- joints of no pin

-- * in SPECIALNETS stands for every component that has the pin, and for none where none has it
abbrev pub is_every : PinPlace → Bool
is_every p = p.special && bytes_eq p.comp every_word

abbrev pub is_unknown : Kinds → Powers → Parts → PinPlace → Bool
is_unknown kinds powers P p = not (is_every p) && (not (is_signal kinds P p.comp p.pin) && not (is_supply powers P p.comp p.pin))

abbrev pub first_unknown : Kinds → Powers → List ℕ → Design → Option PinPlace
first_unknown kinds powers text d = find (is_unknown kinds powers (parts_of (named text d))) (joints text d)

-- ---- pins on two nets

abbrev pub is_of : Name → Name → PinPlace → Bool
is_of comp pin p = bytes_eq p.comp comp && bytes_eq p.pin pin

-- the net at the first place of a pin
abbrev pub first_net : List PinPlace → Name → Name → Option Name
first_net ps comp pin = option_map (λ p. p.net) (find (is_of comp pin) ps)

abbrev pub differs : Option Name → Name → Bool
differs None n = false
differs (Some first) n = not (bytes_eq first n)

-- the place of a pin that isn't supply, on another net than at the pin's first place
abbrev pub is_on_second : Kinds → Parts → List PinPlace → PinPlace → Bool
is_on_second kinds P ps p = differs (first_net ps p.comp p.pin) p.net && is_signal kinds P p.comp p.pin

abbrev pub first_differing : Kinds → List ℕ → Design → Option PinPlace
first_differing kinds text d = find (is_on_second kinds (parts_of (named text d)) (places text d)) (places text d)

-- ---- patterns on signal pins

-- * with a pin that isn't supply on some component's master
abbrev pub is_pattern : Kinds → NamedDesign → PinPlace → Bool
is_pattern kinds d p = is_every p && list_any (λ c. has_signal (kinds.kind c.model) p.pin) d.comps

abbrev pub first_pattern : Kinds → List ℕ → Design → Option PinPlace
first_pattern kinds text d = find (is_pattern kinds (named text d)) (joints text d)

-- ---- joints that name no component

abbrev pub is_on : Option NamedPin → Name → Bool
is_on None n = false
is_on (Some t) n = t.supply || bytes_eq t.net n

-- a joint of PIN names a top pin, which is supply or has the joint's net, and a joint of * stands in SPECIALNETS
abbrev pub is_right : NamedDesign → PinPlace → Bool
is_right d p = if bytes_eq p.comp top_word then is_on (find (λ t. bytes_eq t.name p.pin) d.pins) p.net else (p.special || not (bytes_eq p.comp every_word))

-- ---- what is told

abbrev pub unknown_at : PinPlace → UnknownPin
unknown_at p = record { net = p.net; place = p.at }

abbrev pub pattern_at : PinPlace → Pattern
pattern_at p = record { net = p.net; pin = p.pin }

-- comp/pin, the net at its first place, and the net that differs
abbrev pub two_nets_at : Option Name → PinPlace → TwoNets
two_nets_at first p = record { pin = (p.comp ++ codes "/") ++ p.pin; first = unwrap_or first []; second = p.net }
