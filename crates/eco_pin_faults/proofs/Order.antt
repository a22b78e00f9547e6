-- The places of a design, side by side.
use Rattle.std.proofs.Common.{◌≡◌, ℕ, nat_lt, Bool, true, false, not, is_some, List, [], ◌∷◌, ◌++◌, length, map, take, get_or, Option, refl, sym, ap, ◌∙◌, subst, ◌+◌, ◌<◌}
use Rattle.std.specs.List.{find, filter}
use Rattle.std.specs.Option.{option_map, option_or}
use Rattle.std.proofs.lemmas.List.{take_more}
use Rattle.eco_def.specs.declared.design.NetStatement.{NetStatement}
use Rattle.eco_def.specs.declared.design.TopPin.{TopPin}
use Rattle.eco_def.specs.declared.design.Design.{Design}
use Rattle.eco_net.specs.Netlist.{Name}
use Rattle.eco_elaborate.proofs.Members.{filter_all}
use Rattle.eco_pin_faults.specs.declared.placed_pin.PlacedPin.{PlacedPin}
use Rattle.eco_pin_faults.specs.declared.side.Side.{Side}
use Rattle.eco_pin_faults.specs.declared.side.Side.TheVariants.{Before, Behind, Both}
use Rattle.eco_pin_faults.specs.Held.{place_by, takes, net_by, AddsPlaces}
use Rattle.eco_pin_faults.specs.Faults.{first_net}
use Rattle.eco_pin_faults.specs.Places.{PinPlace, joints_among, top_place, pins_start, places}
use Rattle.eco_pin_faults.proofs.Lists.{some_map, in_front, behind, side_append}
use Rattle.eco_pin_faults.proofs.Maps.{Nets, more_added, no_nets}

pub both_sides : (text : List ℕ) (nets : List NetStatement) → joints_among text (filter (takes Both) nets) ≡ joints_among text nets
both_sides text nets = ap (joints_among text) (filter_all (takes Both) nets (λ s h. refl))

module _ (text : List ℕ) (d : Design) (nets : List NetStatement) (pins : List TopPin) (n : ℕ) (en : nets ≡ d.nets) (ep : pins ≡ d.pins) (es : n ≡ pins_start pins) where
  abbrev at : ℕ
  at = pins_start d.pins

  abbrev front : List PinPlace
  front = joints_among text (filter (λ s. nat_lt s.start at) d.nets)

  abbrev tops : List PinPlace
  tops = map (top_place text) d.pins

  abbrev back : List PinPlace
  back = joints_among text (filter (λ s. not (nat_lt s.start at)) d.nets)

  start_is : n ≡ at
  start_is = es ∙ ap pins_start ep

  front_is : joints_among text (filter (takes (Before n)) nets) ≡ front
  front_is = ap (λ m. joints_among text (filter (takes (Before m)) nets)) start_is ∙ ap (λ ns. joints_among text (filter (takes (Before at)) ns)) en

  back_is : joints_among text (filter (takes (Behind n)) nets) ≡ back
  back_is = ap (λ m. joints_among text (filter (takes (Behind m)) nets)) start_is ∙ ap (λ ns. joints_among text (filter (takes (Behind at)) ns)) en

  tops_is : map (top_place text) pins ≡ tops
  tops_is = ap (map (top_place text)) ep

  module _ (p : PinPlace → Bool) (o : Option PlacedPin) (eo : option_map place_by o ≡ find p (joints_among text (filter (takes (Before n)) nets))) where
    pub found_before : is_some o ≡ true → option_map place_by o ≡ find p (places text d)
    found_before s = in_front p front (tops ++ back) (option_map place_by o) (eo ∙ ap (find p) front_is) (some_map place_by o ∙ s)

    rest : is_some o ≡ false → find p (places text d) ≡ find p (tops ++ back)
    rest s = behind p front (tops ++ back) (option_map place_by o) (eo ∙ ap (find p) front_is) (some_map place_by o ∙ s)

    module _ (none : is_some o ≡ false) (t : Option PlacedPin) (et : option_map place_by t ≡ find p (map (top_place text) pins)) where
      pub found_top : is_some t ≡ true → option_map place_by t ≡ find p (places text d)
      found_top s = in_front p tops back (option_map place_by t) (et ∙ ap (find p) tops_is) (some_map place_by t ∙ s) ∙ sym (rest none)

      pub found_behind : is_some t ≡ false → find p (joints_among text (filter (takes (Behind n)) nets)) ≡ find p (places text d)
      found_behind s = ap (find p) back_is ∙ sym (behind p tops back (option_map place_by t) (et ∙ ap (find p) tops_is) (some_map place_by t ∙ s)) ∙ sym (rest none)

  pub all_added : (a b c m : Nets) → a.entries ≡ [] → AddsPlaces a b (joints_among text (filter (takes (Before n)) nets)) → AddsPlaces b c (map (top_place text) pins) → AddsPlaces c m (joints_among text (filter (takes (Behind n)) nets)) →
      (comp pin : Name) → net_by m comp pin ≡ first_net (places text d) comp pin
  all_added a b c m e f g h comp pin =
      let f' : AddsPlaces a b front = subst (AddsPlaces a b) front_is f in
      let g' : AddsPlaces b c tops = subst (AddsPlaces b c) tops_is g in
      let h' : AddsPlaces c m back = subst (AddsPlaces c m) back_is h in
      more_added front (tops ++ back) a b m f' (more_added tops back b c m g' h') comp pin
      ∙ ap (λ o. option_or o (first_net (places text d) comp pin)) (no_nets a e comp pin)

-- the joints of one statement more
pub side_more : (text : List ℕ) (side : Side) (ss : List NetStatement) (i : ℕ) (s : NetStatement) → i < length ss → s ≡ get_or ss i s →
    joints_among text (filter (takes side) (take (i + 1) ss)) ≡ joints_among text (filter (takes side) (take i ss)) ++ joints_among text (filter (takes side) (s ∷ []))
side_more text side ss i s h e =
    ap (λ ys. joints_among text (filter (takes side) ys)) (take_more ss i s h)
    ∙ side_append text side (take i ss) (get_or ss i s ∷ [])
    ∙ ap (λ x. joints_among text (filter (takes side) (take i ss)) ++ joints_among text (filter (takes side) (x ∷ []))) (sym e)
