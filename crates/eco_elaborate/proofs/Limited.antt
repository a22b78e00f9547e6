-- How much a design has, by the limits of its reading.
use Rattle.std.proofs.Common.{ℕ, ◌≤◌, arith, not, List, length, refl, filter}
use Rattle.std.proofs.lemmas.List.{length-map}
use Rattle.std.proofs.lemmas.List.Filters.{length-filter_both}
use Rattle.eco_common.specs.declared.limits.TheConstants.{MAX_NETS, MAX_COMPS, MAX_TOP_PINS}
use Rattle.eco_def.specs.declared.design.NetStatement.{NetStatement}
use Rattle.eco_def.specs.declared.design.Design.{Design}
use Rattle.eco_def.specs.Limits.{WithinLimits}
use Rattle.eco_def.specs.View.{comp_in, pin_in, net_in, design_in}

module _ (text : List ℕ) (d : Design) (limits : WithinLimits (design_in text d)) where
  pub few_nets : length d.nets ≤ MAX_NETS
  few_nets =
      let both = length-filter_both (λ (s : NetStatement). s.special) (λ s. not s.special) (λ s. refl) d.nets in
      let a = length-map (filter (λ (s : NetStatement). s.special) d.nets) (net_in text) in
      let b = length-map (filter (λ (s : NetStatement). not s.special) d.nets) (net_in text) in
      let l = limits.nets in
      omega (arith, both, a, b, l)

  pub few_comps : length d.comps ≤ MAX_COMPS
  few_comps = let l = limits.comps in let a = length-map d.comps (comp_in text) in omega (arith, a, l)

  pub few_pins : length d.pins ≤ MAX_TOP_PINS
  few_pins = let l = limits.pins in let a = length-map d.pins (pin_in text) in omega (arith, a, l)
