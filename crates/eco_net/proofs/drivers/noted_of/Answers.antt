use Rattle.std.proofs.Common.{◌≡◌, ◌∙◌, ap, length, replicate, rules, arith}
use Rattle.eco_net.specs.declared.drivers.Driving.TheVariants.{None as Undriven}
use Rattle.eco_net.specs.Driving.{each_driving, pins_before}
use Rattle.eco_net.proofs.Noted.{none_noted, before_all}
use Rattle.eco_net.proofs.drivers.noted_of.Goals as goal

pub note_tops-requires : goal.note_tops-requires
note_tops-requires c =
    let L = c.args.listed.now in
    let same : c.in_ok-driving.driving.items ≡ replicate c.net_count.result Undriven = search (rules, c.in_ok-driving.ensures.items_if_clones_equal) in
    c.deref_mut.ensures.value ∙ same ∙ ap (λ n. replicate n Undriven) c.net_count.ensures.count ∙ none_noted L

pub returns : goal.returns
returns c =
    let L = c.args.listed.now in
    let end : c.loop-comp.comp ≡ length L.comps = omega (arith, c.loop-comp-test.false, c.loop-comp.auto.comp-end, c.comp_count-comp-end.ensures) in
    c.loop-comp.invariant ∙ ap (each_driving L) (ap (pins_before L) end ∙ before_all L)
