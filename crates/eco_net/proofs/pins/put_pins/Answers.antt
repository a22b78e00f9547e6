use Rattle.std.proofs.Common.{◌<◌, ◌∙◌, ◌++◌, sym, ap, length, take, arith}
use Rattle.std.proofs.lemmas.List.{append_assoc}
use Rattle.eco_net.specs.ByNumber.{tops_to, pins_to, comp_pins, pin_count, pins_at}
use Rattle.eco_net.proofs.Places.{at_place}
use Rattle.eco_net.proofs.ByNets.{comp_more}
use Rattle.eco_net.proofs.Filling.{step_ends, step_few, step_more, some_few}
use Rattle.eco_net.proofs.pins.put_pins.Goals as goal

pub put_comp-requires-clause-each_net : goal.put_comp-requires-clause-each_net
put_comp-requires-clause-each_net c =
    step_ends c.args.listed.now c.args.on.now c.loop-comp.on (tops_to (length c.args.listed.now.tops) ++ comp_pins 0 (take c.loop-comp.comp c.args.listed.now.comps)) c.loop-comp.invariant ∙ c.requires.each_net

pub put_comp-requires-clause-few : goal.put_comp-requires-clause-few
put_comp-requires-clause-few c n =
    omega (arith, c.requires.few n, step_few c.args.listed.now c.args.on.now c.loop-comp.on (tops_to (length c.args.listed.now.tops) ++ comp_pins 0 (take c.loop-comp.comp c.args.listed.now.comps)) c.loop-comp.invariant n, some_few c.args.listed.now c.facts.ensures.listing c.loop-comp.comp)

pub loop-comp-preserved : goal.loop-comp-preserved
loop-comp-preserved c =
    let L = c.args.listed.now in
    let n = c.loop-comp.comp in
    let h : n < length L.comps = omega arith in
    let r = at_place L.comps n h in
    let tops = tops_to (length L.tops) in
    let before = comp_pins 0 (take n L.comps) in
    c.put_comp.ensures
    ∙ step_more L c.args.on.now c.loop-comp.on (tops ++ before) c.loop-comp.invariant (pins_to n (pin_count L n)) _
    (ap (λ ps. tops ++ ps) (comp_more L n r.0 r.1 h ∙ sym (ap (λ m. before ++ pins_to n m) (ap pins_at r.1))) ∙ sym (append_assoc tops before (pins_to n (pin_count L n))))
