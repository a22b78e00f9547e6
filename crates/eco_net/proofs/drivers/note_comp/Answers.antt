use Rattle.std.proofs.Common.{◌≡◌, ◌∙◌, ◌++◌, sym, ap, length, arith, Some}
use Rattle.eco_net.specs.declared.ids.PinRef.TheVariants.{Pin}
use Rattle.eco_net.specs.Drivers.{is_driving}
use Rattle.eco_net.specs.Listing.{pins}
use Rattle.eco_net.specs.ByNumber.{drives, role_at, pins_to}
use Rattle.eco_net.specs.Driving.{each_driving, pins_before}
use Rattle.eco_net.proofs.Noted.{noted_length, noted, sink_passed, off_passed, before_pin, before_comp}
use Rattle.eco_net.proofs.ByNets.{joint_of}
use Rattle.eco_net.proofs.drivers.note_comp.Goals as goal
use Rattle.eco_net.proofs.drivers.note_comp.Goals.{in-Some+then-is_driving, in-Some+else-is_driving, in_default}

pub bounds-driving-net : goal.bounds-driving-net
bounds-driving-net c =
    omega (arith, c.comp-row.ensures.row.known c.loop-pin.pin c.in-Some.net (c.get.ensures ∙ ap Some c.in-Some.is), ap length c.loop-pin.invariant, noted_length c.args.listed.now (pins_before c.args.listed.now c.args.comp ++ pins_to c.args.comp c.loop-pin.pin))

pub loop-pin-preserved : goal.loop-pin-preserved
loop-pin-preserved c =
    let L = c.args.listed.now in
    let k = c.loop-pin.pin in
    let p = Pin (record { 0 = c.args.comp }) k in
    let ps = pins_before L c.args.comp ++ pins_to c.args.comp k in
    let joint = joint_of L c.args.comp k c.comp-row.result.now c.get.result c.comp-row.ensures.at c.get.ensures in
    let more = ap (each_driving L) (before_pin L c.args.comp k) in
    elim c.match-get.branch [
      | in-Some+then-is_driving w ↦
          let is : drives L p ≡ w.is_driving.result = ap (λ o. is_driving (role_at o k)) c.comp-row.ensures.at ∙ ap is_driving w.pin_use.ensures ∙ sym w.is_driving.ensures in
          w.driving-is
          ∙ noted L ps p w.in-Some.net (joint ∙ w.in-Some.is) (is ∙ w.if-is_driving.true) c.loop-pin.driving w.note.new.self _ c.loop-pin.invariant (c.comp-row.ensures.row.known k w.in-Some.net (c.get.ensures ∙ ap Some w.in-Some.is)) w.note.ensures
          ∙ more
      | in-Some+else-is_driving w ↦
          let is : drives L p ≡ w.is_driving.result = ap (λ o. is_driving (role_at o k)) c.comp-row.ensures.at ∙ ap is_driving w.pin_use.ensures ∙ sym w.is_driving.ensures in
          w.driving-is ∙ c.loop-pin.invariant ∙ sink_passed L ps p (is ∙ w.if-is_driving.false) ∙ more
      | in_default w ↦ w.driving-is ∙ c.loop-pin.invariant ∙ off_passed L ps p (joint ∙ w.in_default.is) ∙ more
    ]

pub returns : goal.returns
returns c =
    let L = c.args.listed.now in
    let end : c.loop-pin.pin ≡ length (pins c.comp-row.result.now) = omega (arith, c.loop-pin-test.false, c.loop-pin.auto.pin-end, c.len-pin-end.ensures, c.comp-row.ensures.row.each_pin) in
    c.loop-pin.invariant
    ∙ ap (each_driving L) (ap (λ k. pins_before L c.args.comp ++ pins_to c.args.comp k) end ∙ before_comp L c.args.comp c.comp-row.result.now c.comp-row.ensures.at c.requires.known)
