use Rattle.std.proofs.Common.{◌≡◌, ◌∙◌, ◌++◌, ◌∷◌, [], ◌+◌, sym, ap, List}
use Rattle.std.specs.List.{filter}
use Rattle.eco_net.specs.declared.ids.PinRef.{PinRef}
use Rattle.eco_net.specs.declared.ids.PinRef.TheVariants.{Pin}
use Rattle.eco_net.specs.ByNumber.{is_net, is_on, pins_to}
use Rattle.eco_net.proofs.ByNets.{pins_more, joint_of}
use Rattle.eco_net.proofs.SeenNames.{kept, passed}
use Rattle.eco_net.proofs.net_pins.add_pins.Goals as goal
use Rattle.eco_net.proofs.net_pins.add_pins.Goals.{then-is_net+in_ok-push, else-is_net}

pub loop-pin-preserved : goal.loop-pin-preserved
loop-pin-preserved c =
    let L = c.args.listed.now in
    let test = is_on L c.args.net in
    let before : List PinRef = c.args.found.now.items in
    let k = c.loop-pin.pin in
    let p : PinRef = Pin (record { 0 = c.args.comp }) k in
    let on : c.is_net.result ≡ test p = c.is_net.ensures ∙ ap (λ o. is_net o c.args.net) (sym (joint_of L c.args.comp k c.comp-row.result.now c.get.result c.comp-row.ensures.at c.get.ensures)) in
    let more : before ++ filter test (pins_to c.args.comp k ++ p ∷ []) ≡ before ++ filter test (pins_to c.args.comp (k + 1)) = ap (λ ps. before ++ filter test ps) (sym (pins_more c.args.comp k)) in
    elim c.if-is_net.branch [
      | then-is_net+in_ok-push w ↦
          ap (λ v. v.items) w.found-is
          ∙ w.in_ok-push.ensures.items
          ∙ ap (λ (xs : List PinRef). xs ++ p ∷ []) c.loop-pin.invariant
          ∙ kept test before (pins_to c.args.comp k) p (sym on ∙ w.if-is_net.true)
          ∙ more
      | else-is_net w ↦
          ap (λ v. v.items) w.found-is
          ∙ c.loop-pin.invariant
          ∙ passed test before (pins_to c.args.comp k) p (sym on ∙ w.if-is_net.false)
          ∙ more
    ]
