use Rattle.std.proofs.Common.{◌≡◌, ◌∙◌, ◌++◌, ◌∷◌, [], ◌+◌, sym, ap, List}
use Rattle.std.specs.List.{filter}
use Rattle.eco_net.specs.declared.ids.PinRef.{PinRef}
use Rattle.eco_net.specs.declared.ids.PinRef.TheVariants.{Top}
use Rattle.eco_net.specs.ByNumber.{is_net, is_on, end_of, tops_to}
use Rattle.eco_net.proofs.ByNets.{tops_more}
use Rattle.eco_net.proofs.SeenNames.{kept, passed}
use Rattle.eco_net.proofs.net_pins.add_tops.Goals as goal
use Rattle.eco_net.proofs.net_pins.add_tops.Goals.{then-is_net+in_ok-push, else-is_net}

pub loop-top-preserved : goal.loop-top-preserved
loop-top-preserved c =
    let test = is_on c.args.listed.now c.args.net in
    let before : List PinRef = c.args.found.now.items in
    let k = c.loop-top.top in
    let p : PinRef = Top (record { 0 = k }) in
    let on : c.is_net.result ≡ test p = c.is_net.ensures ∙ ap (λ o. is_net (end_of o) c.args.net) (sym c.top.ensures.at) in
    let more : before ++ filter test (tops_to k ++ p ∷ []) ≡ before ++ filter test (tops_to (k + 1)) = ap (λ ps. before ++ filter test ps) (sym (tops_more k)) in
    elim c.if-is_net.branch [
      | then-is_net+in_ok-push w ↦
          ap (λ v. v.items) w.found-is
          ∙ w.in_ok-push.ensures.items
          ∙ ap (λ (xs : List PinRef). xs ++ p ∷ []) c.loop-top.invariant
          ∙ kept test before (tops_to k) p (sym on ∙ w.if-is_net.true)
          ∙ more
      | else-is_net w ↦
          ap (λ v. v.items) w.found-is
          ∙ c.loop-top.invariant
          ∙ passed test before (tops_to k) p (sym on ∙ w.if-is_net.false)
          ∙ more
    ]
