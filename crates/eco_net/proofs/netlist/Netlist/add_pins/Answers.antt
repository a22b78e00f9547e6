use Rattle.std.proofs.Common.{◌≡◌, ◌∙◌, ◌++◌, ◌∷◌, [], ◌+◌, sym, ap, List}
use Rattle.std.specs.List.{filter}
use Rattle.eco_net.specs.declared.ids.PinRef.{PinRef}
use Rattle.eco_net.specs.declared.ids.PinRef.TheVariants.{Pin}
use Rattle.eco_net.specs.ByNumber.{pins_to}
use Rattle.eco_net.specs.Seen.{is_seen, same_seen}
use Rattle.eco_net.proofs.ByNets.{pins_more}
use Rattle.eco_net.proofs.SeenNames.{kept, passed}
use Rattle.eco_net.proofs.netlist.Netlist.add_pins.Goals as goal
use Rattle.eco_net.proofs.netlist.Netlist.add_pins.Goals.{then-is+in_ok-push, else-is}

pub loop-number-preserved : goal.loop-number-preserved
loop-number-preserved c =
    let test = is_seen c.args.self.now c.args.seen in
    let before : List PinRef = c.args.found.now.items in
    let k = c.loop-number.number in
    let p : PinRef = Pin (record { 0 = c.args.comp }) k in
    let seen : c.is.result ≡ test p = c.is.ensures ∙ ap (same_seen c.args.seen) c.seen_at.ensures in
    let more : before ++ filter test (pins_to c.args.comp k ++ p ∷ []) ≡ before ++ filter test (pins_to c.args.comp (k + 1)) = ap (λ ps. before ++ filter test ps) (sym (pins_more c.args.comp k)) in
    elim c.if-is.branch [
      | then-is+in_ok-push w ↦
          ap (λ v. v.items) w.found-is
          ∙ w.in_ok-push.ensures.items
          ∙ ap (λ (xs : List PinRef). xs ++ p ∷ []) c.loop-number.invariant
          ∙ kept test before (pins_to c.args.comp k) p (sym seen ∙ w.if-is.true)
          ∙ more
      | else-is w ↦
          ap (λ v. v.items) w.found-is
          ∙ c.loop-number.invariant
          ∙ passed test before (pins_to c.args.comp k) p (sym seen ∙ w.if-is.false)
          ∙ more
    ]
