use Rattle.std.proofs.Common.{◌≡◌, ◌∙◌, ◌++◌, ◌∷◌, [], ◌+◌, sym, ap, List}
use Rattle.std.specs.List.{filter}
use Rattle.eco_net.specs.declared.ids.PinRef.{PinRef}
use Rattle.eco_net.specs.declared.ids.PinRef.TheVariants.{Top}
use Rattle.eco_net.specs.declared.observables.Seen.TheVariants.{AtChip}
use Rattle.eco_net.specs.ByNumber.{tops_to}
use Rattle.eco_net.specs.Seen.{is_seen, same_seen}
use Rattle.eco_net.proofs.ByNets.{tops_more}
use Rattle.eco_net.proofs.SeenNames.{kept, passed}
use Rattle.eco_net.proofs.netlist.Netlist.add_tops.Goals as goal
use Rattle.eco_net.proofs.netlist.Netlist.add_tops.Goals.{then-is+in_ok-push, else-is}

pub loop-top-preserved : goal.loop-top-preserved
loop-top-preserved c =
    let test = is_seen c.args.self.now AtChip in
    let before : List PinRef = c.args.found.now.items in
    let k = c.loop-top.top in
    let p : PinRef = Top (record { 0 = k }) in
    let seen : c.is.result ≡ test p = c.is.ensures ∙ ap (same_seen AtChip) c.seen_at.ensures in
    let more : before ++ filter test (tops_to k ++ p ∷ []) ≡ before ++ filter test (tops_to (k + 1)) = ap (λ ps. before ++ filter test ps) (sym (tops_more k)) in
    elim c.if-is.branch [
      | then-is+in_ok-push w ↦
          ap (λ v. v.items) w.found-is
          ∙ w.in_ok-push.ensures.items
          ∙ ap (λ (xs : List PinRef). xs ++ p ∷ []) c.loop-top.invariant
          ∙ kept test before (tops_to k) p (sym seen ∙ w.if-is.true)
          ∙ more
      | else-is w ↦
          ap (λ v. v.items) w.found-is
          ∙ c.loop-top.invariant
          ∙ passed test before (tops_to k) p (sym seen ∙ w.if-is.false)
          ∙ more
    ]
