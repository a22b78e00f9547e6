use Rattle.std.proofs.Common.{◌≡◌, ◌∙◌, List, map, sym, ap, subst}
use Rattle.std.specs.List.{Contains, AllZip}
use Rattle.std.specs.Borrow.{Bor}
use Rattle.eco_net.specs.Netlist.{Name}
use Rattle.eco_net.specs.Listing.{FindsComp}
use Rattle.eco_elaborate.specs.declared.stated_joint.StatedJoint.{StatedJoint}
use Rattle.eco_text.specs.Cursor.{word_bytes}
use Rattle.eco_elaborate.proofs.Waiting.{zip_named}
use Rattle.eco_elaborate.proofs.found_pins.settle.Goals as goal

pub add_joints-requires-clause-found : goal.add_joints-requires-clause-found
add_joints-requires-clause-found g c =
    let L = c.args.lookup.now.maker.now in
    let word = λ (s : StatedJoint). word_bytes c.args.lookup.now.text.now s.comp in
    let names : map (λ (n : Bor Name). n.now) c.deref-2.result.now ≡ map word c.deref-3.result.now =
    ap (map (λ (n : Bor Name). n.now)) c.deref-2.ensures.value ∙ c.in_ok-names.ensures ∙ ap (map word) (c.deref.ensures.value ∙ sym c.deref-3.ensures.value) in
    zip_named (λ n o. FindsComp L n o) word c.deref-2.result.now c.deref-3.result.now c.deref-4.result.now names
    (subst (AllZip (λ n o. FindsComp L n.now o) c.deref-2.result.now) (sym c.deref-4.ensures.value) c.in_ok-found.ensures)

pub add_joints-requires-clause-nets : goal.add_joints-requires-clause-nets
add_joints-requires-clause-nets g c s h = c.requires.nets s (subst (λ (ss : List StatedJoint). Contains ss s) c.deref-3.ensures.value h)
