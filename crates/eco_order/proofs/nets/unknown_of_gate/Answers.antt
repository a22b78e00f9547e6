use Rattle.std.proofs.Common.{◌≡◌, Bool, true, false, not, cond, List, [], ◌∷◌, ◌++◌, Some, None, sym, ap, ◌∙◌}
use Rattle.std.specs.List.{find}
use Rattle.eco_net.specs.Netlist.{Name}
use Rattle.eco_net.specs.Listing.{Listing, netlist}
use Rattle.eco_order.specs.Rules.{is_known}
use Rattle.eco_order.proofs.Found.{find_front, find_past}
use Rattle.eco_order.proofs.nets.unknown_of_gate.Goals as goal

abbrev known : Listing → List Name → Name → Bool
known L new n = is_known (netlist L) new n

abbrev unknown : Listing → List Name → Name → Bool
unknown L new n = not (is_known (netlist L) new n)

at_last : (p : Name → Bool) (inputs : List Name) (output : Name) (b : Bool) → None ≡ find p inputs → p output ≡ b → cond b (Some output) None ≡ find p (inputs ++ output ∷ [])
at_last p inputs output b e f = ap (λ c. cond c (Some output) None) (sym f) ∙ sym (find_past p inputs (output ∷ []) e)

pub returns-in-Some : goal.returns-in-Some
returns-in-Some c =
    let p = unknown c.args.net.now c.args.new.now in
    find_front p c.args.gate.now.inputs (c.args.gate.now.output ∷ []) c.in-Some.name.now (c.in-Some.ensures ∙ ap (find p) c.inputs.ensures.value)

pub returns-then-not-is_known : goal.returns-then-not-is_known
returns-then-not-is_known c =
    let p = unknown c.args.net.now c.args.new.now in
    let k = known c.args.net.now c.args.new.now in
    ap Some c.output-then-not-is_known.ensures
    ∙ at_last p c.args.gate.now.inputs c.args.gate.now.output true (c.in_default.ensures ∙ ap (find p) c.inputs.ensures.value)
    (ap not (sym (ap k (c.bytes.ensures ∙ c.output.ensures)) ∙ sym c.is_known.ensures ∙ c.if-not-is_known.true))

pub returns : goal.returns
returns c =
    let p = unknown c.args.net.now c.args.new.now in
    let k = known c.args.net.now c.args.new.now in
    at_last p c.args.gate.now.inputs c.args.gate.now.output false (c.in_default.ensures ∙ ap (find p) c.inputs.ensures.value)
    (ap not (sym (ap k (c.bytes.ensures ∙ c.output.ensures)) ∙ sym c.is_known.ensures ∙ c.if-not-is_known.false))
