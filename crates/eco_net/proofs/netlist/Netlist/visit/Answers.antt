use Rattle.std.proofs.Common.{◌∙◌, ◌<◌, ap, sym, refl, Some, length, arith, not}
use Rattle.std.proofs.lemmas.Option.{slice_get_read}
use Rattle.eco_net.proofs.KindPins.{some_of}
use Rattle.eco_net.proofs.netlist.Netlist.visit.Goals as goal

pub settle-requires-clause-computed : goal.settle-requires-clause-computed
settle-requires-clause-computed c =
    let s = some_of c.gate_of.result (c.is_none.ensures ∙ ap not c.if-is_none.false) in
    (s.0, sym c.gate_of.ensures ∙ s.1)

pub settle-requires-clause-unseen : goal.settle-requires-clause-unseen
settle-requires-clause-unseen c =
    let ms = c.args.search.now.marks.items in
    let h : c.args.net < length ms = omega (arith, c.requires.known, c.requires.is_search.sized) in
    slice_get_read ms (length ms) c.args.net c.index.result.now refl h c.index.ensures ∙ ap Some (c.is_unseen.ensures.0 c.if-not-is_unseen.false)
