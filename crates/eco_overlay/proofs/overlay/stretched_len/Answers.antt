use Rattle.std.proofs.Common.{arith, length, get_or}
use Rattle.eco_overlay.specs.declared.stretch.Stretch.{Stretch}
use Rattle.eco_issued_laws.specs.Issued.{edited}
use Rattle.eco_overlay.specs.Overlays.{edits_of}
use Rattle.eco_overlay.proofs.Editing.{order_on, rises_on, length_on}
use Rattle.eco_overlay.proofs.overlay.stretched_len.Goals as goal

pub loop-stretch-preserved : goal.loop-stretch-preserved
loop-stretch-preserved c =
    let d : Stretch = record { start = 0; end = 0; upto = 0 } in
    let i = c.loop-stretch.invariant in
    let n = c.loop-stretch.stretch-index in
    let text = c.args.text.now in
    let bytes = c.args.bytes.now in
    let ss = c.args.stretches.now in
    let s = get_or ss n d in
    let o = order_on bytes i.0 i.1 (length text) n ss d c.loop-stretch-test.true i.3 in
    rw c.from-replaced.ensures (
      s.end,
      s.upto,
      omega (arith, o.0, o.1, i.2),
      o.2,
      (rises_on i.1 (length bytes) n ss d c.loop-stretch-test.true i.4).1,
      length_on text bytes (length (edited text 0 (edits_of bytes 0 ss))) c.loop-stretch.replaced i.0 i.1 n ss d c.loop-stretch-test.true i.3 i.4 i.5,
    )
