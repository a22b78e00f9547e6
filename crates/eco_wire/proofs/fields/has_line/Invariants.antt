use Rattle.std.proofs.Common.{◌≡◌, drop, map}
use Rattle.httparse.specs.Spans.{header_bytes}
use Rattle.eco_wire.specs.Lines.{has_line}
use Rattle.eco_wire.proofs.fields.has_line.Given as goal

-- the lines that are left decide
abbrev pub invariant-loop-field : goal.invariant-loop-field
invariant-loop-field l =
    has_line l.name (map (header_bytes l.bytes) (drop l.field-index l.fields)) ≡ has_line l.name (map (header_bytes l.bytes) l.fields)
