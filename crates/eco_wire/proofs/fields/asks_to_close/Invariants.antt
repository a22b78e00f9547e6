use Rattle.std.proofs.Common.{◌≡◌, drop, map}
use Rattle.httparse.specs.Spans.{header_bytes}
use Rattle.eco_wire.specs.Lines.{asks_to_close}
use Rattle.eco_wire.proofs.fields.asks_to_close.Given as goal

-- the lines that are left decide
abbrev pub invariant-loop-field : goal.invariant-loop-field
invariant-loop-field l =
    asks_to_close (map (header_bytes l.bytes) (drop l.field-index l.fields)) ≡ asks_to_close (map (header_bytes l.bytes) l.fields)
