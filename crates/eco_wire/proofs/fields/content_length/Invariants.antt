use Rattle.std.proofs.Common.{◌≡◌, drop, map}
use Rattle.std.specs.Prelude.{codes}
use Rattle.httparse.specs.Spans.{header_bytes}
use Rattle.eco_wire.specs.Lines.{values_of, content_length_of}
use Rattle.eco_wire.proofs.Lengths.{stated_with}
use Rattle.eco_wire.proofs.fields.content_length.Given as goal

-- what was stated so far, with the lines that are left
abbrev pub invariant-loop-field : goal.invariant-loop-field
invariant-loop-field l =
    stated_with l.stated (values_of (codes "content-length") (map (header_bytes l.bytes) (drop l.field-index l.fields)))
    ≡ content_length_of (values_of (codes "content-length") (map (header_bytes l.bytes) l.fields))
