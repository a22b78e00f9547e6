use Rattle.std.proofs.Common.{length, nat_le, ap, ◌∙◌}
use Rattle.eco_common.specs.declared.limits.TheConstants.{MAX_MASTERS}
use Rattle.eco_text.specs.Cursor.{token}
use Rattle.eco_lef.specs.Known.{names_of}
use Rattle.eco_common.specs.NameBytes.{is_among}
use Rattle.eco_lef.specs.Parsing.{unused_name, new_name}
use Rattle.eco_lef.specs.Reading.{left}
use Rattle.eco_lef.proofs.Telling.{reads_as}
use Rattle.eco_lef.proofs.reader.Reader.master_name.Goals as goal

pub returns : goal.returns
returns c =
    let heading = c.args.heading.now in
    let known = is_among (names_of c.args.library.now) in
    let full = nat_le MAX_MASTERS (length c.args.library.now) in
    let reads = rw c.len.ensures at c.unused_name.ensures in
    reads_as 1 token (unused_name heading c.has-known.result full) (new_name heading known full) c.args.self.now.words c.unused_name.new.self.words c.unused_name.result
    (ap (λ k. unused_name heading k full (left c.args.self.now.words)) (c.has-known.ensures ∙ ap known c.bytes_ahead.ensures)) reads
