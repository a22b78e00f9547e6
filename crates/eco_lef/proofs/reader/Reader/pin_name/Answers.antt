use Rattle.std.proofs.Common.{false, ap, ◌∙◌}
use Rattle.eco_text.specs.Cursor.{token}
use Rattle.eco_lef.specs.Known.{pin_names}
use Rattle.eco_common.specs.NameBytes.{is_among}
use Rattle.eco_lef.specs.Parsing.{unused_name, new_name}
use Rattle.eco_lef.specs.Reading.{left}
use Rattle.eco_lef.proofs.Telling.{reads_as}
use Rattle.eco_lef.proofs.reader.Reader.pin_name.Goals as goal

pub returns : goal.returns
returns c =
    let inside = c.args.inside.now in
    let known = is_among (pin_names c.args.pins.now) in
    reads_as 1 token (unused_name inside c.has-known.result false) (new_name inside known false) c.args.self.now.words c.unused_name.new.self.words c.unused_name.result
    (ap (λ k. unused_name inside k false (left c.args.self.now.words)) (c.has-known.ensures ∙ ap known c.bytes_ahead.ensures)) c.unused_name.ensures
