use Rattle.std.proofs.Common.{sym, ◌∙◌}
use Rattle.eco_text.specs.Cursor.{token}
use Rattle.eco_lef.specs.Parsing.{any, unused_name}
use Rattle.eco_lef.specs.Reading.{left}
use Rattle.eco_lef.proofs.Telling.{reads_as}
use Rattle.eco_lef.proofs.Passing.{unused_is}
use Rattle.eco_lef.proofs.reader.Reader.unused_name.Goals as goal

pub returns : goal.returns
returns c =
    let inside = c.args.inside.now in
    reads_as 1 token (any inside) (unused_name inside c.args.known c.args.full) c.args.self.now.words c.take.new.self.words c.take.result
    (unused_is inside c.args.known c.args.full (left c.args.self.now.words) (sym c.next_is_name.ensures ∙ c.if-not-next_is_name.false) c.if-known.false c.if-full.false) c.take.ensures
