use Rattle.std.proofs.Common.{sym, ◌∙◌, ◌||◌, not}
use Rattle.eco_common.specs.KnownNames.{knows}
use Rattle.eco_issued_laws.specs.Changes.{is_nil}
use Rattle.eco_text.specs.Cursor.{word_bytes}
use Rattle.eco_overlay.specs.NetChanges.{moves_on}
use Rattle.eco_overlay.proofs.NetPins.{no_statement, one_statement}
use Rattle.eco_overlay.proofs.coming.add_stated.Goals as goal

pub returns-then-not-gets_pin : goal.returns-then-not-gets_pin
returns-then-not-gets_pin c q gets =
    no_statement c.args.added.now (word_bytes c.args.text.now c.args.net.now.name) q (c.args.either || not c.args.net.now.special) (knows c.args.names.now q) (sym c.gets_pin.ensures ∙ c.if-not-gets_pin.true) gets

pub returns : goal.returns
returns c q gets =
    one_statement (word_bytes c.args.text.now c.args.net.now.name) q (c.args.either || not c.args.net.now.special) (not (is_nil (moves_on c.args.added.now (word_bytes c.args.text.now c.args.net.now.name)))) _ (knows c.args.names.now q)
    (sym c.gets_pin.ensures ∙ c.if-not-gets_pin.false) (rw c.bytes_at.ensures at c.in_ok-add_name.ensures.names q)
