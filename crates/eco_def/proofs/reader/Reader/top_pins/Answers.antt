use Rattle.std.proofs.Common.{map, codes, ap, sym, ◌∙◌, nat_lt, length, Some}
use Rattle.std.proofs.lemmas.List.{length-map}
use Rattle.std.proofs.lemmas.Result.{err_from_is_err_and}
use Rattle.eco_common.specs.declared.limits.TheConstants.{MAX_TOP_PINS}
use Rattle.eco_def.specs.Grammar.{top_pin_within, top_pin_new_within}
use Rattle.eco_text.specs.Tokens.{is_word}
use Rattle.eco_def.specs.View.{pin_in, pins_in}
use Rattle.eco_def.proofs.Loops.{one_pushed, stuck, map_push}
use Rattle.eco_def.proofs.Knowing.{known_more, read_known_in}
use Rattle.eco_def.proofs.reader.Reader.top_pins.Goals as goal

pub returns-in_err-pin : goal.returns-in_err-pin
returns-in_err-pin c =
    let i = c.pins.invariant in
    let front = map (pin_in c.args.self.now.words.text) c.pins.pins in
    let p = err_from_is_err_and c.from_residual.result c.from_residual.ensures.1 in
    rw (p.1, p.2)
    (stuck (is_word (codes "-")) (top_pin_within (Some MAX_TOP_PINS)) pin_in pins_in c.args.self.now.words front c.pins.self.words c.top_pin.new.self.words c.in_err-pin.field-0.0 i.1 c.pins-test.ensures
    (read_known_in 1 pin_in top_pin_new_within c.pins.names (map (λ k. k.name.bytes) front) c.pins.self.words c.top_pin.new.self.words _ _ (nat_lt (length front) MAX_TOP_PINS) (ap (λ k. nat_lt k MAX_TOP_PINS) (c.len-room.ensures ∙ sym (length-map c.pins.pins (pin_in c.args.self.now.words.text)))) i.0 c.in_err-pin.ensures.reads))

pub pins-preserved : goal.pins-preserved
pins-preserved c =
    let i = c.pins.invariant in
    let text = c.args.self.now.words.text in
    let front = map (pin_in text) c.pins.pins in
    let k = c.in_ok-pin.pin in (
      known_more c.pins.names c.top_pin.new.names (map (λ k. k.name.bytes) front) _ (pin_in text k).name.bytes
          (ap (λ ks. map (λ k. k.name.bytes) (map (pin_in text) ks)) c.in_ok-push.ensures.ok ∙ ap (map (λ k. k.name.bytes)) (map_push (pin_in text) c.pins.pins k) ∙ map_push (λ k. k.name.bytes) front (pin_in text k))
          i.0 (rw i.1.text at c.in_ok-pin.ensures.names),
      one_pushed (is_word (codes "-")) (top_pin_within (Some MAX_TOP_PINS)) pin_in c.args.self.now.words c.pins.pins c.push.new.self c.pins.self.words c.top_pin.new.self.words k c.in_ok-push.ensures.ok i.1 c.pins-test.ensures
          (read_known_in 1 pin_in top_pin_new_within c.pins.names (map (λ k. k.name.bytes) front) c.pins.self.words c.top_pin.new.self.words _ _ (nat_lt (length front) MAX_TOP_PINS) (ap (λ k. nat_lt k MAX_TOP_PINS) (c.len-room.ensures ∙ sym (length-map c.pins.pins (pin_in c.args.self.now.words.text)))) i.0 c.in_ok-pin.ensures.reads),
    )
