use Rattle.std.proofs.Common.{rules, ◌≡◌, reverse, ap, sym, ◌∙◌}
use Rattle.std.proofs.lemmas.List.{reverse-reverse}
use Rattle.httparse.specs.Grammar.{trim_ows, skip_ows}
use Rattle.eco_wire.proofs.fields.is_close.Goals as goal

pub returns : goal.returns
unfolding trim_ows
returns c =
    let back : c.before_blanks.result.now ≡ reverse (skip_ows (reverse (skip_ows c.args.item.now))) =
    sym (reverse-reverse c.before_blanks.result.now) ∙ ap reverse (c.before_blanks.ensures ∙ ap (λ x. skip_ows (reverse x)) c.after_blanks.ensures) in
    search rules
