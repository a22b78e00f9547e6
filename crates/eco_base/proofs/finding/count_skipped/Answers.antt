use mir.Val.{bool_byte}
use Rattle.std.proofs.Common.{◌≡◌, ◌+◌, ◌≤◌, Bool, true, false, cond, refl, ap, sym, ◌∙◌, arith}
use Rattle.eco_base.specs.Found.{is_skipped_row}
use Rattle.eco_base.proofs.Lists.{count_more}
use Rattle.eco_base.proofs.finding.count_skipped.Goals as goal

one_or_none : (b : Bool) → bool_byte b ≡ cond b 1 0
one_or_none true = refl
one_or_none false = refl

few_more : (b : Bool) → bool_byte b ≤ 1
few_more true = omega arith
few_more false = omega arith

pub loop-comp-preserved : goal.loop-comp-preserved
loop-comp-preserved c =
    let L = c.args.net.now in
    let b = c.is_skipped.result in
    record {
      few = omega (arith, c.loop-comp.invariant.few, c.from-skipped.ensures, few_more b);
      value =
          ap (λ n. c.loop-comp.skipped + n) (c.from-skipped.ensures ∙ one_or_none b)
          ∙ ap (λ n. n + cond b 1 0) c.loop-comp.invariant.value
          ∙ sym (count_more (is_skipped_row c.args.desk.now L.nets) L.comps c.loop-comp.comp b c.is_skipped.ensures);
    }
