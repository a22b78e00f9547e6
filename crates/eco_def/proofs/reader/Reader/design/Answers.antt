use Rattle.std.proofs.lemmas.Result.{err_from_is_err_and}
use Rattle.eco_def.specs.Reading.{left}
use Rattle.eco_def.proofs.WholeText.{parts_stuck, end_stuck, parts_read, lie_on}
use Rattle.eco_def.proofs.reader.Reader.design.Goals as goal

pub returns-in_err-sections : goal.returns-in_err-sections
returns-in_err-sections c =
    let p = err_from_is_err_and c.from_residual.result c.from_residual.ensures.1 in
    rw (p.1, p.2) (record { value = parts_stuck (left c.args.self.now.words) c.in_err-sections.field-0.0 c.in_err-sections.ensures.value; lie = tt })

pub returns-in_err-end_design : goal.returns-in_err-end_design
returns-in_err-end_design c =
    let p = err_from_is_err_and c.from_residual-in_err-end_design.result c.from_residual-in_err-end_design.ensures.1 in
    let v = c.in_ok-sections.ensures.value in
    rw (p.1, p.2) (record { value = end_stuck (left c.args.self.now.words) (left c.sections.new.self.words) v.0 c.in_err-end_design.field-0.0 v.2 c.in_err-end_design.ensures.value; lie = tt })

pub returns : goal.returns
returns c =
    let v = c.in_ok-sections.ensures.value in
    record {
      value = (v.0, v.1, parts_read (left c.args.self.now.words) (left c.sections.new.self.words) (left c.end_design.new.self.words) v.0 _ v.2 c.in_ok-end_design.ensures.value);
      lie = lie_on c.args.self.now.words c.sections.new.self.words c.end_design.new.self.words c.in_ok-sections.sections c.in_ok-end_design.ensures.order c.in_ok-sections.ensures.lie;
    }
