use Rattle.std.proofs.lemmas.Result.{err_from_is_err_and}
use Rattle.eco_def.specs.Reading.{left}
use Rattle.eco_def.proofs.WholeText.{failed_answer, answer}
use Rattle.eco_def.proofs.read.read_def.Goals as goal

pub returns-in_err-sections : goal.returns-in_err-sections
returns-in_err-sections c =
    let p = err_from_is_err_and c.from_residual.result c.from_residual.ensures.1 in
    rw (p.1, p.2) (failed_answer c.args.text.now (left c.new-reader.result.words) c.in_err-sections.field-0.0 c.new-reader.ensures.left c.in_err-sections.ensures.value)

pub returns : goal.returns
returns c =
    let v = c.in_ok-sections.ensures.value in
    answer c.args.text.now c.new-reader.result.words c.design.new.self.words c.in_ok-sections.sections v.0 c.into_design.result c.requires c.new-reader.ensures.text c.new-reader.ensures.left v.1 v.2 c.in_ok-sections.ensures.lie c.into_design.ensures.design c.into_design.ensures.missing
