use Rattle.std.proofs.lemmas.Result.{err_from_is_err_and}
use Rattle.eco_def.proofs.SpecialNets.{special_stuck, special_read}
use Rattle.eco_def.proofs.reader.Reader.special_section.Goals as goal

pub returns-in_err-nets-clause-reads : goal.returns-in_err-nets-clause-reads
returns-in_err-nets-clause-reads c =
    let p = err_from_is_err_and c.from_residual-in_err-nets.result c.from_residual-in_err-nets.ensures.1 in
    rw (p.1, p.2) (special_stuck c.args.room c.args.self.now.words c.section_head.new.self.words c.nets.new.self.words c.in_ok-section_head.field-0 c.in_err-nets.field-0.0 c.in_ok-section_head.ensures.reads c.in_err-nets.ensures.reads)

pub returns-clause-reads : goal.returns-clause-reads
returns-clause-reads c =
    special_read c.args.room c.args.self.now.words c.section_head.new.self.words c.nets.new.self.words c.section_end.new.self.words c.in_ok-section_head.field-0 c.in_ok-nets.nets c.in_ok-section_end.field-0
    c.in_ok-section_head.ensures.reads c.in_ok-nets.ensures.reads c.in_ok-section_end.ensures.reads
