use Rattle.std.proofs.Common.{Some, ap, sym, ◌∙◌, arith}
use Rattle.eco_text.proofs.Streaming.{read_takes}
use Rattle.eco_text.proofs.byte_source.ByteSourceSource.read.Goals as goal

-- what was read is the front of what was left
pub returns-clause-bytes : goal.returns-clause-bytes
returns-clause-bytes c =
    let takes = read_takes c.self.inside.bytes.items c.args.piece.now c.copy_from_slice.new.self c.self.inside.at c.min-count.result
    (omega arith) (omega arith) (rw c.deref.ensures.value at c.copy_from_slice.ensures.after) in
    (takes.0, ap Some (ap (λ m. m.bytes) (sym c.self.view_is) ∙ takes.1), takes.2)
