use Rattle.std.proofs.Common.{ℕ, List, [], ◌∷◌, ◌+◌, length, ◌∙◌, ap, subst, arith}
use Rattle.std.proofs.lemmas.Result.{err_from_is_err_and}
use Rattle.eco_disk.proofs.Moments.{during_also, during_then, during_none}
use Rattle.eco_disk.specs.declared.call.Call.TheVariants.{Write, Sync}
use Rattle.eco_disk.proofs.Called.{all_made, some_made, none_made, order_then}
use Rattle.eco_journal.proofs.Changes.{made_as, failed_as, order_as}
use Rattle.eco_journal.specs.Sound.{IsSound}
use Rattle.eco_journal.proofs.Soundness.{settled_of, long_torn, long_written, settled_stores, or_only, begun, stood, struck, opened}
use Rattle.eco_journal.proofs.journal.Journal.append.Goals as goal

pub returns-in_err-unfinished-clause-crash : goal.returns-in_err-unfinished-clause-crash
returns-in_err-unfinished-clause-crash g c digest payloads last sound =
    let p = err_from_is_err_and c.from_residual.result c.from_residual.ensures.1 in
    let s = subst (λ v. IsSound digest payloads last (g.D.Disk.contents c.args.self.now.disk) (g.D.Disk.image c.args.self.now.disk (g.D.Disk.moment c.args.self.now.disk)) c.args.self.now.gate v) (settled_of c.args.self.now.standing c.requires.whole) sound.is in
    let none = p.2 ∙ c.in_err-unfinished.ensures.memory in
    rw (p.1, none) (record { any_moment = during_none (λ x now. or_only digest payloads c.args.payload.now x (settled_stores s x now)); added = tt; unfinished = λ e. absurd (cc e) })

pub invariant_of-self : goal.invariant_of-self
invariant_of-self g c =
    record { room = c.args.self.now.room; lies = long_torn _ _ _ _ _ c.write_kept.ensures.contents c.args.self.now.lies }

pub returns-in_err-write_kept-clause-crash : goal.returns-in_err-write_kept-clause-crash
returns-in_err-write_kept-clause-crash g c digest payloads last sound =
    let p = err_from_is_err_and c.from_residual-in_err-write_kept.result c.from_residual-in_err-write_kept.ensures.1 in
    let s = subst (λ v. IsSound digest payloads last (g.D.Disk.contents c.args.self.now.disk) (g.D.Disk.image c.args.self.now.disk (g.D.Disk.moment c.args.self.now.disk)) c.args.self.now.gate v) (settled_of c.args.self.now.standing c.requires.whole) sound.is in
    let first = begun {payload = c.args.payload.now} last _ s c.write_kept.ensures.contents c.write_kept.ensures.crash in
    rw p.1 (record { any_moment = during_also first.0 (or_only digest payloads c.args.payload.now); added = tt; unfinished = λ e. record { is = first.1 } })

pub invariant_of-self-in-Break-branch-3 : goal.invariant_of-self-in-Break-branch-3
invariant_of-self-in-Break-branch-3 g c =
    record { room = c.args.self.now.room; lies = long_torn _ _ _ _ _ c.write_kept-2.ensures.contents (long_torn _ _ _ _ _ c.write_kept.ensures.contents c.args.self.now.lies) }

pub returns-in_err-write_kept-2-clause-crash : goal.returns-in_err-write_kept-2-clause-crash
returns-in_err-write_kept-2-clause-crash g c digest payloads last sound =
    let p = err_from_is_err_and c.from_residual-in_err-write_kept-2.result c.from_residual-in_err-write_kept-2.ensures.1 in
    let s = subst (λ v. IsSound digest payloads last (g.D.Disk.contents c.args.self.now.disk) (g.D.Disk.image c.args.self.now.disk (g.D.Disk.moment c.args.self.now.disk)) c.args.self.now.gate v) (settled_of c.args.self.now.standing c.requires.whole) sound.is in
    let is = c.in_ok-unfinished.ensures.bytes in
    let first = begun {payload = c.args.payload.now} last _ s c.write_kept.ensures.contents c.write_kept.ensures.crash in
    let stands = stood last _ c.requires.size (c.deref.ensures.value ∙ is) s c.in_ok-write_kept.ensures.written c.in_ok-write_kept.ensures.kept in
    let second = struck stands c.write_kept-2.ensures.contents c.write_kept-2.ensures.crash in
    rw p.1 (record { any_moment = during_then (during_also first.0 (or_only digest payloads c.args.payload.now)) second.0; added = tt; unfinished = λ e. record { is = second.1 } })

pub invariant_of-self-2 : goal.invariant_of-self-2
invariant_of-self-2 g c =
    let first = long_written _ _ _ _ c.in_ok-write_kept.ensures.written c.args.self.now.lies in
    let second = long_torn _ _ _ _ _ c.write_kept-2.ensures.contents first in
    record {
      room = c.in_ok-unfinished.ensures.room;
      lies = λ b told. omega (arith, second b told, ap length c.deref.ensures.value, c.in_ok-unfinished.ensures.end);
    }

pub returns-clause-crash : goal.returns-clause-crash
returns-clause-crash g c digest payloads last sound =
    let s = subst (λ v. IsSound digest payloads last (g.D.Disk.contents c.args.self.now.disk) (g.D.Disk.image c.args.self.now.disk (g.D.Disk.moment c.args.self.now.disk)) c.args.self.now.gate v) (settled_of c.args.self.now.standing c.requires.whole) sound.is in
    let is = c.in_ok-unfinished.ensures.bytes in
    let first = begun {payload = c.args.payload.now} last _ s c.write_kept.ensures.contents c.write_kept.ensures.crash in
    let stands = stood last _ c.requires.size (c.deref.ensures.value ∙ is) s c.in_ok-write_kept.ensures.written c.in_ok-write_kept.ensures.kept in
    let second = struck stands c.write_kept-2.ensures.contents c.write_kept-2.ensures.crash in
    let ends = c.in_ok-unfinished.ensures.end ∙ ap (λ n. c.args.self.now.gate + n) (ap length is) in
    let done = opened c.in_ok-unfinished.end ends stands c.in_ok-write_kept-2.ensures.written c.in_ok-write_kept-2.ensures.kept in
    record { any_moment = during_then (during_also first.0 (or_only digest payloads c.args.payload.now)) second.0; added = (record { is = done }, settled_stores done); unfinished = λ e. absurd (cc e) }

pub returns-in_err-unfinished-clause-calls : goal.returns-in_err-unfinished-clause-calls
returns-in_err-unfinished-clause-calls g c =
    let p = err_from_is_err_and c.from_residual.result c.from_residual.ensures.1 in
    rw p.1 (none_made _ _ p.0)

pub returns-in_err-write_kept-clause-calls : goal.returns-in_err-write_kept-clause-calls
returns-in_err-write_kept-clause-calls g c =
    let p = err_from_is_err_and c.from_residual-in_err-write_kept.result c.from_residual-in_err-write_kept.ensures.1 in
    let gate = c.args.self.now.gate in
    rw p.1 (order_as (ap (λ (piece : List ℕ). (Write (gate + 1) piece ∷ Sync ∷ Write gate (1 ∷ []) ∷ Sync ∷ [])) (c.deref.ensures.value ∙ c.in_ok-unfinished.ensures.bytes))
    (some_made p.0 (Write gate (1 ∷ []) ∷ Sync ∷ []) c.in_err-write_kept.ensures.calls))

pub returns-in_err-write_kept-2-clause-calls : goal.returns-in_err-write_kept-2-clause-calls
returns-in_err-write_kept-2-clause-calls g c =
    let p = err_from_is_err_and c.from_residual-in_err-write_kept-2.result c.from_residual-in_err-write_kept-2.ensures.1 in
    let gate = c.args.self.now.gate in
    rw p.1 (order_as (ap (λ (piece : List ℕ). (Write (gate + 1) piece ∷ Sync ∷ Write gate (1 ∷ []) ∷ Sync ∷ [])) (c.deref.ensures.value ∙ c.in_ok-unfinished.ensures.bytes))
    (order_then (all_made c.in_ok-write_kept.ensures.calls) (failed_as p.0 c.in_err-write_kept-2.ensures.calls)))

pub returns-clause-calls : goal.returns-clause-calls
returns-clause-calls g c =
    let gate = c.args.self.now.gate in
    order_as (ap (λ (piece : List ℕ). (Write (gate + 1) piece ∷ Sync ∷ Write gate (1 ∷ []) ∷ Sync ∷ [])) (c.deref.ensures.value ∙ c.in_ok-unfinished.ensures.bytes))
    (order_then (all_made c.in_ok-write_kept.ensures.calls) (made_as _ c.in_ok-write_kept-2.ensures.calls))
