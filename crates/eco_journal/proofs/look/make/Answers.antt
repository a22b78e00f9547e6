use Rattle.std.proofs.Common.{ℕ, List, ap, [], ◌∷◌, ◌++◌, refl, sym, ◌∙◌, subst}
use Rattle.std.proofs.lemmas.Result.{err_from_is_err_and}
use Rattle.eco_disk.proofs.Moments.{during_then, during_also, during_none}
use Rattle.eco_journal.specs.Layout.{magic, IsHead}
use Rattle.eco_journal.specs.Start.{StoresAs}
use Rattle.eco_disk.specs.declared.call.Call.TheVariants.{Write, Sync}
use Rattle.eco_disk.proofs.Called.{all_made, none_made, order_then}
use Rattle.eco_journal.proofs.Changes.{made_as, failed_as, order_as}
use Rattle.eco_journal.proofs.Fresh.{begins_fresh, fresh_as, made_sound}
use Rattle.eco_journal.proofs.Unfinished.{only_as}
use Rattle.eco_journal.proofs.look.make.Goals as goal

pub returns-in_err-header-clause-crash : goal.returns-in_err-header-clause-crash
returns-in_err-header-clause-crash g c bytes whole begins has =
    let p = err_from_is_err_and c.from_residual.result c.from_residual.ensures.1 in
    let stores = fresh_as c.args.digest.now bytes whole (begins_fresh bytes c.args.shut begins) in
    rw (p.1, p.2) (record { any_moment = during_none (λ x now. subst (StoresAs c.args.digest.now bytes []) (sym (has.each x now)) stores); found = tt; no_refusal = tt })

pub returns-in_err-lay-clause-crash : goal.returns-in_err-lay-clause-crash
returns-in_err-lay-clause-crash g c bytes whole begins has =
    let p = err_from_is_err_and c.from_residual-in_err-lay.result c.from_residual-in_err-lay.ensures.1 in
    let cleared = c.in_ok-clear.ensures.crash c.args.digest.now bytes whole begins has in
    let head : IsHead c.args.digest.now (magic ++ c.args.digest.now) = record { parts = refl; size = c.told-digest } in
    let laid = c.in_err-lay.ensures.crash c.args.digest.now (magic ++ c.args.digest.now) head (c.deref.ensures.value ∙ c.in_ok-header.ensures) cleared.1 in
    rw (p.1, p.2) (record { any_moment = during_also (during_then cleared.0 laid.0) (only_as c.args.digest.now bytes []); found = tt; no_refusal = tt })

pub returns-clause-crash : goal.returns-clause-crash
returns-clause-crash g c bytes whole begins has =
    let cleared = c.in_ok-clear.ensures.crash c.args.digest.now bytes whole begins has in
    let head : IsHead c.args.digest.now (magic ++ c.args.digest.now) = record { parts = refl; size = c.told-digest } in
    let laid = c.in_ok-lay.ensures.crash c.args.digest.now (magic ++ c.args.digest.now) head (c.deref.ensures.value ∙ c.in_ok-header.ensures) cleared.1 in
    record {
      any_moment = during_also (during_then cleared.0 laid.0) (only_as c.args.digest.now bytes []);
      found = record { entries_are = c.new.ensures.items; last = []; sound = made_sound c.args.digest.now (magic ++ c.args.digest.now) head laid.1; unfinished = λ e. absurd (cc e) };
      no_refusal = tt;
    }

pub returns-in_err-header-clause-calls : goal.returns-in_err-header-clause-calls
returns-in_err-header-clause-calls g c =
    let p = err_from_is_err_and c.from_residual.result c.from_residual.ensures.1 in
    rw p.1 (none_made _ _ p.0)

pub returns-in_err-clear-clause-crash : goal.returns-in_err-clear-clause-crash
returns-in_err-clear-clause-crash g c bytes whole begins has =
    let p = err_from_is_err_and c.from_residual-in_err-clear.result c.from_residual-in_err-clear.ensures.1 in
    let cleared = c.in_err-clear.ensures.crash c.args.digest.now bytes whole begins has in
    rw (p.1, p.2) (record { any_moment = during_also cleared.0 (only_as c.args.digest.now bytes []); found = tt; no_refusal = tt })

pub returns-in_err-lay-clause-calls : goal.returns-in_err-lay-clause-calls
returns-in_err-lay-clause-calls g c =
    let p = err_from_is_err_and c.from_residual-in_err-lay.result c.from_residual-in_err-lay.ensures.1 in
    rw p.1 (order_then (all_made c.in_ok-clear.ensures.calls)
    (order_as (ap (λ (header : List ℕ). (Write 1 header ∷ Sync ∷ Write 0 (1 ∷ []) ∷ Sync ∷ [])) (c.deref.ensures.value ∙ c.in_ok-header.ensures))
    (failed_as p.0 c.in_err-lay.ensures.calls)))

pub returns-clause-calls : goal.returns-clause-calls
returns-clause-calls g c =
    order_then (all_made c.in_ok-clear.ensures.calls)
    (order_as (ap (λ (header : List ℕ). (Write 1 header ∷ Sync ∷ Write 0 (1 ∷ []) ∷ Sync ∷ [])) (c.deref.ensures.value ∙ c.in_ok-header.ensures))
    (made_as _ c.in_ok-lay.ensures.calls))
