use Rattle.std.proofs.Common.{map, codes, ap, ◌∙◌, Some}
use Rattle.std.proofs.lemmas.Result.{err_from_is_err_and}
use Rattle.eco_def.specs.Grammar.{net_within, net_new_within, room_after}
use Rattle.eco_text.specs.Tokens.{is_word}
use Rattle.eco_def.specs.View.{net_in, nets_in}
use Rattle.eco_def.proofs.Loops.{one_pushed, stuck, map_push}
use Rattle.eco_def.proofs.Knowing.{known_more, read_known_in}
use Rattle.eco_def.proofs.Placing.{placed_push, kind_push}
use Rattle.eco_def.proofs.Rooms.{behind_more}
use Rattle.eco_def.proofs.reader.Reader.nets.Goals as goal

pub returns-in_err-net-clause-reads : goal.returns-in_err-net-clause-reads
returns-in_err-net-clause-reads c =
    let i = c.statements.invariant in
    let front = map (net_in c.args.self.now.words.text) c.statements.nets in
    let p = err_from_is_err_and c.from_residual-in_err-net.result c.from_residual-in_err-net.ensures.1 in
    rw (p.1, p.2)
    (stuck (is_word (codes "-")) (net_within (Some c.args.room)) net_in nets_in c.args.self.now.words front c.statements.self.words c.net.new.self.words c.in_err-net.field-0.0 i.1 c.statements-test.ensures
    (read_known_in 1 net_in (λ room. net_new_within (Some room)) c.statements.names (map (λ k. k.name.bytes) front) c.statements.self.words c.net.new.self.words _ c.statements.room_left (room_after c.args.room front) i.4 i.0 c.in_err-net.ensures.reads))

pub statements-preserved : goal.statements-preserved
statements-preserved c =
    let i = c.statements.invariant in
    let text = c.args.self.now.words.text in
    let front = map (net_in text) c.statements.nets in
    let k = c.in_ok-net.net in (
      known_more c.statements.names c.net.new.names (map (λ k. k.name.bytes) front) _ (net_in text k).name.bytes
          (ap (λ ks. map (λ k. k.name.bytes) (map (net_in text) ks)) c.in_ok-push.ensures.ok ∙ ap (map (λ k. k.name.bytes)) (map_push (net_in text) c.statements.nets k) ∙ map_push (λ k. k.name.bytes) front (net_in text k))
          i.0 (rw i.1.text at c.in_ok-net.ensures.names),
      one_pushed (is_word (codes "-")) (net_within (Some c.args.room)) net_in c.args.self.now.words c.statements.nets c.push.new.self c.statements.self.words c.net.new.self.words k c.in_ok-push.ensures.ok i.1 c.statements-test.ensures
          (read_known_in 1 net_in (λ room. net_new_within (Some room)) c.statements.names (map (λ k. k.name.bytes) front) c.statements.self.words c.net.new.self.words _ c.statements.room_left (room_after c.args.room front) i.4 i.0 c.in_ok-net.ensures.reads),
      λ lo hi order.
          let b = i.2 lo hi order in
          let one = c.in_ok-net.ensures.placed b.0 hi b.2 in
          rw c.in_ok-push.ensures.ok (k.end, placed_push lo b.0 c.statements.nets k b.1 one.0 one.1, one.2),
      rw c.in_ok-push.ensures.ok (kind_push c.args.special c.statements.nets k i.3 c.in_ok-net.ensures.kind),
      behind_more text c.args.room c.statements.room_left c.behind-room_left.result c.statements.nets c.push.new.self k i.4 c.behind-room_left.ensures c.in_ok-push.ensures.ok,
    )
