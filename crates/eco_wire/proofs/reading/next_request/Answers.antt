use Rattle.std.proofs.Common.{[], Err, arith, refl, ap, inl, inr}
use Rattle.httparse.proofs.GrammarLemmas.{ReadsRequest-append}
use Rattle.eco_wire.proofs.Feeds.{feeds_of_exceeds}
use Rattle.eco_wire.proofs.reading.next_request.Goals as goal

pub returns-in-Err-TooManyHeaders-clause-reads : goal.returns-in-Err-TooManyHeaders-clause-reads
returns-in-Err-TooManyHeaders-clause-reads c =
    let e = c.in-Err-TooManyHeaders in
    let bytes = c.args.bytes.now in
    inr (
      λ h behind begins. absurd (omega (arith, e.ensures.no_room [] h _ (ReadsRequest-append bytes h behind [] begins.reads), begins.lines)),
      inr (
        refl,
        inl (record {
          feeds = feeds_of_exceeds 64 bytes (e.ensures.too_many (ap Err e.field-0-is));
          overflows = e.ensures.no_room;
        }),
      ),
    )
