use Rattle.std.proofs.Common.{◌≡◌, ◌≤◌, ◌+◌, ℕ, List, ◌++◌, length, take, Option, Some, None, refl, ap, sym, ◌∙◌, append_assoc, length-append, arith, rules}
use Rattle.std.specs.Io.KnownBytes.{prepend_known}
use Rattle.std.proofs.lemmas.List.{length-take}
use Rattle.eco_cli.proofs.input.read_all.Goals as goal

-- bytes that were taken after others
joined : (before piece : List ℕ) (left : Option (List ℕ)) → prepend_known before (prepend_known piece left) ≡ prepend_known (before ++ piece) left
joined before piece None = refl
joined before piece (Some xs) = ap Some (sym (append_assoc before piece xs))

pub returns-then-is_err-clause-returned : goal.returns-then-is_err-clause-returned
returns-then-is_err-clause-returned g c =
    let before = c.loop-piece.bytes.items in
    let piece = take c.in-Ok.count c.read.new.piece in
    let room : c.min-room.result + length before ≤ c.args.limit + 1 = search rules in
    let count : c.in-Ok.count ≤ c.min-room.result = search rules in
    let short : length piece ≤ c.in-Ok.count = omega (arith, length-take c.in-Ok.count c.read.new.piece) in (
      length (before ++ piece),
      omega (arith, length-append before piece),
      (before ++ piece, refl, c.loop-piece.invariant.0 ∙ ap (prepend_known before) c.in-Ok.ensures.bytes.1 ∙ joined before piece (g.S.Source.left c.read.new.self)),
    )
