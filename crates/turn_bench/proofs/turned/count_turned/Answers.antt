use Rattle.std.proofs.Common.{◌≡◌, ℕ, List, take, drop, ◌++◌, length, get_or, ap, subst, sym, ◌∙◌, arith}
use Rattle.std.proofs.Math.Seq.{take-append_seam}
use Rattle.std.specs.List.{All}
use Rattle.eco_turn.specs.Pass.{HasLeft, pass_number, AreAll}
use Rattle.eco_turn.specs.Turn.{IsPassOf}
use Rattle.eco_turn.proofs.Passes.{all_numbered}
use Rattle.turn_bench.proofs.turned.count_turned.Goals as goal

-- what was lent whole comes back whole
whole : {A : Type 0} (n : ℕ) (xs ys : List A) → n ≡ length ys → take n (ys ++ drop (length ys) xs) ≡ ys
whole n xs ys len = ap (λ k. take k (ys ++ drop (length ys) xs)) len ∙ take-append_seam ys (drop (length ys) xs)

pub close-requires-clause-all : goal.close-requires-clause-all
close-requires-clause-all g c =
    let new = c.in-Ok.ensures in let a = c.pass_in_threads.ensures in let lent = c.as_mut_slice.ensures.value in let count = new.count in let most = new.turn.1 in let same = a.count in
    let e = whole c.in-Ok.passes.len c.in-Ok.passes.items c.pass_in_threads.new.passes (omega arith) in
    subst (AreAll _) (sym e) (all_numbered _ c.pass_in_threads.new.passes (omega arith) (λ k d low. a.numbers k d (omega arith) ∙ (ap (λ ps. pass_number (get_or ps k d)) lent ∙ (new.passes k d (omega arith)).number)))

pub close-requires-clause-each : goal.close-requires-clause-each
close-requires-clause-each g c =
    let new = c.in-Ok.ensures in let a = c.pass_in_threads.ensures in let lent = c.as_mut_slice.ensures.value in let count = new.count in let same = a.count in
    let e = whole c.in-Ok.passes.len c.in-Ok.passes.items c.pass_in_threads.new.passes (omega arith) in
    subst (All (λ p. IsPassOf (λ _. tt) c.in-Ok.turn p × HasLeft p)) (sym e) a.passes
