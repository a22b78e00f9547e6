use Rattle.std.proofs.Common.{◌∙◌, arith}
use Rattle.eco_turn.proofs.Passes.{all_numbered}
use Rattle.eco_turn.proofs.tests.a_pass_finds_what_another_added.Goals as goal

pub close-numbers-requires-clause-all : goal.close-numbers-requires-clause-all
close-numbers-requires-clause-all g c =
    let new = c.in-Ok.ensures in let a = c.add_at.ensures in let b = c.add_at-2.ensures in let f = c.finds_at-both.ensures in
    let count = new.count in let most = new.turn.1 in let n₁ = a.count in let n₂ = b.count in let n₃ = f.count in
    all_numbered _ c.finds_at-both.new.passes.items (omega arith) (λ k d low. f.numbers k d (omega arith) ∙ (b.numbers k d (omega arith) ∙ (a.numbers k d (omega arith) ∙ (new.passes k d (omega arith)).number)))
