use Rattle.std.proofs.Common.{rules, ◌≡◌, [], ◌∷◌, length, sym, ap, subst, ◌∙◌, arith}
use Rattle.std.proofs.lemmas.Grind.{common_steps}
use Rattle.std.specs.List.{All}
use Rattle.eco_turn.specs.Entries.{IsPass}
use Rattle.eco_turn.proofs.Ends.{opens_ok}
use Rattle.eco_turn.proofs.turn.Turn.open.Goals as goal

pub new-requires : goal.new-requires
new-requires g c =
    let same : c.of.result.value ≡ c.args.value = search rules in
    opens_ok g.T.Kept.entries g.T.Kept.fixed _ _ _ c.of.result.value (ap (λ n. 0 ∷ 0 ∷ n ∷ []) (c.requires.length ∙ ap (λ x. length (g.T.Kept.entries x)) (sym same))) (first_of (search rules, grind (arith, common_steps))) c.requires.passes.0 c.requires.passes.1
    (subst (λ x. All (λ e. ¬ IsPass c.args.passes e.0) (g.T.Kept.entries x)) (sym same) c.requires.none)
