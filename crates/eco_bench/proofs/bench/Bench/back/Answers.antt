use Rattle.std.proofs.Common.{◌≤◌, subst, sym, ap, List}
use Rattle.std.specs.List.{Contains}
use Rattle.eco_bench.specs.declared.span.Span.{Span}
use Rattle.eco_bench.specs.Spans.{EndsBefore, before}
use Rattle.eco_bench.specs.Region.{Area, IsCarved, IsStanding}
use Rattle.eco_bench.proofs.Apart.{before-has, before-from, carved-before}
use Rattle.eco_bench.proofs.bench.Bench.back.Goals as goal

module _ (c : goal.After-self-2-1) where
  carved : IsCarved (record { words = c.self.inside.words.items; used = c.args.mark.used; standing = c.until-self-inside.result.spans })
  carved =
      subst (λ (spans : List Span). IsCarved (record { words = c.self.inside.words.items; used = c.args.mark.used; standing = spans })) (sym c.until-self-inside.ensures)
      (carved-before c.self.inside.words.items c.self.inside.used c.self.inside.standing.spans c.args.mark c.self.invariant
      (subst (λ (area : Area). c.args.mark.used ≤ area.used) (sym c.self.view_is) c.requires))

  stood : (span : Span) → Contains c.self.inside.standing.spans span → IsStanding c.args.self.now span
  stood span = subst (λ (area : Area). IsStanding area span) c.self.view_is

  stands : (span : Span) → IsStanding c.args.self.now span → Contains c.self.inside.standing.spans span
  stands span = subst (λ (area : Area). IsStanding area span) (sym c.self.view_is)

pub invariant_of-self : goal.invariant_of-self
invariant_of-self c = carved c

pub returns-clause-stays : goal.returns-clause-stays
returns-clause-stays c = λ span. (
  (λ has. let from = before-from c.args.mark c.self.inside.standing.spans span (subst (λ (spans : List Span). Contains spans span) c.until-self-inside.ensures has) in (stood c span from.0, from.1)),
  (λ stayed. subst (λ (spans : List Span). Contains spans span) (sym c.until-self-inside.ensures) (before-has c.args.mark c.self.inside.standing.spans span (stands c span stayed.0, stayed.1))),
)

pub returns-clause-carved : goal.returns-clause-carved
returns-clause-carved c = carved c
