use Rattle.std.proofs.Common.{[], ◌∷◌, ◌++◌, ap, refl, sym, not, subst, ◌∙◌, codes, is_some, Ok}
use Rattle.std.specs.Option.{option_or}
use Rattle.eco_text.specs.Cursor.{token}
use Rattle.eco_text.specs.Tokens.{is_word}
use Rattle.eco_common.specs.Options.{first_some}
use Rattle.eco_def.specs.Grammar.{net_clause, net_clause_new}
use Rattle.eco_def.specs.View.{usage_in}
use Rattle.eco_def.specs.Reading.{Reads}
use Rattle.eco_def.proofs.Loops.{begun, one_more, first_some-push, or_map}
use Rattle.eco_def.proofs.Placing.{is_some-map}
use Rattle.eco_def.proofs.reader.Reader.usage.Goals as goal

pub clauses-init : goal.clauses-init
clauses-init c = ([], refl, begun (λ w. not (is_word (codes ";") w)) net_clause c.args.self.now.words)

pub clauses-preserved : goal.clauses-preserved
clauses-preserved c =
    let i = c.clauses.invariant in
    let text = c.args.self.now.words.text in
    let seen = usage_in c.clauses.self.words.text c.in_ok-clause.clause in (
      i.0 ++ seen ∷ [],
      ap (usage_in text) c.or-usage.ensures ∙ or_map (token text) c.clauses.usage c.in_ok-clause.clause ∙ ap (λ o. option_or o (usage_in text c.in_ok-clause.clause)) i.1
          ∙ ap (λ t. option_or (first_some i.0) (usage_in t c.in_ok-clause.clause)) (sym i.2.text) ∙ sym (first_some-push i.0 seen),
      one_more (λ w. not (is_word (codes ";") w)) net_clause usage_in c.args.self.now.words i.0 c.clauses.self.words c.net_clause.new.self.words c.in_ok-clause.clause i.2 c.clauses-test.ensures
          (subst (λ k. Reads 1 usage_in (net_clause_new k) c.clauses.self.words c.net_clause.new.self.words (Ok c.in_ok-clause.clause))
          (c.is_some.ensures ∙ sym (is_some-map (token text) c.clauses.usage) ∙ ap is_some i.1) c.in_ok-clause.ensures),
    )
