use Rattle.std.proofs.Common.{[], ◌∷◌, ◌++◌, refl, sym, not, ◌∙◌, codes}
use Rattle.eco_text.specs.Tokens.{is_word}
use Rattle.eco_def.specs.Grammar.{comp_clause}
use Rattle.eco_def.specs.Reading.{as_is}
use Rattle.eco_def.proofs.Loops.{begun, one_more, first_some-push}
use Rattle.eco_def.proofs.reader.Reader.comp_place.Goals as goal

pub clauses-init : goal.clauses-init
clauses-init c = ([], refl, begun (λ w. not (is_word (codes ";") w)) (λ before. comp_clause) c.args.self.now.words)

pub clauses-preserved : goal.clauses-preserved
clauses-preserved c =
    let i = c.clauses.invariant in (
      i.0 ++ c.in_ok-clause.clause ∷ [],
      c.or-place.ensures ∙ rw i.1 (sym (first_some-push i.0 c.in_ok-clause.clause)),
      one_more (λ w. not (is_word (codes ";") w)) (λ before. comp_clause) as_is c.args.self.now.words i.0 c.clauses.self.words c.comp_clause.new.self.words c.in_ok-clause.clause i.2 c.clauses-test.ensures c.in_ok-clause.ensures,
    )
