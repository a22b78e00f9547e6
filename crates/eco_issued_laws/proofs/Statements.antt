-- The use of a net's statement is a name.
use Rattle.std.proofs.Common.{Bool, true, false, not, List, [], ◌∷◌, Option, Some, None, is_some, if◌then◌else◌, codes}
use Rattle.std.specs.List.{AllByRecursion}
use Rattle.eco_text.specs.Words.{Token}
use Rattle.eco_def.specs.Parsing.{give, choose}
use Rattle.eco_text.specs.Tokens.{is_word, is_one_of}
use Rattle.eco_common.specs.Options.{first_some}
use Rattle.eco_def.specs.Grammar.{some_use, net_clause_new, net_clause, net_tail}
use Rattle.eco_issued_laws.proofs.Allowed.{IsName}
use Rattle.eco_issued_laws.proofs.Faults.{bad_statement}
use Rattle.eco_issued_laws.proofs.Making.{Makes, makes_give, makes_refuse, makes_any, makes_name, makes_choose, makes_then, makes_many}

abbrev pub UseOk : Option Token → Type 0
UseOk None = Unit {0}
UseOk (Some w) = IsName w.bytes

some_use_ok : Makes UseOk some_use
unfolding some_use
some_use_ok = makes_then makes_any (λ k t. makes_then makes_name (λ n ok. makes_give UseOk ok))

plus_ok : (used : Bool) → Makes UseOk (if used then give None else choose (is_word (codes "USE")) some_use (give None))
plus_ok true = makes_give UseOk {x = None} tt
plus_ok false = makes_choose (is_word (codes "USE")) some_use_ok (makes_give UseOk {x = None} tt)

clause_ok : (used : Bool) → Makes UseOk (net_clause_new used)
unfolding net_clause_new
clause_ok used = makes_choose (is_word (codes "+")) (makes_then makes_any (λ p t. plus_ok used)) (makes_then makes_any (λ k t. makes_give UseOk {x = None} tt))

first_ok : (xs : List (Option Token)) → AllByRecursion UseOk xs → UseOk (first_some xs)
first_ok [] all = tt
first_ok (None ∷ xs) all = first_ok xs all.1
first_ok (Some w ∷ xs) all = all.0

pub tail_ok : Makes UseOk net_tail
unfolding net_tail
tail_ok =
    makes_choose (is_one_of (codes "+" ∷ codes ";" ∷ []))
    (makes_then (makes_many UseOk (λ w. not (is_word (codes ";") w)) net_clause (λ xs. clause_ok (is_some (first_some xs)))) (λ clauses all. makes_give UseOk (first_ok clauses all)))
    (makes_refuse UseOk bad_statement)
