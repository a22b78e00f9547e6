-- What the clauses of a top pin give, of which the first of each kind counts.
use Rattle.std.specs.Prelude.{◌≡◌, ℕ, Bool, List, map, Option, Some, None, Result, IfOk}
use Rattle.eco_text.specs.Words.{Token}
use Rattle.eco_text.specs.Cursor.{token}
use Rattle.eco_common.specs.declared.geometry.Dir.{Dir}
use Rattle.eco_def.specs.declared.pin_clause.PinClause.{PinClause}
use Rattle.eco_def.specs.declared.pin_clause.PinClause.TheVariants.{Net, Direction, Use, Other}
use Rattle.eco_def.specs.declared.pin_clause.PinClauses.{PinClauses}
use Rattle.eco_def.specs.declared.fault.DefFault.{DefFault}
use Rattle.eco_def.specs.Grammar as said
use Rattle.eco_def.specs.Parsing.{Parser}
use Rattle.eco_common.specs.Options.{first_some}
use Rattle.eco_def.specs.View.{usage_in}
use Rattle.eco_def.specs.Reading.{Reading, Reads}

abbrev pub clause_in : List ℕ → PinClause → said.PinClause
clause_in text (Net w) = said.OnNet (token text w)
clause_in text (Direction d) = said.Directed d
clause_in text (Use supply) = said.Used supply
clause_in text Other = said.Other

-- what one clause gives
abbrev pub net_given : said.PinClause → Option Token
net_given (said.OnNet n) = Some n
net_given (said.Directed d) = None
net_given (said.Used b) = None
net_given said.Other = None

abbrev pub dir_given : said.PinClause → Option Dir
dir_given (said.OnNet n) = None
dir_given (said.Directed d) = Some d
dir_given (said.Used b) = None
dir_given said.Other = None

abbrev pub supply_given : said.PinClause → Option Bool
supply_given (said.OnNet n) = None
supply_given (said.Directed d) = None
supply_given (said.Used b) = Some b
supply_given said.Other = None

-- what was kept is what the clauses give first
pub record AreKept (text : List ℕ) (kept : PinClauses) (clauses : List said.PinClause) : Type 0 where
  pub net : usage_in text kept.net ≡ first_some (map net_given clauses)
  pub dir : kept.dir ≡ first_some (map dir_given clauses)
  pub supply : kept.supply ≡ first_some (map supply_given clauses)

-- clauses are read, and what they give is kept
pub record ReadsClauses (parser : Parser (List said.PinClause)) (old new : Reading) (result : Result PinClauses DefFault) : Type 0 where
  pub clauses : List said.PinClause
  pub reads : Reads 0 (λ (text : List ℕ) (kept : PinClauses). clauses) parser old new result
  pub kept : IfOk result (λ kept. AreKept old.text kept clauses)
