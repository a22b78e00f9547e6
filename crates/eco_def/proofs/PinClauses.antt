-- What the clauses of a top pin give first.
use Rattle.std.specs.Option.{option_or}
use Rattle.std.proofs.Common.{◌≡◌, ℕ, Bool, true, false, List, [], ◌∷◌, ◌++◌, map, Option, Some, None, unwrap_or, Result, Ok, Err, refl, ap, sym, ◌∙◌, codes}
use Rattle.eco_text.specs.Words.{Token, Walk}
use Rattle.eco_common.specs.declared.geometry.Dir.TheVariants.{Inout}
use Rattle.eco_def.specs.declared.fault.DefFault.{DefFault}
use Rattle.eco_def.specs.declared.pin_clause.PinClause.{PinClause}
use Rattle.eco_def.specs.declared.pin_clause.PinClauses.{PinClauses}
use Rattle.eco_def.specs.declared.design.TopPin.{TopPin}
use Rattle.eco_def.specs.declared.fault.DefFault.TheVariants.{BadStatement}
use Rattle.eco_def.specs.Design as said-design
use Rattle.eco_def.specs.Grammar as said
use Rattle.eco_def.specs.Grammar.{pin_named}
use Rattle.eco_text.specs.Tokens.{is_one_of}
use Rattle.eco_def.specs.Reading.{Reading, Reads, left}
use Rattle.eco_text.specs.Cursor.{token}
use Rattle.eco_text.specs.declared.word.Word.{Word}
use Rattle.eco_def.proofs.PassedOver.{refuse_as, refuses_as, refused}
use Rattle.eco_common.specs.Options.{first_some}
use Rattle.eco_def.specs.Parsing.{then_read, begins, refuse, many_until}
use Rattle.eco_text.specs.Tokens.{is_word}
use Rattle.eco_def.specs.View.{usage_in, pin_in}
use Rattle.eco_def.specs.TopPins.{clause_in, net_given, dir_given, supply_given, AreKept, ReadsClauses}
use Rattle.eco_def.proofs.Loops.{map_push, first_some-push}

first_more : {A : Type 0} (f : said.PinClause → Option A) (cs : List said.PinClause) (c : said.PinClause) → first_some (map f (cs ++ c ∷ [])) ≡ option_or (first_some (map f cs)) (f c)
first_more f cs c = ap first_some (map_push f cs c) ∙ first_some-push (map f cs) (f c)

-- one clause more
pub kept_more : (text : List ℕ) (old new : PinClauses) (cs : List said.PinClause) (c : PinClause) → AreKept text old cs →
    ((text : List ℕ) → usage_in text new.net ≡ option_or (usage_in text old.net) (net_given (clause_in text c))) →
    ((text : List ℕ) → new.dir ≡ option_or old.dir (dir_given (clause_in text c))) →
    ((text : List ℕ) → new.supply ≡ option_or old.supply (supply_given (clause_in text c))) → AreKept text new (cs ++ clause_in text c ∷ [])
kept_more text old new cs c kept net dir supply = record {
  net = net text ∙ ap (λ o. option_or o (net_given (clause_in text c))) kept.net ∙ sym (first_more net_given cs (clause_in text c));
  dir = dir text ∙ ap (λ o. option_or o (dir_given (clause_in text c))) kept.dir ∙ sym (first_more dir_given cs (clause_in text c));
  supply = supply text ∙ ap (λ o. option_or o (supply_given (clause_in text c))) kept.supply ∙ sym (first_more supply_given cs (clause_in text c));
}

pub net_is : (cs : List said.PinClause) → said.net_in cs ≡ first_some (map net_given cs)
net_is [] = refl
net_is (said.OnNet n ∷ cs) = refl
net_is (said.Directed d ∷ cs) = net_is cs
net_is (said.Used b ∷ cs) = net_is cs
net_is (said.Other ∷ cs) = net_is cs

pub dir_is : (cs : List said.PinClause) → said.dir_in cs ≡ unwrap_or (first_some (map dir_given cs)) Inout
dir_is [] = refl
dir_is (said.OnNet n ∷ cs) = dir_is cs
dir_is (said.Directed d ∷ cs) = refl
dir_is (said.Used b ∷ cs) = dir_is cs
dir_is (said.Other ∷ cs) = dir_is cs

pub supply_is : (cs : List said.PinClause) → said.supply_in cs ≡ unwrap_or (first_some (map supply_given cs)) false
supply_is [] = refl
supply_is (said.OnNet n ∷ cs) = supply_is cs
supply_is (said.Directed d ∷ cs) = supply_is cs
supply_is (said.Used b ∷ cs) = refl
supply_is (said.Other ∷ cs) = supply_is cs

-- ---- the rest of a pin's statement

abbrev either_mark : Token → Bool
either_mark = is_one_of (codes "+" ∷ codes ";" ∷ [])

pub clauses_refused : (u : Walk) (e : DefFault) → begins either_mark u ≡ false → refuse {A = Token} BadStatement u ≡ Err e → said.pin_clauses u ≡ Err e
unfolding said.pin_clauses
clauses_refused u e off is = rw off (refuse_as {A = Token} {B = List said.PinClause} BadStatement u e is)

pub clauses_read : (u : Walk) → begins either_mark u ≡ true → many_until (is_word (codes ";")) (λ before. said.pin_clause) u ≡ said.pin_clauses u
unfolding said.pin_clauses
clauses_read u on = rw on refl

pub named_stuck : (n : Token) (old new : Reading) (e : DefFault) → ReadsClauses said.pin_clauses old new (Err e) → Reads 0 pin_in (pin_named n) old new (Err e)
unfolding pin_named
named_stuck n old new e is = record {
  text = is.reads.text;
  shorter = tt;
  order = λ lo hi o. tt;
  value = refuses_as (said.pin_clauses (left old)) (pin_named n (left old)) e (λ k failed. ap (λ r. then_read r (λ cs. said.pin_on n cs (said.net_in cs))) failed) is.reads.value;
}

pub named_read : (name net : Word) (kept : PinClauses) (old new : Reading) → kept.net ≡ Some net → ReadsClauses said.pin_clauses old new (Ok kept) →
    Reads 0 pin_in (pin_named (token old.text name)) old new (Ok (let p : TopPin = record { name = name; net = net; dir = unwrap_or kept.dir Inout; supply = unwrap_or kept.supply false } in p))
unfolding pin_named
named_read name net kept old new has is =
    let n = token old.text name in
    let stands : said.net_in is.clauses ≡ Some (token old.text net) = net_is is.clauses ∙ sym is.kept.net ∙ ap (usage_in old.text) has in
    let dir : said.dir_in is.clauses ≡ unwrap_or kept.dir Inout = dir_is is.clauses ∙ ap (λ o. unwrap_or o Inout) (sym is.kept.dir) in
    let supply : said.supply_in is.clauses ≡ unwrap_or kept.supply false = supply_is is.clauses ∙ ap (λ o. unwrap_or o false) (sym is.kept.supply) in
    record {
      text = is.reads.text;
      shorter = is.reads.shorter;
      order = is.reads.order;
      value = ap (λ r. then_read r (λ cs. said.pin_on n cs (said.net_in cs))) is.reads.value
          ∙ ap (λ o. said.pin_on n is.clauses o (left new)) stands
          ∙ ap (λ d. let t : said-design.TopPin = record { name = n; net = token old.text net; dir = d; supply = said.supply_in is.clauses } in let r : Result (said-design.TopPin × Walk) DefFault = Ok (t, left new) in r) dir
          ∙ ap (λ b. let t : said-design.TopPin = record { name = n; net = token old.text net; dir = unwrap_or kept.dir Inout; supply = b } in let r : Result (said-design.TopPin × Walk) DefFault = Ok (t, left new) in r) supply;
    }

pub named_refused : (n : Token) (kept : PinClauses) (old new : Reading) (e : DefFault) → kept.net ≡ None → ReadsClauses said.pin_clauses old new (Ok kept) → refuse {A = Token} BadStatement (left new) ≡ Err e → Reads 0 pin_in (pin_named n) old new (Err e)
unfolding pin_named
named_refused n kept old new e none is bad =
    let missing : said.net_in is.clauses ≡ None = net_is is.clauses ∙ sym is.kept.net ∙ ap (usage_in old.text) none in
    record {
      text = is.reads.text;
      shorter = tt;
      order = λ lo hi o. tt;
      value = refused (pin_named n (left old)) e (ap (λ r. then_read r (λ cs. said.pin_on n cs (said.net_in cs))) is.reads.value ∙ ap (λ o. said.pin_on n is.clauses o (left new)) missing ∙ refuse_as {A = Token} {B = said-design.TopPin} BadStatement (left new) e bad);
    }
