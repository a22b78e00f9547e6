-- The supplies that are found, statement by statement.
use Rattle.std.proofs.Common.{◌≡◌, ℕ, ◌+◌, ◌<◌, Bool, true, false, cond, not, List, [], ◌∷◌, length, map, take, get_or, Option, Some, None, refl, sym, ap, ◌∙◌, ⊎_elim, if◌then◌else◌}
use Rattle.std.specs.Option.{option_map, option_or}
use Rattle.std.specs.List.{find}
use Rattle.std.specs.Str.{bytes_eq}
use Rattle.std.proofs.lemmas.Bool.{cases_Bool}
use Rattle.eco_def.specs.declared.design.NetStatement.{NetStatement}
use Rattle.eco_def.specs.Named.{NamedNet}
use Rattle.eco_common.specs.Options.{first_some}
use Rattle.eco_net.specs.Netlist.{Name}
use Rattle.eco_elaborate.specs.Netlists.{supply_by}
use Rattle.eco_elaborate.specs.Stated.{named_net, named_nets, supply_among}
use Rattle.eco_elaborate.specs.Stages.{agree, keeps_value}
use Rattle.eco_elaborate.proofs.Names.{same_name, or_none}
use Rattle.eco_elaborate.proofs.Adding.{mapped_more}
use Rattle.eco_elaborate.proofs.Nets.{supply_among-append}

-- a name's value where it is given one only if it has none
pub given_once : (value : Name → Option Bool) (name : Name) (given : Option Bool) (n : Name) → value name ≡ None → cond (bytes_eq name n) given (value n) ≡ option_or (value n) (if bytes_eq name n then given else None)
given_once value name given n none = ⊎_elim
    (λ t.
    ap (λ b. cond b given (value n)) t
    ∙ sym (ap (λ o. option_or o (if bytes_eq name n then given else None)) (ap value (sym (same_name name n t)) ∙ none) ∙ ap (λ b. cond b given None) t))
    (λ f. ap (λ b. cond b given (value n)) f ∙ sym (or_none (value n)) ∙ sym (ap (λ b. option_or (value n) (cond b given None)) f))
    (cases_Bool (bytes_eq name n))

-- the value by one statement
pub value_by_one : (s : NamedNet) (n : Name) → supply_among (s ∷ []) n ≡ (if bytes_eq s.name n then supply_by s.usage else None)
value_by_one s n = go (bytes_eq s.name n)
  where
    alone : (o : Option Bool) → first_some (o ∷ []) ≡ o
    alone None = refl
    alone (Some b) = refl

    go : (b : Bool) → first_some (map (λ s. supply_by s.usage) (cond b (s ∷ []) [])) ≡ cond b (supply_by s.usage) None
    go true = alone (supply_by s.usage)
    go false = refl

-- the value by one statement more
pub value_by_more : (text : List ℕ) (ss : List NetStatement) (i : ℕ) (s : NetStatement) (n : Name) → i < length ss → s ≡ get_or ss i s →
    supply_among (named_nets text (take (i + 1) ss)) n ≡ option_or (supply_among (named_nets text (take i ss)) n) (supply_among (named_net text s ∷ []) n)
value_by_more text ss i s n h e =
    ap (λ ts. supply_among ts n) (mapped_more (named_net text) ss i s h e)
    ∙ supply_among-append (named_nets text (take i ss)) (named_net text s ∷ []) n

-- the first statement that differs is that of the statements by names
pub differing : (text : List ℕ) (value : Name → Option Bool) (ns : List NetStatement) (ss : List NamedNet) → ((n : Name) → value n ≡ supply_among ss n) →
    option_map (λ s. (named_net text s).name) (find (λ s. not (keeps_value value (named_net text s))) ns) ≡ option_map (λ s. s.name) (find (λ s. not (keeps_value (supply_among ss) s)) (named_nets text ns))
differing text value [] ss values = refl
differing text value (n ∷ ns) ss values =
    ap (λ o. option_map (λ s. (named_net text s).name) (cond (not (agree (supply_by (named_net text n).usage) o)) (Some n) (find (λ s. not (keeps_value value (named_net text s))) ns))) (values (named_net text n).name)
    ∙ go (find (λ s. not (keeps_value value (named_net text s))) ns) (find (λ s. not (keeps_value (supply_among ss) s)) (named_nets text ns)) (keeps_value (supply_among ss) (named_net text n)) (differing text value ns ss values)
  where
    go : (x : Option NetStatement) (y : Option NamedNet) (b : Bool) → option_map (λ s. (named_net text s).name) x ≡ option_map (λ s. s.name) y →
        option_map (λ s. (named_net text s).name) (cond (not b) (Some n) x) ≡ option_map (λ s. s.name) (cond (not b) (Some (named_net text n)) y)
    go x y true rest = rest
    go x y false rest = refl
