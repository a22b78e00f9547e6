-- Why a rule is reported.
use Rattle.std.proofs.Common.{◌≡◌, ℕ, Bool, true, false, cond, List, [], ◌∷◌, Option, Some, None, Result, Ok, Err, IfErr, nat_lt, length, refl, sym, subst, ap, ◌∙◌}
use Rattle.std.specs.Option.{option_map}
use Rattle.eco_common.specs.Options.{first_some}
use Rattle.eco_order_file.specs.declared.rule.Counted.{Counted}
use Rattle.eco_order_file.specs.declared.rule.Counted.TheVariants.{Nets, Gates, Moves}
use Rattle.eco_order_file.specs.declared.rule.Rule.{Rule}
use Rattle.eco_order_file.specs.declared.rule.Rule.TheVariants.{BadJson, BadField, TooLarge, BadName, TwiceNamed}
use Rattle.eco_order_file.specs.declared.rule.OrderFault.{OrderFault}
use Rattle.eco_order_file.specs.declared.rule.OrderFault.TheVariants.{Broken, Memory}
use Rattle.eco_order_file.specs.Documents.{Reading, order}
use Rattle.eco_order_file.specs.Names.{Name, is_label, can_be_new}
use Rattle.eco_order_file.specs.Orders.{Order}
use Rattle.eco_order_file.specs.Reading.{keeping, unless_broken, said_of, document_of, Reads, IsBecause, HasCause, reported}
use Rattle.eco_order_file.specs.Repeats.{first_twice}
use Rattle.eco_order_file.specs.Rules.{too_many, too_large, bad_name, twice_named, broken_alone}
use Rattle.eco_order_file.proofs.Inverted.{none_some, same_some}
use Rattle.serde_json.specs.Data.{Data}

-- neither of the rules on texts
abbrev IsOwn : Rule → Type 0
IsOwn BadJson = ⊥
IsOwn (BadField path) = ⊥
IsOwn rule = Unit {0}

abbrev IsNoneOrOwn : Option Rule → Type 0
IsNoneOrOwn None = Unit {0}
IsNoneOrOwn (Some rule) = IsOwn rule

first_own : (o : Option Rule) (os : List (Option Rule)) → IsNoneOrOwn o → IsNoneOrOwn (first_some os) → IsNoneOrOwn (first_some (o ∷ os))
first_own None os h i = i
first_own (Some rule) os h i = h

many_own : {A : Type 0} (what : Counted) (most : ℕ) (xs : List A) → IsNoneOrOwn (too_many what most xs)
many_own what most xs = go (nat_lt most (length xs))
  where
    go : (b : Bool) → IsNoneOrOwn (cond b (Some (TooLarge what (length xs))) None)
    go true = tt
    go false = tt

large_own : (o : Order) → IsNoneOrOwn (too_large o)
large_own o = first_own _ _ (many_own Nets 640 o.nets) (first_own _ _ (many_own Gates 128 o.gates) (first_own _ _ (many_own Moves 512 o.moves) tt))

name_own : (n : Option Name) → IsNoneOrOwn (option_map BadName n)
name_own None = tt
name_own (Some n) = tt

twice_own : (n : Option Name) → IsNoneOrOwn (option_map TwiceNamed n)
twice_own None = tt
twice_own (Some n) = tt

alone_own : (o : Order) → IsNoneOrOwn (broken_alone o)
alone_own o = first_own _ _ (large_own o) (first_own (bad_name o) _ (name_own _) (first_own (twice_named o) [] (twice_own _) tt))

because : (text : List ℕ) (d : Data) (o : Order) (rule : Rule) → document_of text ≡ Some d → order d ≡ Ok o → broken_alone o ≡ Some rule → IsOwn rule → IsBecause text rule
because text d o BadJson e f b h = absurd h
because text d o (BadField path) e f b h = absurd h
because text d o rule e f b h = (d, e, o, f, b)

err_some : (o : Order) (b : Option Rule) (rule : Rule) → unless_broken o b ≡ Err rule → b ≡ Some rule
err_some o None rule e = absurd cc
err_some o (Some r) rule e = cc

of_order : (text : List ℕ) (d : Data) (r : Reading Order) (rule : Rule) → document_of text ≡ Some d → order d ≡ r → keeping r ≡ Err rule → IsBecause text rule
of_order text d (Ok o) rule e f h =
    let b : broken_alone o ≡ Some rule = err_some o (broken_alone o) rule h in
    because text d o rule e f b (subst IsNoneOrOwn b (alone_own o))
of_order text d (Err steps) rule e f h =
    let same : BadField (reported steps) ≡ rule = cc in
    subst (IsBecause text) same (d, e, steps, f, refl)

of_document : (text : List ℕ) (o : Option Data) (rule : Rule) → document_of text ≡ o → said_of o ≡ Err rule → IsBecause text rule
of_document text None rule e h =
    let same : BadJson ≡ rule = cc in
    subst (IsBecause text) same e
of_document text (Some d) rule e h = of_order text d (order d) rule e refl h

pub cause_of : (text : List ℕ) (r : Result Order OrderFault) → Reads text r → IfErr r (HasCause text)
cause_of text (Ok o) h = tt
cause_of text (Err (Broken rule)) h = of_document text (document_of text) rule refl h
cause_of text (Err Memory) h = tt
