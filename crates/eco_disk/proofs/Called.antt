-- The list of calls goes on.
use Rattle.std.proofs.Common.{◌≡◌, List, [], ◌++◌, not, Option, Some, None, Result, Ok, Err, refl, sym, ◌∙◌, ap, subst, append_assoc, OnOk}
use Rattle.std.proofs.lemmas.List.{append-nil}
use Rattle.std.proofs.lemmas.List.Elements.{filter-append}
use Rattle.eco_disk.specs.declared.call.Call.{Call}
use Rattle.eco_disk.specs.Calls.{Makes, MakesInOrder, is_look, changes, changes_of}

some_is : (x y : List Call) → Some x ≡ Some y → x ≡ y
some_is x y e = cc e

pub makes_none : (told : Option (List Call)) → Makes told told []
makes_none told = record { goes_on = λ all is. (all, is, sym (append-nil all)) }

pub makes_then : {a b c : Option (List Call)} {xs ys : List Call} → Makes a b xs → Makes b c ys → Makes a c (xs ++ ys)
makes_then {a} {b} {c} {xs} {ys} first second = record {
  goes_on = λ all is.
      let late = second.goes_on all is in
      let early = first.goes_on late.0 late.1 in
      (early.0, early.1, late.2 ∙ ap (λ (l : List Call). l ++ ys) early.2 ∙ append_assoc early.0 xs ys);
}

-- the changes among the calls
pub changes_made : {old new : Option (List Call)} {calls : List Call} → Makes old new calls → Makes (changes_of old) (changes_of new) (changes calls)
changes_made {old} {new} {calls} makes = record { goes_on = from new makes.goes_on }
  where
    from : (new : Option (List Call)) → ((all : List Call) → new ≡ Some all → (before : List Call) × (old ≡ Some before) × (all ≡ before ++ calls))
        → (all : List Call) → changes_of new ≡ Some all → (before : List Call) × (changes_of old ≡ Some before) × (all ≡ before ++ changes calls)
    from None goes_on all told = cc told
    from (Some now) goes_on all told =
        let was = goes_on now refl in
        (changes was.0, ap changes_of was.1, some_is all (changes now) (sym told) ∙ ap changes was.2 ∙ filter-append (λ call. not (is_look call)) was.0 calls)

module _ {T E : Type 0} {a b : Option (List Call)} where
  -- after Ok all were made
  pub all_made : {xs : List Call} {value : T} → MakesInOrder {T = T} {E = E} a b xs (Ok value) → Makes a b xs
  all_made order = subst (Makes a b) (sym (order.in_order ∙ ap (λ (l : List Call). order.made ++ l) order.whole ∙ append-nil order.made)) order.makes

  -- what was made before an error is a front of more calls, too
  pub some_made : {U F : Type 0} {xs : List Call} {error : E} (other : F) (ys : List Call) → MakesInOrder {T = T} {E = E} a b xs (Err error) → MakesInOrder {T = U} {E = F} a b (xs ++ ys) (Err other)
  some_made other ys order = record {
    made = order.made;
    left = order.left ++ ys;
    in_order = ap (λ (l : List Call). l ++ ys) order.in_order ∙ append_assoc order.made order.left ys;
    makes = order.makes;
    whole = tt;
  }

  -- calls after calls that were all made
  pub order_then : {c : Option (List Call)} {xs ys : List Call} {result : Result T E} → Makes a b xs → MakesInOrder b c ys result → MakesInOrder a c (xs ++ ys) result
  order_then {c} {xs} {ys} {result} first second = record {
    made = xs ++ second.made;
    left = second.left;
    in_order = ap (λ (l : List Call). xs ++ l) second.in_order ∙ sym (append_assoc xs second.made second.left);
    makes = makes_then first second.makes;
    whole = second.whole;
  }

  -- all of these calls were made
  pub in_order : {xs : List Call} (result : Result T E) → Makes a b xs → MakesInOrder a b xs result
  in_order {xs} (Ok value) makes = record { made = xs; left = []; in_order = sym (append-nil xs); makes = makes; whole = refl }
  in_order {xs} (Err error) makes = record { made = xs; left = []; in_order = sym (append-nil xs); makes = makes; whole = tt }

-- none of these calls was made
pub none_made : {T E : Type 0} (told : Option (List Call)) (xs : List Call) (error : E) → MakesInOrder {T = T} {E = E} told told xs (Err error)
none_made told xs error = record { made = []; left = xs; in_order = refl; makes = makes_none told; whole = tt }

-- the changes among calls that are made in order
pub order_changes : {T E : Type 0} {a b : Option (List Call)} {xs : List Call} (result : Result T E) → MakesInOrder a b xs result → MakesInOrder (changes_of a) (changes_of b) (changes xs) result
order_changes {T} {E} result order = record {
  made = changes order.made;
  left = changes order.left;
  in_order = ap changes order.in_order ∙ filter-append (λ call. not (is_look call)) order.made order.left;
  makes = changes_made order.makes;
  whole = on_ok result order.whole;
}
  where
    on_ok : (r : Result T E) → OnOk r (order.left ≡ []) → OnOk r (changes order.left ≡ [])
    on_ok (Ok value) none = ap changes none
    on_ok (Err error) none = tt
