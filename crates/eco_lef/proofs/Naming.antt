-- Names and where they stand.
use Rattle.std.specs.Global.{Global}
use Rattle.std.specs.Str.{bytes_eq}
use Rattle.std.specs.Option.{option_or}
use Rattle.std.specs.HashMap as hash
use Rattle.std.specs.Map.{lookup, KeepsOthers, IsKeyTest, AreApart}
use Rattle.std.specs.HashMap.{HashMap}
use Rattle.std.specs.Cmp.Lexicographic.{nat_list_eq_equiv}
use Rattle.std.specs.declared.hash.FoldHasher.{FoldHasher}
use Rattle.std.specs.declared.hash.BuildHasherDefault.{BuildHasherDefault}
use Rattle.std.specs.declared.vec.Vec.{Vec}
use Rattle.std.proofs.Common.{◌≡◌, ℕ, suc, Bool, true, false, ◌||◌, List, [], ◌∷◌, ◌++◌, length, map, slice_get, Option, Some, None, is_some, option_map, option_and_then, refl, ap, sym, subst, ◌∙◌, if◌then◌else◌}
use Rattle.std.proofs.lemmas.Slice.Eq.{bytes_eq-Decides}
use Rattle.eco_lef.specs.declared.master.Master.{Master}
use Rattle.eco_common.specs.NameBytes.{is_among}
use Rattle.eco_lef.specs.Known.{place_of, first_place, AreNames, names_of}
use Rattle.eco_lef.specs.Collected.{find_master}

pub or_none : {A : Type 0} (o : Option A) → option_or o None ≡ o
or_none None = refl
or_none (Some x) = refl

kept_apart : {K X : Type 0} (eq : K → K → Bool) (test : K → Bool) (old new : List (K × X)) → KeepsOthers eq test old new → (other : K → Bool) → IsKeyTest eq other → AreApart test other → lookup other new ≡ lookup other old
unfolding KeepsOthers
kept_apart eq test old new keeps = keeps

apart : (a b c : List ℕ) → bytes_eq a b ≡ false → bytes_eq a c ≡ true → bytes_eq b c ≡ false
apart a b c differ same = nat_list_eq_equiv.symm b c ∙ sym (nat_list_eq_equiv.congr a c b same) ∙ differ

-- what a map has after a name was put in
updated : (old new : HashMap (Vec ℕ Global) ℕ (BuildHasherDefault FoldHasher)) (k : Vec ℕ Global) (place : ℕ) → hash.Updates (λ x y. bytes_eq x.items y.items) old new k (Some place) →
    (q : List ℕ) (b : Bool) → bytes_eq k.items q ≡ b → place_of new q ≡ (if b then Some place else place_of old q)
updated old new k place updates q true is = subst (λ n. place_of new n ≡ Some place) ((bytes_eq-Decides k.items q).0 is) updates.1
updated old new k place updates q false is =
    kept_apart (λ x y. bytes_eq x.items y.items) (λ y. bytes_eq k.items y.items) old.entries new.entries updates.3
    (λ y. bytes_eq q y.items) (λ x y. nat_list_eq_equiv.congr q x.items y.items) (λ y. apart k.items q y.items is)

-- one more name, which wasn't known
pub one_more_name : (old new : HashMap (Vec ℕ Global) ℕ (BuildHasherDefault FoldHasher)) (k : Vec ℕ Global) (place : ℕ) → hash.Updates (λ x y. bytes_eq x.items y.items) old new k (Some place) → is_some (place_of old k.items) ≡ false →
    (q : List ℕ) → place_of new q ≡ option_or (place_of old q) (if bytes_eq k.items q then Some place else None)
one_more_name old new k place updates unknown q = go (bytes_eq k.items q) refl
  where
    none : (o : Option ℕ) → is_some o ≡ false → o ≡ None
    none None is = refl
    none (Some x) is = cc

    go : (b : Bool) → bytes_eq k.items q ≡ b → place_of new q ≡ option_or (place_of old q) (if b then Some place else None)
    go true is =
        let same : k.items ≡ q = (bytes_eq-Decides k.items q).0 is in
        let absent : place_of old q ≡ None = none (place_of old q) (subst (λ n. is_some (place_of old n) ≡ false) same unknown) in
        updated old new k place updates q true is ∙ sym (ap (λ o. option_or o (Some place)) absent)
    go false is = updated old new k place updates q false is ∙ sym (or_none (place_of old q))

-- a name that is known is in the list
pub known_among : (ns : List (List ℕ)) (q : List ℕ) → is_some (first_place ns q) ≡ is_among ns q
known_among [] q = refl
known_among (n ∷ ns) q = go (bytes_eq n q) (known_among ns q)
  where
    mapped : (o : Option ℕ) → is_some (option_map (λ i. suc i) o) ≡ is_some o
    mapped None = refl
    mapped (Some i) = refl

    go : (b : Bool) → is_some (first_place ns q) ≡ is_among ns q → is_some (if b then Some 0 else option_map (λ i. suc i) (first_place ns q)) ≡ (b || is_among ns q)
    go true rec = refl
    go false rec = mapped (first_place ns q) ∙ rec

-- the list with one more name
pub first_place_push : (ns : List (List ℕ)) (n q : List ℕ) → first_place (ns ++ n ∷ []) q ≡ option_or (first_place ns q) (if bytes_eq n q then Some (length ns) else None)
first_place_push [] n q = refl
first_place_push (m ∷ ns) n q = go (bytes_eq m q) (bytes_eq n q) (first_place_push ns n q)
  where
    behind : (o : Option ℕ) (b : Bool) → option_map (λ i. suc i) (option_or o (if b then Some (length ns) else None)) ≡ option_or (option_map (λ i. suc i) o) (if b then Some (suc (length ns)) else None)
    behind (Some i) b = refl
    behind None true = refl
    behind None false = refl

    go : (a b : Bool) → first_place (ns ++ n ∷ []) q ≡ option_or (first_place ns q) (if b then Some (length ns) else None) →
        (if a then Some 0 else option_map (λ i. suc i) (first_place (ns ++ n ∷ []) q)) ≡ option_or (if a then Some 0 else option_map (λ i. suc i) (first_place ns q)) (if b then Some (suc (length ns)) else None)
    go true b is = refl
    go false b is = ap (option_map (λ i. suc i)) is ∙ behind (first_place ns q) b

-- the master at the first place of a name
pub found : (ms : List Master) (q : List ℕ) → option_and_then (λ i. slice_get ms i) (first_place (names_of ms) q) ≡ find_master q ms
found [] q = refl
found (m ∷ ms) q = go (bytes_eq m.name q) (found ms q)
  where
    behind : (o : Option ℕ) → option_and_then (λ i. slice_get (m ∷ ms) i) (option_map (λ i. suc i) o) ≡ option_and_then (λ i. slice_get ms i) o
    behind None = refl
    behind (Some i) = refl

    go : (b : Bool) → option_and_then (λ i. slice_get ms i) (first_place (names_of ms) q) ≡ find_master q ms →
        option_and_then (λ i. slice_get (m ∷ ms) i) (if b then Some 0 else option_map (λ i. suc i) (first_place (names_of ms) q)) ≡ (if b then Some m else find_master q ms)
    go true is = refl
    go false is = behind (first_place (names_of ms) q) ∙ is

pub map_push : {A B : Type 0} (f : A → B) (xs : List A) (x : A) → map f (xs ++ x ∷ []) ≡ map f xs ++ f x ∷ []
map_push f [] x = refl
map_push f (y ∷ xs) x = ap (λ k. f y ∷ k) (map_push f xs x)

-- a list and a map of its names, with one more
pub named_push : (old new : HashMap (Vec ℕ Global) ℕ (BuildHasherDefault FoldHasher)) (ns ms : List (List ℕ)) (n m : List ℕ) (place : ℕ) → ms ≡ ns ++ n ∷ [] → m ≡ n → place ≡ length ns → AreNames old ns →
    ((q : List ℕ) → place_of new q ≡ option_or (place_of old q) (if bytes_eq m q then Some place else None)) → AreNames new ms
named_push old new ns ms n m place pushed same at are adds q =
    adds q ∙ ap (λ o. option_or o (if bytes_eq m q then Some place else None)) (are q)
    ∙ ap (λ k. option_or (first_place ns q) (if bytes_eq k q then Some place else None)) same
    ∙ ap (λ k. option_or (first_place ns q) (if bytes_eq n q then Some k else None)) at
    ∙ sym (ap (λ k. first_place k q) pushed ∙ first_place_push ns n q)
