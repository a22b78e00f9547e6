-- The first item that passes a test, in a list that is read item by item.
use Rattle.std.proofs.Common.{◌≡◌, ℕ, ◌+◌, ◌<◌, Bool, true, false, cond, is_some, List, [], ◌∷◌, ◌++◌, length, map, take, drop, get_or, Option, Some, None, refl, sym, ap, ap₂, ◌∙◌}
use Rattle.std.specs.List.{find, filter}
use Rattle.std.specs.Option.{option_map, option_or}
use Rattle.std.specs.Str.{bytes_eq}
use Rattle.std.proofs.lemmas.List.{take_more, take-append-drop, map-append, append-nil}
use Rattle.std.proofs.lemmas.List.Folds.{find-append}
use Rattle.std.proofs.lemmas.List.Elements.{filter-append}
use Rattle.std.proofs.lemmas.Grind.{flat_map-append}
use Rattle.eco_def.specs.declared.design.NetStatement.{NetStatement}
use Rattle.eco_net.specs.Netlist.{Name}
use Rattle.eco_pin_faults.specs.declared.side.Side.{Side}
use Rattle.eco_pin_faults.specs.Held.{takes}
use Rattle.eco_pin_faults.specs.Pins.{of_named}
use Rattle.eco_pin_faults.specs.Places.{joints_on, joints_among}

-- ---- options

pub or_none : {X : Type 0} (o : Option X) → option_or o None ≡ o
or_none None = refl
or_none (Some x) = refl

pub or_assoc : {X : Type 0} (a b c : Option X) → option_or (option_or a b) c ≡ option_or a (option_or b c)
or_assoc None b c = refl
or_assoc (Some x) b c = refl

pub map_or : {X Y : Type 0} (f : X → Y) (a b : Option X) → option_map f (option_or a b) ≡ option_or (option_map f a) (option_map f b)
map_or f None b = refl
map_or f (Some x) b = refl

pub map_cond : {X Y : Type 0} (f : X → Y) (b : Bool) (x : X) → option_map f (cond b (Some x) None) ≡ cond b (Some (f x)) None
map_cond f true x = refl
map_cond f false x = refl

pub some_map : {X Y : Type 0} (f : X → Y) (o : Option X) → is_some (option_map f o) ≡ is_some o
some_map f None = refl
some_map f (Some x) = refl

some_apart : false ≡ true → ⊥
some_apart e = cc

-- a value that is given only where there is none
pub once : {X : Type 0} (b : Bool) (given o : Option X) → (b ≡ true → o ≡ None) → cond b given o ≡ option_or o (cond b given None)
once true given o none = ap (λ x. option_or x given) (sym (none refl))
once false given o none = sym (or_none o)

-- nothing is given where there is one
pub kept : {X : Type 0} (b : Bool) (given o : Option X) → (b ≡ true → is_some o ≡ true) → o ≡ option_or o (cond b given None)
kept b given (Some x) some = refl
kept true given None some = absurd (some_apart (some refl))
kept false given None some = refl

-- ---- one item more

module _ {A B : Type 0} (f : List A → List B) (add : (xs ys : List A) → f (xs ++ ys) ≡ f xs ++ f ys) (p : B → Bool) (xs : List A) (i : ℕ) (d : A) (lt : i < length xs) where
  pub find_more : find p (f (take (i + 1) xs)) ≡ option_or (find p (f (take i xs))) (find p (f (get_or xs i d ∷ [])))
  find_more =
      ap (λ ys. find p (f ys)) (take_more xs i d lt)
      ∙ ap (find p) (add (take i xs) (get_or xs i d ∷ []))
      ∙ find-append p (f (take i xs)) (f (get_or xs i d ∷ []))

  pub none_more : find p (f (take i xs)) ≡ None → find p (f (get_or xs i d ∷ [])) ≡ None → find p (f (take (i + 1) xs)) ≡ None
  none_more a b = find_more ∙ ap₂ option_or a b

  pub found_now : (y : B) → find p (f (take i xs)) ≡ None → find p (f (get_or xs i d ∷ [])) ≡ Some y → find p (f xs) ≡ Some y
  found_now y a b =
      ap (λ ys. find p (f ys)) (sym (take-append-drop (i + 1) xs))
      ∙ ap (find p) (add (take (i + 1) xs) (drop (i + 1) xs))
      ∙ find-append p (f (take (i + 1) xs)) (f (drop (i + 1) xs))
      ∙ ap (λ o. option_or o (find p (f (drop (i + 1) xs)))) (find_more ∙ ap₂ option_or a b)

-- the same, where the item is read
module _ {A B : Type 0} (f : List A → List B) (add : (xs ys : List A) → f (xs ++ ys) ≡ f xs ++ f ys) (p : B → Bool) (xs : List A) (i : ℕ) (x : A) (lt : i < length xs) (at : x ≡ get_or xs i x) where
  pub item_fails : find p (f (take i xs)) ≡ None → find p (f (x ∷ [])) ≡ None → find p (f (take (i + 1) xs)) ≡ None
  item_fails a b = none_more f add p xs i x lt a (ap (λ z. find p (f (z ∷ []))) (sym at) ∙ b)

  pub item_passes : (y : B) → find p (f (take i xs)) ≡ None → find p (f (x ∷ [])) ≡ Some y → Some y ≡ find p (f xs)
  item_passes y a b = sym (found_now f add p xs i x lt y a (ap (λ z. find p (f (z ∷ []))) (sym at) ∙ b))

  pub item_some : (o : Option B) → find p (f (take i xs)) ≡ None → o ≡ find p (f (x ∷ [])) → is_some o ≡ true → o ≡ find p (f xs)
  item_some None a b s = absurd (some_apart s)
  item_some (Some y) a b s = item_passes y a (sym b)

  pub item_none : (o : Option B) → find p (f (take i xs)) ≡ None → o ≡ find p (f (x ∷ [])) → is_some o ≡ false → find p (f (take (i + 1) xs)) ≡ None
  item_none None a b s = item_fails a (sym b)
  item_none (Some y) a b s = absurd (some_apart (sym s))

-- one list and then another
module _ {B : Type 0} (p : B → Bool) (xs ys : List B) where
  pub in_front : (o : Option B) → o ≡ find p xs → is_some o ≡ true → o ≡ find p (xs ++ ys)
  in_front None e s = absurd (some_apart s)
  in_front (Some y) e s = ap (λ o. option_or o (find p ys)) e ∙ sym (find-append p xs ys)

  pub behind : (o : Option B) → o ≡ find p xs → is_some o ≡ false → find p (xs ++ ys) ≡ find p ys
  behind None e s = find-append p xs ys ∙ ap (λ o. option_or o (find p ys)) (sym e)
  behind (Some y) e s = absurd (some_apart (sym s))

-- the same in a list that is made item by item
module _ {A B : Type 0} (f : A → B) (p : B → Bool) (xs : List A) (i : ℕ) (d : A) (lt : i < length xs) (y : B) (e : y ≡ f (get_or xs i d)) where
  pub made_fails : find p (map f (take i xs)) ≡ None → p y ≡ false → find p (map f (take (i + 1) xs)) ≡ None
  made_fails a t = none_more (map f) (map-append f) p xs i d lt a (ap (λ b. cond b (Some (f (get_or xs i d))) None) (ap p (sym e) ∙ t))

  pub made_passes : find p (map f (take i xs)) ≡ None → p y ≡ true → Some y ≡ find p (map f xs)
  made_passes a t = sym (found_now (map f) (map-append f) p xs i d lt y a (ap (λ b. cond b (Some (f (get_or xs i d))) None) (ap p (sym e) ∙ t) ∙ ap Some (sym e)))

pub same_list : {A : Type 0} (xs ys : List A) → xs ++ ys ≡ xs ++ ys
same_list xs ys = refl

-- ---- by name

pub find_map : {A B : Type 0} (test : B → Bool) (f : A → B) (xs : List A) → find test (map f xs) ≡ option_map f (find (λ x. test (f x)) xs)
find_map test f [] = refl
find_map {A = A} {B = B} test f (x ∷ xs) = go (test (f x)) (find_map test f xs)
  where
    go : (b : Bool) → find test (map f xs) ≡ option_map f (find (λ x. test (f x)) xs) → cond b (Some (f x)) (find test (map f xs)) ≡ option_map f (cond b (Some x) (find (λ x. test (f x)) xs))
    go true rest = refl
    go false rest = rest

pub map_twice : {X Y Z : Type 0} (g : Y → Z) (f : X → Y) (o : Option X) → option_map g (option_map f o) ≡ option_map (λ x. g (f x)) o
map_twice g f None = refl
map_twice g f (Some x) = refl

pub named_map : {A B X : Type 0} (name : B → Name) (value : B → X) (f : A → B) (xs : List A) (n : Name) → of_named name value (map f xs) n ≡ of_named (λ x. name (f x)) (λ x. value (f x)) xs n
named_map name value f xs n = ap (option_map value) (find_map (λ x. bytes_eq (name x) n) f xs) ∙ map_twice value f (find (λ x. bytes_eq (name (f x)) n) xs)

pub first_named_more : {A : Type 0} (name : A → Name) (xs : List A) (i : ℕ) (d : A) (n : Name) → i < length xs →
    find (λ x. bytes_eq (name x) n) (take (i + 1) xs) ≡ option_or (find (λ x. bytes_eq (name x) n) (take i xs)) (cond (bytes_eq (name (get_or xs i d)) n) (Some (get_or xs i d)) None)
first_named_more name xs i d n lt = find_more (λ ys. ys) same_list (λ x. bytes_eq (name x) n) xs i d lt

pub named_more : {A X : Type 0} (name : A → Name) (value : A → X) (xs : List A) (i : ℕ) (d : A) (n : Name) → i < length xs →
    of_named name value (take (i + 1) xs) n ≡ option_or (of_named name value (take i xs) n) (cond (bytes_eq (name (get_or xs i d)) n) (Some (value (get_or xs i d))) None)
named_more name value xs i d n lt =
    ap (option_map value) (first_named_more name xs i d n lt)
    ∙ map_or value (find (λ x. bytes_eq (name x) n) (take i xs)) (cond (bytes_eq (name (get_or xs i d)) n) (Some (get_or xs i d)) None)
    ∙ ap (option_or (of_named name value (take i xs) n)) (map_cond value (bytes_eq (name (get_or xs i d)) n) (get_or xs i d))

-- ---- joints of statements

module _ (text : List ℕ) (side : Side) where
  pub side_append : (xs ys : List NetStatement) → joints_among text (filter (takes side) (xs ++ ys)) ≡ joints_among text (filter (takes side) xs) ++ joints_among text (filter (takes side) ys)
  side_append xs ys = ap (joints_among text) (filter-append (takes side) xs ys) ∙ flat_map-append (joints_on text) (filter (takes side) xs) (filter (takes side) ys)

  pub stands_here : (s : NetStatement) → takes side s ≡ true → joints_among text (filter (takes side) (s ∷ [])) ≡ joints_on text s
  stands_here s e = ap (λ b. joints_among text (cond b (s ∷ []) [])) e ∙ append-nil (joints_on text s)

  pub stands_elsewhere : (s : NetStatement) → takes side s ≡ false → joints_among text (filter (takes side) (s ∷ [])) ≡ []
  stands_elsewhere s e = ap (λ b. joints_among text (cond b (s ∷ []) [])) e
