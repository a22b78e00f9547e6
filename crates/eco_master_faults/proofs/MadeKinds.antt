-- The kinds of masters.
use Rattle.std.proofs.Common.{◌≡◌, ℕ, ◌+◌, ◌<◌, ◌^◌, Bool, true, false, not, ◌||◌, List, [], ◌∷◌, ◌++◌, map, length, take, get_or, slice_get, Option, Some, None, option_map, option_and_then, refl, sym, ap, subst, ◌∙◌, inl, inr, true≢false, cond, arith}
use Rattle.std.specs.List.{IsDistinct, AllByRecursion, filter, All, list_all}
use Rattle.std.proofs.lemmas.Bool.{and_parts}
use Rattle.std.specs.Ordering.{eq_by_cmp}
use Rattle.std.specs.Str.{bytes_eq}
use Rattle.std.proofs.lemmas.List.{map-append, append-nil, take_more}
use Rattle.std.proofs.lemmas.List.Elements.{filter-append, All-push}
use Rattle.std.proofs.lemmas.Option.{slice_get-map, get_or_from_slice_get, slice_get_within}
use Rattle.std.proofs.lemmas.Slice.Eq.{bytes_eq-Decides}
use Rattle.eco_common.specs.declared.geometry.Dir.{Dir}
use Rattle.eco_func.specs.Masters.{MasterTables}
use Rattle.eco_func.specs.FunctionsFile.{find_master as find_function}
use Rattle.eco_lef.specs.declared.master.Master.{Master}
use Rattle.eco_lef.specs.declared.master.MasterPin.{MasterPin}
use Rattle.eco_common.specs.NameBytes.{is_among}
use Rattle.eco_lef.specs.Known.{names_of, pin_names, first_place}
use Rattle.eco_lef.specs.Names.{AreDistinct, HaveDistinctPins}
use Rattle.eco_lef.specs.Sizes.{size_of, KeepSizes}
use Rattle.eco_lef.specs.Collected.{find_master}
use Rattle.eco_common.specs.Sizes.{keeps_limit}
use Rattle.eco_lef.proofs.Naming.{found}
use Rattle.eco_net.specs.Among.{Has}
use Rattle.eco_net.specs.Netlist.{Name, name_cmp, Boxed}
use Rattle.eco_net.specs.declared.kind.BoxPin.{BoxPin}
use Rattle.eco_net.specs.declared.kind.Kind.{Kind as Given}
use Rattle.eco_net.specs.declared.kind.Kind.TheVariants.{Boxed as GivenBox}
use Rattle.eco_net.specs.Listing.{given_kind, HasOwnPins}
use Rattle.eco_net.proofs.Basics.{cmp_apart}
use Rattle.eco_master_faults.specs.Tables.{kind_in, kinds_of}
use Rattle.eco_master_faults.specs.Making.{box_pin, boxed, IsKindOf, AreKinds}

-- ---- the pins of a box

pub supply_out : (p : MasterPin) (bs : List BoxPin) → p.supply ≡ true → bs ≡ bs ++ boxed (p ∷ [])
supply_out p bs e = sym (ap (λ b. bs ++ map box_pin (cond (not b) (p ∷ []) [])) e ∙ append-nil bs)

pub signal_in : (p : MasterPin) → p.supply ≡ false → boxed (p ∷ []) ≡ box_pin p ∷ []
signal_in p e = ap (λ b. map box_pin (cond (not b) (p ∷ []) [])) e

pub boxed_more : (ps : List MasterPin) (i : ℕ) (d : MasterPin) → i < length ps → boxed (take (i + 1) ps) ≡ boxed (take i ps) ++ boxed (get_or ps i d ∷ [])
boxed_more ps i d l =
    ap boxed (take_more ps i d l)
    ∙ ap (map box_pin) (filter-append (λ (p : MasterPin). not p.supply) (take i ps) (get_or ps i d ∷ []))
    ∙ map-append box_pin (filter (λ (p : MasterPin). not p.supply) (take i ps)) _

box_pins_same : (ps : List MasterPin) → map {B = Name × Dir} (λ b. (b.name, b.dir)) (map box_pin ps) ≡ map {B = Name × Dir} (λ p. (p.name, p.dir)) ps
box_pins_same [] = refl
box_pins_same (p ∷ ps) = ap (λ xs. (p.name, p.dir) ∷ xs) (box_pins_same ps)

-- no later pin of a box has this name
abbrev Apart : Name → List BoxPin → Type 0
Apart n bs = AllByRecursion (λ k. eq_by_cmp name_cmp n k ≡ false) (map (λ b. b.name) bs)

apart_from : (n : Name) (ps : List MasterPin) → is_among (pin_names ps) n ≡ false → Apart n (boxed ps)
apart_from n [] e = tt
apart_from n (p ∷ ps) e = go (bytes_eq p.name n) refl (λ r. apart_from n ps r) e
  where
    other : bytes_eq p.name n ≡ false → n ≡ p.name → ⊥
    other f s = true≢false (sym ((bytes_eq-Decides p.name n).1 (sym s)) ∙ f)

    choose : (s : Bool) → bytes_eq p.name n ≡ false → Apart n (boxed ps) → Apart n (map box_pin (cond (not s) (p ∷ filter (λ q. not q.supply) ps) (filter (λ q. not q.supply) ps)))
    choose true f rest = rest
    choose false f rest = (cmp_apart n p.name (other f), rest)

    go : (b : Bool) → bytes_eq p.name n ≡ b → (is_among (pin_names ps) n ≡ false → Apart n (boxed ps)) → (b || is_among (pin_names ps) n) ≡ false → Apart n (boxed (p ∷ ps))
    go true f rest r = absurd (true≢false r)
    go false f rest r = choose p.supply f (rest r)

abbrev AreApart : List BoxPin → Type 0
AreApart bs = IsDistinct (eq_by_cmp name_cmp) (map (λ b. b.name) bs)

own_pins : (ps : List MasterPin) → AreDistinct (pin_names ps) → AreApart (boxed ps)
unfolding IsDistinct
own_pins [] d = tt
own_pins (p ∷ ps) d = choose p.supply (own_pins ps d.1)
  where
    choose : (s : Bool) → AreApart (boxed ps) → AreApart (map box_pin (cond (not s) (p ∷ filter (λ q. not q.supply) ps) (filter (λ q. not q.supply) ps)))
    choose true rest = rest
    choose false rest = (apart_from p.name ps d.0, rest)

pub box_kind : (m : Master) (bs cs : List BoxPin) → bs ≡ boxed m.pins → cs ≡ bs → length bs < 2 ^ 32 → AreDistinct (pin_names m.pins) → IsKindOf None m (GivenBox cs)
box_kind m bs cs made same few distinct = (
  ap (λ (xs : List BoxPin). Boxed (map {B = Name × Dir} (λ b. (b.name, b.dir)) xs)) (same ∙ made) ∙ ap Boxed (box_pins_same _),
  (subst (λ (xs : List BoxPin). IsDistinct (eq_by_cmp name_cmp) (map (λ (b : BoxPin). b.name) xs)) (sym (same ∙ made)) (own_pins m.pins distinct), subst (λ (xs : List BoxPin). length xs < 2 ^ 32) (sym same) few),
)

-- ---- the kinds of a list of masters

pub distinct_of : (ms : List Master) (m : Master) → HaveDistinctPins ms → Has ms m → AreDistinct (pin_names m.pins)
distinct_of [] m d h = absurd h
distinct_of (k ∷ ks) m d (inl e) = subst (λ (x : Master). AreDistinct (pin_names x.pins)) e d.0
distinct_of (k ∷ ks) m d (inr h) = distinct_of ks m d.1 h

pub no_kinds : (fs : List MasterTables) → AreKinds fs [] []
no_kinds fs = record { each = refl; own = λ k d h. absurd (omega arith) }

pub kinds_more : (fs : List MasterTables) (ms : List Master) (i : ℕ) (m : Master) (kinds : List Given) (kind : Given) → i < length ms → m ≡ get_or ms i m →
    AreKinds fs (take i ms) kinds → IsKindOf (find_function m.name fs) m kind → AreKinds fs (take (i + 1) ms) (kinds ++ kind ∷ [])
kinds_more fs ms i m kinds kind l e are is =
    record {
      each = map-append given_kind kinds (kind ∷ []) ∙ (λ j. are.each j ++ is.0 j ∷ []) ∙ sym (map-append (kind_in fs) (take i ms) (m ∷ []))
          ∙ ap (map (kind_in fs)) (sym (take_more ms i m l ∙ ap (λ x. take i ms ++ x ∷ []) (sym e)));
      own = All-push HasOwnPins kinds kind are.own is.1;
    }

-- ---- the kind at a name

mapped_twice : {A B C : Type 0} (f : B → C) (g : A → Option B) (h : A → Option C) → ((a : A) → option_map f (g a) ≡ h a) → (o : Option A) → option_map f (option_and_then g o) ≡ option_and_then h o
mapped_twice f g h s None = refl
mapped_twice f g h s (Some a) = s a

pub kind_at : (fs : List MasterTables) (ms : List Master) (kinds : List Given) (q : Name) (place : Option ℕ) → AreKinds fs ms kinds → place ≡ first_place (names_of ms) q →
    option_map given_kind (option_and_then (λ i. slice_get kinds i) place) ≡ (kinds_of ms fs).kind q
kind_at fs ms kinds q place are e =
    mapped_twice given_kind (λ i. slice_get kinds i) (λ i. option_map (kind_in fs) (slice_get ms i))
    (λ i. sym (slice_get-map given_kind kinds i) ∙ ap (λ xs. slice_get xs i) are.each ∙ slice_get-map (kind_in fs) ms i) place
    ∙ sym (mapped_twice (kind_in fs) (λ i. slice_get ms i) (λ i. option_map (kind_in fs) (slice_get ms i)) (λ i. refl) place)
    ∙ ap (λ o. option_map (kind_in fs) (option_and_then (λ i. slice_get ms i) o)) e
    ∙ ap (option_map (kind_in fs)) (found ms q)

pub own_at : (kinds : List Given) (i : ℕ) (kind : Given) → All HasOwnPins kinds → slice_get kinds i ≡ Some kind → HasOwnPins kind
own_at kinds i kind own e = subst HasOwnPins (get_or_from_slice_get kinds i kind kind e) (own i kind (slice_get_within kinds i kind e))

-- ---- the size at a name

pub found_keeps : (q : Name) (ms : List Master) → KeepSizes ms → (m : Master) → find_master q ms ≡ Some m → keeps_limit (size_of m) ≡ true
found_keeps q [] kept m e = absurd (cc)
found_keeps q (k ∷ ks) kept m e = let parts = and_parts (keeps_limit (size_of k)) (list_all (λ x. keeps_limit (size_of x)) ks) kept in go (bytes_eq k.name q) parts.0 (found_keeps q ks parts.1 m) e
  where
    go : (b : Bool) → keeps_limit (size_of k) ≡ true → (find_master q ks ≡ Some m → keeps_limit (size_of m) ≡ true) → cond b (Some k) (find_master q ks) ≡ Some m → keeps_limit (size_of m) ≡ true
    go true here rest e = let same : k ≡ m = cc in subst (λ (x : Master). keeps_limit (size_of x) ≡ true) same here
    go false here rest e = rest e
