-- Maps to which a name is added once.
use Rattle.std.proofs.Common.{◌≡◌, ℕ, Bool, true, false, cond, ◌&&◌, is_some, List, [], ◌∷◌, ◌++◌, Option, Some, None, refl, sym, ap, ◌∙◌}
use Rattle.std.specs.List.{find}
use Rattle.std.specs.Option.{option_map, option_or}
use Rattle.std.specs.Str.{bytes_eq}
use Rattle.std.specs.Borrow.{Bor}
use Rattle.std.specs.HashMap.{HashMap, get_by, UpdatesBy}
use Rattle.std.specs.Map.{lookup}
use Rattle.std.specs.declared.hash.FoldHasher.{FoldHasher}
use Rattle.std.specs.declared.hash.BuildHasherDefault.{BuildHasherDefault}
use Rattle.std.proofs.lemmas.Bool.{and_parts}
use Rattle.std.proofs.lemmas.List.Folds.{find-append}
use Rattle.std.proofs.lemmas.Map.Text.{hash_map_updates_str}
use Rattle.eco_net.specs.Netlist.{Name}
use Rattle.eco_elaborate.proofs.Names.{same_name}
use Rattle.eco_pin_faults.specs.Places.{PinPlace}
use Rattle.eco_pin_faults.specs.Faults.{is_of, first_net}
use Rattle.eco_pin_faults.specs.Held.{ByName, at_name, model_by, net_by, AddsPlaces}
use Rattle.eco_pin_faults.proofs.Lists.{or_none, or_assoc, map_or, map_cond, some_map, once, kept}

pub none_of : {X : Type 0} (o : Option X) → is_some o ≡ false → o ≡ None
none_of None e = refl
none_of (Some x) e = absurd (apart e)
  where
    apart : true ≡ false → ⊥
    apart e = cc

-- ---- by one name

pub put_once : {X : Type 0} (name : List ℕ) (old new : ByName X) (v : X) → UpdatesBy (λ x y. bytes_eq x.now y.now) (λ k. bytes_eq name k.now) old new (Some v) → is_some (at_name old name) ≡ false →
    (n : Name) → at_name new n ≡ option_or (at_name old n) (cond (bytes_eq name n) (Some v) None)
put_once name old new v u f n =
    hash_map_updates_str name old new (Some v) u n
    ∙ once (bytes_eq name n) (Some v) (at_name old n) (λ t. ap (at_name old) (sym (same_name name n t)) ∙ none_of (at_name old name) f)

pub model_once : (name : List ℕ) (old new : ByName (Bor (List ℕ))) (v : Bor (List ℕ)) → UpdatesBy (λ x y. bytes_eq x.now y.now) (λ k. bytes_eq name k.now) old new (Some v) → is_some (at_name old name) ≡ false →
    (n : Name) → model_by new n ≡ option_or (model_by old n) (cond (bytes_eq name n) (Some v.now) None)
model_once name old new v u f n =
    let now : Bor (List ℕ) → List ℕ = λ b. b.now in
    ap (option_map now) (put_once name old new v u f n)
    ∙ map_or now (at_name old n) (cond (bytes_eq name n) (Some v) None)
    ∙ ap (option_or (model_by old n)) (map_cond now (bytes_eq name n) v)

-- ---- by component and pin

abbrev pub Pair : Type 0
Pair = Bor (List ℕ) × Bor (List ℕ)

abbrev pub Nets : Type 0
Nets = HashMap Pair (Bor (List ℕ)) (BuildHasherDefault FoldHasher)

abbrev pub same_pair : Pair → Pair → Bool
same_pair x y = bytes_eq x.0.now y.0.now && bytes_eq x.1.now y.1.now

module _ (p : PinPlace) (old : Nets) where
  same_place : (comp pin : Name) → is_of comp pin p ≡ true → net_by old p.comp p.pin ≡ net_by old comp pin
  same_place comp pin t =
      let s = and_parts (bytes_eq p.comp comp) (bytes_eq p.pin pin) t in
      ap (λ c. net_by old c p.pin) (same_name p.comp comp s.0) ∙ ap (net_by old comp) (same_name p.pin pin s.1)

  pub place_kept : is_some (net_by old p.comp p.pin) ≡ true → AddsPlaces old old (p ∷ [])
  place_kept some comp pin =
      kept (is_of comp pin p) (Some p.net) (net_by old comp pin) (λ t. ap is_some (sym (same_place comp pin t)) ∙ some)
      ∙ ap (option_or (net_by old comp pin)) (sym (map_cond (λ (q : PinPlace). q.net) (is_of comp pin p) p))

  pub place_put : (key : Pair) (new : Nets) (v : Bor (List ℕ)) → key.0.now ≡ p.comp → key.1.now ≡ p.pin → v.now ≡ p.net → UpdatesBy same_pair (same_pair key) old new (Some v) →
      is_some (get_by (λ k. bytes_eq p.comp k.0.now && bytes_eq p.pin k.1.now) old) ≡ false → AddsPlaces old new (p ∷ [])
  place_put key new v e f g u none comp pin =
      let now : Bor (List ℕ) → List ℕ = λ b. b.now in
      let q : Pair = (record { ref_ptr = (0, 0); now = comp }, record { ref_ptr = (0, 0); now = pin }) in
      let b : Bool = bytes_eq key.0.now comp && bytes_eq key.1.now pin in
      let before : Option (Bor (List ℕ)) = get_by (λ k. bytes_eq comp k.0.now && bytes_eq pin k.1.now) old in
      let test : b ≡ is_of comp pin p = ap (λ c. bytes_eq c comp && bytes_eq key.1.now pin) e ∙ ap (λ c. bytes_eq p.comp comp && bytes_eq c pin) f in
      ap (option_map now) (u.0 q)
      ∙ mapped b v before
      ∙ ap (λ t. cond t (Some v.now) (net_by old comp pin)) test
      ∙ ap (λ n. cond (is_of comp pin p) (Some n) (net_by old comp pin)) g
      ∙ once (is_of comp pin p) (Some p.net) (net_by old comp pin) (λ t. sym (same_place comp pin t) ∙ none_of (net_by old p.comp p.pin) (some_map now (get_by (λ k. bytes_eq p.comp k.0.now && bytes_eq p.pin k.1.now) old) ∙ none))
      ∙ ap (option_or (net_by old comp pin)) (sym (map_cond (λ (q : PinPlace). q.net) (is_of comp pin p) p))
    where
      mapped : (b : Bool) (v : Bor (List ℕ)) (o : Option (Bor (List ℕ))) → option_map (λ n. n.now) (cond b (Some v) o) ≡ cond b (Some v.now) (option_map (λ n. n.now) o)
      mapped true v o = refl
      mapped false v o = refl

pub none_added : (old : Nets) → AddsPlaces old old []
none_added old comp pin = sym (or_none (net_by old comp pin))

pub first_net-append : (ps qs : List PinPlace) (comp pin : Name) → first_net (ps ++ qs) comp pin ≡ option_or (first_net ps comp pin) (first_net qs comp pin)
first_net-append ps qs comp pin =
    let net : PinPlace → Name = λ p. p.net in
    ap (option_map net) (find-append (is_of comp pin) ps qs) ∙ map_or net (find (is_of comp pin) ps) (find (is_of comp pin) qs)

pub more_added : (ps qs : List PinPlace) (a b c : Nets) → AddsPlaces a b ps → AddsPlaces b c qs → AddsPlaces a c (ps ++ qs)
more_added ps qs a b c f g comp pin =
    g comp pin
    ∙ ap (λ o. option_or o (first_net qs comp pin)) (f comp pin)
    ∙ or_assoc (net_by a comp pin) (first_net ps comp pin) (first_net qs comp pin)
    ∙ ap (option_or (net_by a comp pin)) (sym (first_net-append ps qs comp pin))

-- a map of nothing
pub no_nets : (m : Nets) → m.entries ≡ [] → (comp pin : Name) → net_by m comp pin ≡ None
no_nets m e comp pin = ap (λ (es : List (Pair × Bor (List ℕ))). option_map (λ n. n.now) (lookup (λ k. bytes_eq comp k.0.now && bytes_eq pin k.1.now) es)) e
