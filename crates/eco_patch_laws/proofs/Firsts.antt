-- Of two joints of one pin the first counts
use Rattle.std.proofs.Common.{◌≡◌, Bool, true, false, cond, not, ◌&&◌, List, [], ◌∷◌, Option, Some, None, refl, sym, ap, ap₂, ◌∙◌, inl, inr, ◌⊎◌, true≢false, filter}
use Rattle.std.specs.Option.{option_map, option_or}
use Rattle.std.specs.List.{IsDistinct, AllByRecursion}
use Rattle.std.specs.Ordering.{eq_by_cmp}
use Rattle.std.specs.Cmp.Lexicographic.{nat_list_cmp_total}
use Rattle.std.specs.FinMap.{FinMap, get, insert, get-insert, same_map}
use Rattle.std.proofs.lemmas.Map.Lookups.{exact_bytes}
use Rattle.eco_net.specs.Netlist.{Name, name_cmp, Netlist, Component}
use Rattle.eco_net.proofs.Basics.{Has, same_of_cmp}
use Rattle.eco_common.specs.Joints.{NewJoint}
use Rattle.eco_net.specs.Joints.{put_joints, with_joints, same_pin, first_each}
use Rattle.eco_patch_laws.proofs.Joining.{rejoin, rejoined, comps_joined}

-- ---- the net of a pin's first joint

abbrev is_at : Name → Name → NewJoint → Bool
is_at c p j = eq_by_cmp name_cmp c j.comp && eq_by_cmp name_cmp p j.pin

abbrev net_by : List NewJoint → Name → Name → Option Name
net_by [] c p = None
net_by (j ∷ js) c p = cond (is_at c p j) (Some j.net) (net_by js c p)

or_none : {X : Type 0} (o : Option X) → o ≡ option_or None o
or_none o = refl

joined_by : (js : List NewJoint) (c : Name) (m : FinMap name_cmp Name) (p : Name) → get (rejoined js c m) p ≡ option_or (net_by js c p) (get m p)
joined_by [] c m p = refl
joined_by (j ∷ js) c m p = go (joined_by js c m p) (eq_by_cmp name_cmp c j.comp)
  where
    at_pin : get (rejoined js c m) p ≡ option_or (net_by js c p) (get m p) → (e : Bool) → cond e (Some j.net) (get (rejoined js c m) p) ≡ option_or (cond (true && e) (Some j.net) (net_by js c p)) (get m p)
    at_pin rest true = refl
    at_pin rest false = rest

    go : get (rejoined js c m) p ≡ option_or (net_by js c p) (get m p) → (b : Bool) → get (cond b (insert (rejoined js c m) j.pin j.net) (rejoined js c m)) p ≡ option_or (cond (b && eq_by_cmp name_cmp p j.pin) (Some j.net) (net_by js c p)) (get m p)
    go rest false = rest
    go rest true = get-insert nat_list_cmp_total (rejoined js c m) j.pin j.net p ∙ at_pin rest (eq_by_cmp name_cmp p j.pin)

-- ---- joints of a pin that has one before

first_so : (b c : Bool) → (b && c) ≡ true → b ≡ true
first_so true c e = refl
first_so false c e = e

second_so : (b c : Bool) → (b && c) ≡ true → c ≡ true
second_so true c e = e
second_so false c e = absurd (true≢false (sym e))

-- joints of one pin are at one pin
at_same : (c p : Name) (j k : NewJoint) → same_pin j k ≡ true → is_at c p k ≡ true → is_at c p j ≡ true
at_same c p j k s a =
    let e : j.comp ≡ k.comp = same_of_cmp j.comp k.comp (first_so _ _ s) in
    let f : j.pin ≡ k.pin = same_of_cmp j.pin k.pin (second_so (eq_by_cmp name_cmp j.comp k.comp) _ s) in
    ap₂ (λ x y. eq_by_cmp name_cmp c x && eq_by_cmp name_cmp p y) e f ∙ a

without_at : (c p : Name) (j : NewJoint) (ks : List NewJoint) → is_at c p j ≡ false → net_by (filter (λ k. not (same_pin j k)) ks) c p ≡ net_by ks c p
without_at c p j [] n = refl
without_at c p j (k ∷ ks) n = go (without_at c p j ks n) (same_pin j k) refl (is_at c p k) refl
  where
    go : net_by (filter (λ k. not (same_pin j k)) ks) c p ≡ net_by ks c p → (s : Bool) → same_pin j k ≡ s → (a : Bool) → is_at c p k ≡ a
        → net_by (cond (not s) (k ∷ filter (λ k. not (same_pin j k)) ks) (filter (λ k. not (same_pin j k)) ks)) c p ≡ cond a (Some k.net) (net_by ks c p)
    go rest true e true f = absurd (true≢false (sym (at_same c p j k e f) ∙ n))
    go rest true e false f = rest
    go rest false e true f = ap (λ b. cond b (Some k.net) (net_by (filter (λ k. not (same_pin j k)) ks) c p)) f
    go rest false e false f = ap (λ b. cond b (Some k.net) (net_by (filter (λ k. not (same_pin j k)) ks) c p)) f ∙ rest

same_net : (js : List NewJoint) (c p : Name) → net_by (first_each js) c p ≡ net_by js c p
same_net [] c p = refl
same_net (j ∷ js) c p = go (same_net js c p) (is_at c p j) refl
  where
    go : net_by (first_each js) c p ≡ net_by js c p → (a : Bool) → is_at c p j ≡ a → cond a (Some j.net) (net_by (filter (λ k. not (same_pin j k)) (first_each js)) c p) ≡ cond a (Some j.net) (net_by js c p)
    go rest true e = refl
    go rest false e = without_at c p j (first_each js) e ∙ rest

same_joined : (js : List NewJoint) (c : Name) (m : FinMap name_cmp Name) → rejoined (first_each js) c m ≡ rejoined js c m
same_joined js c m = same_map nat_list_cmp_total exact_bytes _ _ (λ p. joined_by (first_each js) c m p ∙ ap (λ o. option_or o (get m p)) (same_net js c p) ∙ sym (joined_by js c m p))

same_comps : (A : FinMap name_cmp Component) (js : List NewJoint) → put_joints A (first_each js) ≡ put_joints A js
same_comps A js = same_map nat_list_cmp_total exact_bytes _ _ (λ c. comps_joined A (first_each js) c ∙ go c (get A c) ∙ sym (comps_joined A js c))
  where
    go : (c : Name) (o : Option Component) → option_map (rejoin (first_each js) c) o ≡ option_map (rejoin js c) o
    go c None = refl
    go c (Some x) = ap (λ r. Some (record x { joined = r })) (same_joined js c x.joined)

pub first_counts : (N : Netlist) (joints : List NewJoint) (nets : List Name) → with_joints N (first_each joints) nets ≡ with_joints N joints nets
first_counts N joints nets = λ i. record (with_joints N joints nets) { comps = same_comps N.comps joints i }

-- ---- each pin once

all_filter : (P : NewJoint → Type 0) (f : NewJoint → Bool) (ks : List NewJoint) → AllByRecursion P ks → AllByRecursion P (filter f ks)
all_filter P f [] a = tt
all_filter P f (k ∷ ks) a = go (all_filter P f ks a.1) (f k)
  where
    go : AllByRecursion P (filter f ks) → (b : Bool) → AllByRecursion P (cond b (k ∷ filter f ks) (filter f ks))
    go rest true = (a.0, rest)
    go rest false = rest

distinct_filter : (f : NewJoint → Bool) (ks : List NewJoint) → IsDistinct same_pin ks → IsDistinct same_pin (filter f ks)
unfolding IsDistinct
distinct_filter f [] d = tt
distinct_filter f (k ∷ ks) d = go (distinct_filter f ks d.1) (f k)
  where
    go : IsDistinct same_pin (filter f ks) → (b : Bool) → IsDistinct same_pin (cond b (k ∷ filter f ks) (filter f ks))
    go rest true = (all_filter _ f ks d.0, rest)
    go rest false = rest

none_same : (j : NewJoint) (ks : List NewJoint) → AllByRecursion (λ k. same_pin j k ≡ false) (filter (λ k. not (same_pin j k)) ks)
none_same j [] = tt
none_same j (k ∷ ks) = go (none_same j ks) (same_pin j k) refl
  where
    go : AllByRecursion (λ k. same_pin j k ≡ false) (filter (λ k. not (same_pin j k)) ks) → (s : Bool) → same_pin j k ≡ s → AllByRecursion (λ k. same_pin j k ≡ false) (cond (not s) (k ∷ filter (λ k. not (same_pin j k)) ks) (filter (λ k. not (same_pin j k)) ks))
    go rest true e = rest
    go rest false e = (e, rest)

pub firsts_once : (js : List NewJoint) → IsDistinct same_pin (first_each js)
unfolding IsDistinct
firsts_once [] = tt
firsts_once (j ∷ js) = (none_same j (first_each js), distinct_filter (λ k. not (same_pin j k)) (first_each js) (firsts_once js))

has_filter : (f : NewJoint → Bool) (ks : List NewJoint) (k : NewJoint) → Has (filter f ks) k → Has ks k
has_filter f [] k h = h
has_filter f (x ∷ ks) k h = go (has_filter f ks k) (f x) h
  where
    go : (Has (filter f ks) k → Has ks k) → (b : Bool) → Has (cond b (x ∷ filter f ks) (filter f ks)) k → (x ≡ k) ⊎ Has ks k
    go rest true (inl e) = inl e
    go rest true (inr h) = inr (rest h)
    go rest false h = inr (rest h)

pub firsts_among : (js : List NewJoint) (k : NewJoint) → Has (first_each js) k → Has js k
firsts_among [] k h = h
firsts_among (j ∷ js) k (inl e) = inl e
firsts_among (j ∷ js) k (inr h) = inr (firsts_among js k (has_filter (λ k. not (same_pin j k)) (first_each js) k h))
