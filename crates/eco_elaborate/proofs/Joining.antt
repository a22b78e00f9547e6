-- What is found in a netlist where pins are put on nets.
use Rattle.std.proofs.Common.{◌≡◌, ◌≢◌, Bool, true, false, cond, ◌||◌, List, [], ◌∷◌, Option, Some, None, refl, sym, ap, ◌∙◌, subst, inl, inr, ⊎_elim, ◌⊎◌, if◌then◌else◌}
use Rattle.std.specs.List.{list_any}
use Rattle.std.specs.Option.{option_map}
use Rattle.std.specs.Str.{bytes_eq}
use Rattle.std.specs.Cmp.Lexicographic.{nat_list_cmp_total}
use Rattle.std.specs.FinMap.{FinMap, get, insert, get-insert}
use Rattle.eco_net.specs.Netlist.{Name, name_cmp, Component}
use Rattle.eco_net.proofs.Basics.{Has, get_same, get_other}
use Rattle.eco_common.specs.Joints.{NewJoint}
use Rattle.eco_net.specs.Joints.{with_nets, put_on, put_joints}
use Rattle.eco_elaborate.proofs.Names.{by_bytes_turned, is_name, other_name, same_or_other}

-- ---- nets

pub new_nets : (m : FinMap name_cmp (Option Bool)) (ns : List Name) (q : Name) → get (with_nets m ns) q ≡ cond (list_any (λ n. bytes_eq n q) ns) (Some None) (get m q)
new_nets m [] q = refl
new_nets m (n ∷ ns) q =
    get-insert nat_list_cmp_total (with_nets m ns) n None q
    ∙ ap (λ b. cond b (Some None) (get (with_nets m ns) q)) (by_bytes_turned q n)
    ∙ ap (cond (bytes_eq n q) (Some None)) (new_nets m ns q)
    ∙ go (bytes_eq n q) (list_any (λ m. bytes_eq m q) ns)
  where
    go : (a b : Bool) → cond a (Some None) (cond b (Some None) (get m q)) ≡ cond (a || b) (Some None) (get m q)
    go true b = refl
    go false b = refl

-- ---- components

abbrev pub put_pins : Name → FinMap name_cmp Name → List NewJoint → FinMap name_cmp Name
put_pins c m [] = m
put_pins c m (j ∷ js) = if bytes_eq j.comp c then insert (put_pins c m js) j.pin j.net else put_pins c m js

-- a component with each of its pins on its net
abbrev pub with_pins : List NewJoint → Name → Component → Component
with_pins js c x = record x { joined = put_pins c x.joined js }

one_pin : (m : FinMap name_cmp Component) (j : NewJoint) (c : Name) → get (put_on m j (get m j.comp)) c ≡ option_map (with_pins (j ∷ []) c) (get m c)
one_pin m j c = ⊎_elim here apart (same_or_other j.comp c)
  where
    put : (o : Option Component) → get m c ≡ o → j.comp ≡ c → get (put_on m j o) c ≡ option_map (with_pins (j ∷ []) c) o
    put None e s = e
    put (Some x) e s =
        subst (λ z. get (insert m j.comp (record x { joined = insert x.joined j.pin j.net })) z ≡ Some (record x { joined = insert x.joined j.pin j.net })) s (get_same m j.comp _)
        ∙ sym (ap (λ b. Some (record x { joined = if b then insert x.joined j.pin j.net else x.joined })) (is_name j.comp c s))

    here : j.comp ≡ c → get (put_on m j (get m j.comp)) c ≡ option_map (with_pins (j ∷ []) c) (get m c)
    here s = ap (λ z. get (put_on m j (get m z)) c) s ∙ put (get m c) refl s

    left : (o : Option Component) → j.comp ≢ c → get (put_on m j o) c ≡ get m c
    left None n = refl
    left (Some x) n = get_other m j.comp _ c (λ e. n (sym e))

    kept : (o : Option Component) → j.comp ≢ c → o ≡ option_map (with_pins (j ∷ []) c) o
    kept None n = refl
    kept (Some x) n = sym (ap (λ b. Some (record x { joined = if b then insert x.joined j.pin j.net else x.joined })) (other_name j.comp c n))

    apart : j.comp ≢ c → get (put_on m j (get m j.comp)) c ≡ option_map (with_pins (j ∷ []) c) (get m c)
    apart n = left (get m j.comp) n ∙ kept (get m c) n

pub each_pin : (m : FinMap name_cmp Component) (js : List NewJoint) (c : Name) → get (put_joints m js) c ≡ option_map (with_pins js c) (get m c)
each_pin m [] c = same (get m c)
  where
    same : (o : Option Component) → o ≡ option_map (with_pins [] c) o
    same None = refl
    same (Some x) = refl
each_pin m (j ∷ js) c = one_pin (put_joints m js) j c ∙ ap (option_map (with_pins (j ∷ []) c)) (each_pin m js c) ∙ both (get m c)
  where
    both : (o : Option Component) → option_map (with_pins (j ∷ []) c) (option_map (with_pins js c) o) ≡ option_map (with_pins (j ∷ js) c) o
    both None = refl
    both (Some x) = refl

-- ---- one pin

-- the joint is of that pin
abbrev pub IsFor : NewJoint → Name → Name → Type 0
IsFor j c p = (j.comp ≡ c) × (j.pin ≡ p)

pub is_for : (j : NewJoint) (c p : Name) → IsFor j c p ⊎ (IsFor j c p → ⊥)
is_for j c p = ⊎_elim
    (λ e. ⊎_elim (λ f. inl (e, f)) (λ n. inr (λ z. n z.1)) (same_or_other j.pin p))
    (λ n. inr (λ z. n z.0))
    (same_or_other j.comp c)

passed_joint : (js : List NewJoint) (m : FinMap name_cmp Name) (c p : Name) (j : NewJoint) → (IsFor j c p → ⊥) → get (put_pins c m (j ∷ js)) p ≡ get (put_pins c m js) p
passed_joint js m c p j n = ⊎_elim
    (λ e. ap (λ b. get (if b then insert (put_pins c m js) j.pin j.net else put_pins c m js) p) (is_name j.comp c e) ∙ get_other (put_pins c m js) j.pin j.net p (λ s. n (e, sym s)))
    (λ a. ap (λ b. get (if b then insert (put_pins c m js) j.pin j.net else put_pins c m js) p) (other_name j.comp c a))
    (same_or_other j.comp c)

-- whether some joint is of the pin
pub for_some : (js : List NewJoint) (c p : Name) → ((j : NewJoint) × Has js j × (j.comp ≡ c) × (j.pin ≡ p)) ⊎ ((j : NewJoint) → Has js j → IsFor j c p → ⊥)
for_some [] c p = inr (λ j h f. h)
for_some (j ∷ js) c p = ⊎_elim
    (λ f. inl (j, inl refl, f.0, f.1))
    (λ n. ⊎_elim
    (λ r. inl (r.0, inr r.1, r.2, r.3))
    (λ m. inr (λ k h f. ⊎_elim (λ e. n (subst (λ z. IsFor z c p) (sym e) f)) (λ i. m k i f) h))
    (for_some js c p))
    (is_for j c p)

-- a pin that no joint is of stays on its net
pub stays_joined : (js : List NewJoint) (m : FinMap name_cmp Name) (c p : Name) → ((j : NewJoint) → Has js j → IsFor j c p → ⊥) → get (put_pins c m js) p ≡ get m p
stays_joined [] m c p none = refl
stays_joined (j ∷ js) m c p none = passed_joint js m c p j (none j (inl refl)) ∙ stays_joined js m c p (λ k h. none k (inr h))

-- a pin whose joints are all on one net is on that net
pub gets_joined : (js : List NewJoint) (m : FinMap name_cmp Name) (c p n : Name) → ((j : NewJoint) → Has js j → IsFor j c p → j.net ≡ n) → (j : NewJoint) → Has js j → IsFor j c p → get (put_pins c m js) p ≡ Some n
gets_joined [] m c p n each j h f = absurd h
gets_joined (k ∷ js) m c p n each j h f = ⊎_elim here (later (λ i. gets_joined js m c p n (λ y q. each y (inr q)) j i f)) (is_for k c p)
  where
    here : IsFor k c p → get (put_pins c m (k ∷ js)) p ≡ Some n
    here g =
        ap (λ b. get (if b then insert (put_pins c m js) k.pin k.net else put_pins c m js) p) (is_name k.comp c g.0)
        ∙ subst (λ z. get (insert (put_pins c m js) k.pin k.net) z ≡ Some k.net) g.1 (get_same (put_pins c m js) k.pin k.net)
        ∙ ap Some (each k (inl refl) g)

    later : (Has js j → get (put_pins c m js) p ≡ Some n) → (IsFor k c p → ⊥) → get (put_pins c m (k ∷ js)) p ≡ Some n
    later rest a = ⊎_elim
        (λ s. absurd (a (subst (λ z. IsFor z c p) (sym s) f)))
        (λ i. passed_joint js m c p k a ∙ rest i)
        h
