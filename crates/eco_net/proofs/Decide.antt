-- Which kind of net a name is can be decided: its driving pins are among a list
use Rattle.std.proofs.Common.{◌≡◌, ◌≢◌, Bool, true, false, cond, List, [], ◌∷◌, ◌++◌, map, Option, Some, None, refl, sym, ap, ap₂, ◌∙◌, subst, inl, inr, ⊎_elim, ◌⊎◌, true≢false}
use Rattle.std.specs.FinMap.{get, entries, keys, find, get-entries}
use Rattle.eco_net.specs.Netlist.{Name, name_cmp, Netlist, Component, Top, Pin, TopPin, CompPin, Role, GateInput, GateOutput, BoxedPin, pins_of, role_of, input_nets}
use Rattle.eco_net.specs.Drivers.{is_driving, driven, driven_at, driven_top, IsDriver, Computed, IsFree}
use Rattle.eco_net.specs.CutKeys.{KeyOf, CutKey, PinKey, NetKey, is_source_pin}
use Rattle.eco_net.proofs.Basics.{Has, same_name, same_Some, not_None, has_key, has_found, has_append_left, has_append_right, has_map, find_rest, find_first}

abbrev pub Decided : Type 0 → Type 0
Decided P = P ⊎ (P → ⊥)

same_pin : (p q : Pin) → Decided (p ≡ q)
same_pin (TopPin a) (TopPin b) = ⊎_elim (λ e. inl (ap TopPin e)) (λ n. inr (λ e. n (cc))) (same_name a b)
same_pin (TopPin a) (CompPin c k) = inr (λ e. cc)
same_pin (CompPin c k) (TopPin a) = inr (λ e. cc)
same_pin (CompPin c k) (CompPin d j) = go (same_name c d) (same_name k j)
  where
    go : (c ≡ d) ⊎ (c ≢ d) → Decided (k ≡ j) → Decided (CompPin c k ≡ CompPin d j)
    go (inl s) (inl t) = inl (cc)
    go (inr n) t = inr (λ e. n (cc))
    go (inl s) (inr n) = inr (λ e. n (cc))

is_on : (o : Option Name) (n : Name) → Decided (o ≡ Some n)
is_on None n = inr (λ e. cc)
is_on (Some m) n = ⊎_elim (λ e. inl (ap Some e)) (λ a. inr (λ e. a (same_Some e))) (same_name m n)

-- ---- a list that has every driving pin

abbrev pub names_of : {X : Type 0} → List (Name × X) → List Name
names_of es = map (λ e. e.0) es

abbrev pub comp_pins : List (Name × Component) → List Pin
comp_pins [] = []
comp_pins (e ∷ es) = map (CompPin e.0) (names_of (pins_of e.1.kind)) ++ comp_pins es

pub has_comp_pin : (es : List (Name × Component)) (c : Name) (x : Component) (p : Name) (r : Role) → find name_cmp c es ≡ Some x → role_of x p ≡ Some r → Has (comp_pins es) (CompPin c p)
has_comp_pin [] c x p r e f = absurd (not_None (sym e))
has_comp_pin (d ∷ es) c x p r e f =
    ⊎_elim
    (λ s. has_append_left _ _ _ (subst (λ b. Has (map (CompPin d.0) (names_of (pins_of d.1.kind))) (CompPin b p)) (sym s) (has_map (CompPin d.0) _ p (has_found (pins_of d.1.kind) p r (subst (λ y. role_of y p ≡ Some r) (sym (same_Some (find_first d es c s e))) f)))))
    (λ n. has_append_right (map (CompPin d.0) (names_of (pins_of d.1.kind))) _ _ (has_comp_pin es c x p r (find_rest d es c n e) f))
    (same_name c d.0)

all_pins : Netlist → List Pin
all_pins N = map TopPin (keys N.tops) ++ comp_pins (entries N.comps)

pub driving_role : (o : Option Role) (j : Option Name) (n : Name) → cond (is_driving o) j None ≡ Some n → (r : Role) × (o ≡ Some r)
driving_role None j n e = absurd (not_None (sym e))
driving_role (Some r) j n e = (r, refl)

has_top : (N : Netlist) (t : Name) (o : Option Top) (n : Name) → get N.tops t ≡ o → driven_top o ≡ Some n → Has (keys N.tops) t
has_top N t None n e d = absurd (not_None (sym d))
has_top N t (Some x) n e d = has_key N.tops t x e

has_comp : (N : Netlist) (c k : Name) (o : Option Component) (n : Name) → get N.comps c ≡ o → driven_at o k ≡ Some n → Has (comp_pins (entries N.comps)) (CompPin c k)
has_comp N c k None n e d = absurd (not_None (sym d))
has_comp N c k (Some x) n e d =
    let r = driving_role (role_of x k) (get x.joined k) n d in
    has_comp_pin (entries N.comps) c x k r.0 (sym (get-entries N.comps c) ∙ e) r.1

has_pin : (N : Netlist) (p : Pin) (n : Name) → driven N p ≡ Some n → Has (all_pins N) p
unfolding all_pins
has_pin N (TopPin t) n d = has_append_left _ _ _ (has_map TopPin _ t (has_top N t _ n refl d))
has_pin N (CompPin c k) n d = has_append_right (map TopPin (keys N.tops)) _ _ (has_comp N c k _ n refl d)

-- ---- the one element of a list with a property

data Sole {A : Type 0} (P : A → Type 0) (xs : List A) : Type 0 where
  no_one : ((x : A) → Has xs x → P x → ⊥) → Sole P xs
  just : (x : A) → P x → ((y : A) → Has xs y → P y → y ≡ x) → Sole P xs
  several : (x y : A) → P x → P y → (x ≢ y) → Sole P xs

module _ {A : Type 0} (P : A → Type 0) (same : (x y : A) → Decided (x ≡ y)) where
  with_more : (y : A) (ys : List A) → Decided (P y) → Sole P ys → Sole P (y ∷ ys)
  with_more y ys (inr n) (no_one h) = no_one (λ x i p. ⊎_elim (λ e. n (subst P (sym e) p)) (λ i. h x i p) i)
  with_more y ys (inr n) (just x p h) = just x p (λ z i q. ⊎_elim (λ e. absurd (n (subst P (sym e) q))) (λ i. h z i q) i)
  with_more y ys (inl p) (no_one h) = just y p (λ z i q. ⊎_elim (λ e. sym e) (λ i. absurd (h z i q)) i)
  with_more y ys (inl p) (just x q h) =
      ⊎_elim
      (λ e. just x q (λ z i r. ⊎_elim (λ f. sym f ∙ e) (λ i. h z i r) i))
      (λ n. several y x p q n)
      (same y x)
  with_more y ys d (several a b p q n) = several a b p q n

  sole : (xs : List A) → ((x : A) → Decided (P x)) → Sole P xs
  sole [] d = no_one (λ x i p. i)
  sole (y ∷ ys) d = with_more y ys (d y) (sole ys d)

-- a name has one driving pin, or not
pub data DriverOf (N : Netlist) (n : Name) : Type 0 where
  one_driver : (p : Pin) → IsDriver N n p → DriverOf N n
  no_driver : ((p : Pin) → driven N p ≡ Some n → ⊥) → DriverOf N n
  two_drivers : (p q : Pin) → driven N p ≡ Some n → driven N q ≡ Some n → (p ≢ q) → DriverOf N n

pub driver_of : (N : Netlist) (n : Name) → DriverOf N n
driver_of N n = go (sole (λ p. driven N p ≡ Some n) same_pin (all_pins N) (λ p. is_on (driven N p) n))
  where
    go : Sole (λ p. driven N p ≡ Some n) (all_pins N) → DriverOf N n
    go (no_one h) = no_driver (λ p d. h p (has_pin N p n d) d)
    go (just p d h) = one_driver p (record { drives = d; only = λ q e. h q (has_pin N q n e) e })
    go (several p q d e a) = two_drivers p q d e a

-- ---- what kind of net it is

pub data Shape (N : Netlist) (n : Name) : Type 0 where
  supply_net : (b : Bool) → get N.nets n ≡ Some (Some b) → Shape N n
  computed_net : (table : List Bool) (inputs : List (Option Name)) → Computed N n table inputs → Shape N n
  free_net : (key : CutKey) → IsFree N n → KeyOf N n key → Shape N n
  no_net : get N.nets n ≡ None → Shape N n

comp_of : Pin → Name
comp_of (TopPin t) = t
comp_of (CompPin c k) = c

pub same_comp : {c d k j : Name} → CompPin c k ≡ CompPin d j → c ≡ d
same_comp e = cc

pub same_place : {c d k j : Name} → CompPin c k ≡ CompPin d j → k ≡ j
same_place e = cc

-- the gate that drives a computed net is known from its driver
pub gate_is : (N : Netlist) (n : Name) (t : List Bool) (ins : List (Option Name)) (m : Computed N n t ins) (c k : Name) (x : Component) → IsDriver N n (CompPin c k) → get N.comps c ≡ Some x → (m.gate ≡ x) × (m.pin ≡ k)
gate_is N n t ins m c k x d e =
    let s : CompPin m.comp m.pin ≡ CompPin c k = d.only (CompPin m.comp m.pin) m.driver.drives in
    (same_Some (sym m.is ∙ ap (get N.comps) (same_comp s) ∙ e), same_place s)

key_shape : (N : Netlist) (n : Name) (p : Pin) (b : Bool) → IsDriver N n p → is_source_pin N p ≡ b → IsFree N n → Shape N n
key_shape N n p true d e f = free_net (PinKey p) f (d, e)
key_shape N n p false d e f = free_net (NetKey n) f (refl, λ q c k. true≢false (sym k ∙ ap (is_source_pin N) (d.only q c.drives) ∙ e))

-- a gate's output, or no gate's output
data Output (o : Option Role) : Type 0 where
  computes : (table : List Bool) → o ≡ Some (GateOutput table) → Output o
  other : ((table : List Bool) → o ≡ Some (GateOutput table) → ⊥) → Output o

table_from : Option Role → Option (List Bool)
table_from None = None
table_from (Some GateInput) = None
table_from (Some (GateOutput t)) = Some t
table_from (Some (BoxedPin d)) = None

pub same_table : {t u : List Bool} {o : Option Role} → o ≡ Some (GateOutput t) → o ≡ Some (GateOutput u) → t ≡ u
unfolding table_from
same_table a b = same_Some (ap table_from (sym a ∙ b))

output_of : (o : Option Role) → Output o
unfolding table_from
output_of None = other (λ t e. not_None (sym e))
output_of (Some GateInput) = other (λ t e. not_None (sym (ap table_from e)))
output_of (Some (GateOutput t)) = computes t refl
output_of (Some (BoxedPin d)) = other (λ t e. not_None (sym (ap table_from e)))

comp_shape : (N : Netlist) (n : Name) (c k : Name) (o : Option Component) → get N.nets n ≡ Some None → IsDriver N n (CompPin c k) → get N.comps c ≡ o → Shape N n
comp_shape N n c k None u d e = absurd (not_None (sym (sym (ap (λ o. driven_at o k) e) ∙ d.drives)))
comp_shape N n c k (Some x) u d e = go (output_of (role_of x k))
  where
    go : Output (role_of x k) → Shape N n
    go (computes t f) = computed_net t (input_nets x) (record { unsupplied = u; comp = c; pin = k; gate = x; is = e; driver = d; at = f; reads = refl })
    go (other f) = key_shape N n (CompPin c k) _ d refl (
      u,
      λ m.
          let g = gate_is N n m.0 m.1 m.2 c k x d e in
          f m.0 (ap₂ role_of (sym g.0) (sym g.1) ∙ m.2.at),
    )

driven_shape : (N : Netlist) (n : Name) → get N.nets n ≡ Some None → DriverOf N n → Shape N n
driven_shape N n u (one_driver (TopPin t) d) = key_shape N n (TopPin t) _ d refl (u, λ m. let e : CompPin m.2.comp m.2.pin ≡ TopPin t = d.only (CompPin m.2.comp m.2.pin) m.2.driver.drives in cc)
driven_shape N n u (one_driver (CompPin c k) d) = comp_shape N n c k _ u d refl
driven_shape N n u (no_driver h) = free_net (NetKey n) (u, λ m. h (CompPin m.2.comp m.2.pin) m.2.driver.drives) (refl, λ p d k. h p d.drives)
driven_shape N n u (two_drivers p q d e a) = free_net (NetKey n) (u, λ m. a (m.2.driver.only p d ∙ sym (m.2.driver.only q e))) (refl, λ r f k. a (f.only p d ∙ sym (f.only q e)))

pub shape : (N : Netlist) (n : Name) → Shape N n
shape N n = go (get N.nets n) refl
  where
    go : (o : Option (Option Bool)) → get N.nets n ≡ o → Shape N n
    go None e = no_net e
    go (Some (Some b)) e = supply_net b e
    go (Some None) e = driven_shape N n e (driver_of N n)
