-- Netlists that are given by lists: what drives their nets, by computing
use Rattle.std.proofs.Common.{◌≡◌, ◌≢◌, Bool, true, false, cond, ◌&&◌, List, [], ◌∷◌, ◌++◌, map, Option, Some, None, refl, sym, ap, ◌∙◌, inl, inr, ⊎_elim, true≢false, is_some, subst}
use Rattle.std.specs.List.{IsDistinct, Contains}
use Rattle.std.specs.Option.{option_map}
use Rattle.std.specs.Ordering.{eq_by_cmp}
use Rattle.std.specs.Cmp.{Equal-is}
use Rattle.std.specs.Cmp.Lexicographic.{nat_list_cmp_total}
use Rattle.std.specs.FinMap.{get, from_entries, find, get-from_entries}
use Rattle.std.specs.FinSet.{from_list}
use Rattle.eco_common.specs.declared.geometry.Dir.{Dir}
use Rattle.eco_net.specs.Netlist.{Name, name_cmp, Kind, Netlist, Component, Top, Pin, TopPin, CompPin, GateOutput, BoxedPin, pins_of, role_of, input_names, input_nets, IsNet, IsWellFormed, IsPin, HasRows, Role}
use Rattle.eco_net.specs.Drivers.{is_driving, driven, driven_at, driven_top, IsDriver, Computed, IsFree}
use Rattle.eco_net.specs.CutKeys.{PinKey, key_cmp}
use Rattle.eco_net.proofs.Basics.{Has, has_from_contains, same_Some, not_None, cmp_itself, has_found, has_append_left, has_append_right, has_map, map_agree, find_first, find_rest, same_name}
use Rattle.eco_net.proofs.Decide.{comp_pins, names_of, has_comp_pin, driving_role, gate_is}
use Rattle.eco_net.proofs.Keys.{key_cmp-IsAntisymmetric}

abbrev pub Part : Type 0
Part = Kind × List (Name × Name)

pub record Lists : Type 0 where
  pub nets : List (Name × Option Bool)
  pub comps : List (Name × Part)
  pub tops : List (Name × Top)
  pub ties : List Name
  pub reserved : List Name

abbrev pub component : Part → Component
component x = record { kind = x.0; place = None; joined = from_entries x.1 }

abbrev pub components : List (Name × Part) → List (Name × Component)
components es = map (λ e. (e.0, component e.1)) es

abbrev pub made : Lists → Netlist
made L = record { nets = from_entries L.nets; comps = from_entries (components L.comps); tops = from_entries L.tops; ties = from_list L.ties; reserved = from_list L.reserved }

-- ---- look-ups

pub net_made : (L : Lists) (n : Name) → get (made L).nets n ≡ find name_cmp n L.nets
net_made L n = get-from_entries nat_list_cmp_total L.nets n

pub top_made : (L : Lists) (t : Name) → get (made L).tops t ≡ find name_cmp t L.tops
top_made L t = get-from_entries nat_list_cmp_total L.tops t

found_component : (es : List (Name × Part)) (c : Name) → find name_cmp c (components es) ≡ option_map component (find name_cmp c es)
found_component [] c = refl
found_component (e ∷ es) c = go (found_component es c) (eq_by_cmp name_cmp c e.0)
  where
    go : find name_cmp c (components es) ≡ option_map component (find name_cmp c es) → (b : Bool) → cond b (Some (component e.1)) (find name_cmp c (components es)) ≡ option_map component (cond b (Some e.1) (find name_cmp c es))
    go rest true = refl
    go rest false = rest

pub comp_made : (L : Lists) (c : Name) → get (made L).comps c ≡ option_map component (find name_cmp c L.comps)
comp_made L c = get-from_entries nat_list_cmp_total (components L.comps) c ∙ found_component L.comps c

pub joined_made : (x : Part) (p : Name) → get (component x).joined p ≡ find name_cmp p x.1
joined_made x p = get-from_entries nat_list_cmp_total x.1 p

pub inputs_made : (x : Part) → input_nets (component x) ≡ map (λ p. find name_cmp p x.1) (input_names x.0)
inputs_made x = map_agree _ _ (input_names x.0) (λ p h. joined_made x p)

-- ---- what a pin drives

abbrev pub drives_at : Option Part → Name → Option Name
drives_at None p = None
drives_at (Some x) p = cond (is_driving (find name_cmp p (pins_of x.0))) (find name_cmp p x.1) None

abbrev pub drives_in : Lists → Pin → Option Name
drives_in L (TopPin t) = driven_top (find name_cmp t L.tops)
drives_in L (CompPin c p) = drives_at (find name_cmp c L.comps) p

part_drives : (o : Option Part) (p : Name) → driven_at (option_map component o) p ≡ drives_at o p
part_drives None p = refl
part_drives (Some x) p = ap (λ j. cond (is_driving (role_of (component x) p)) j None) (joined_made x p)

pub driven_made : (L : Lists) (q : Pin) → driven (made L) q ≡ drives_in L q
driven_made L (TopPin t) = ap driven_top (top_made L t)
driven_made L (CompPin c p) = ap (λ o. driven_at o p) (comp_made L c) ∙ part_drives (find name_cmp c L.comps) p

abbrev pub all_in : Lists → List Pin
all_in L = map TopPin (map (λ e. e.0) L.tops) ++ comp_pins (components L.comps)

top_in : (L : Lists) (t n : Name) (o : Option Top) → get (made L).tops t ≡ o → driven_top o ≡ Some n → Has (map (λ e. e.0) L.tops) t
top_in L t n None e d = absurd (not_None (sym d))
top_in L t n (Some x) e d = has_found L.tops t x (sym (top_made L t) ∙ e)

comp_in : (L : Lists) (c p n : Name) (o : Option Component) → get (made L).comps c ≡ o → driven_at o p ≡ Some n → Has (comp_pins (components L.comps)) (CompPin c p)
comp_in L c p n None e d = absurd (not_None (sym d))
comp_in L c p n (Some x) e d =
    let r = driving_role (role_of x p) (get x.joined p) n d in
    has_comp_pin (components L.comps) c x p r.0 (sym (get-from_entries nat_list_cmp_total (components L.comps) c) ∙ e) r.1

has_in : (L : Lists) (q : Pin) (n : Name) → driven (made L) q ≡ Some n → Has (all_in L) q
has_in L (TopPin t) n d = has_append_left _ _ _ (has_map TopPin _ t (top_in L t n _ refl d))
has_in L (CompPin c p) n d = has_append_right (map TopPin (map (λ e. e.0) L.tops)) _ _ (comp_in L c p n _ refl d)

-- ---- the one driver

abbrev pub is_at : Option Name → Name → Bool
is_at None n = false
is_at (Some m) n = eq_by_cmp name_cmp m n

abbrev pub is_pin : Pin → Pin → Bool
is_pin p q = eq_by_cmp key_cmp (PinKey p) (PinKey q)

-- of these pins only p drives n
abbrev pub only_by : Lists → Name → Pin → List Pin → Bool
only_by L n p [] = true
only_by L n p (q ∷ qs) = cond (is_at (drives_in L q) n) (is_pin q p) true && only_by L n p qs

pin_of_key : {p q : Pin} → PinKey p ≡ PinKey q → p ≡ q
pin_of_key e = cc

same_by : (p q : Pin) → is_pin p q ≡ true → p ≡ q
same_by p q e = pin_of_key (key_cmp-IsAntisymmetric (PinKey p) (PinKey q) ((Equal-is (key_cmp (PinKey p) (PinKey q))).0 e))

first_so : (b c : Bool) → (b && c) ≡ true → b ≡ true
first_so true c e = refl
first_so false c e = e

second_so : (b c : Bool) → (b && c) ≡ true → c ≡ true
second_so true c e = e
second_so false c e = absurd (true≢false (sym e))

at_itself : (o : Option Name) (n : Name) → o ≡ Some n → is_at o n ≡ true
at_itself o n e = ap (λ o. is_at o n) e ∙ cmp_itself n

only_has : (L : Lists) (n : Name) (p : Pin) (qs : List Pin) → only_by L n p qs ≡ true → (q : Pin) → Has qs q → drives_in L q ≡ Some n → q ≡ p
only_has L n p [] e q h d = absurd h
only_has L n p (x ∷ qs) e q (inl s) d =
    same_by q p (ap (λ x. is_pin x p) (sym s)
    ∙ sym (ap (λ b. cond b (is_pin x p) true) (at_itself (drives_in L x) n (ap (drives_in L) s ∙ d)))
    ∙ first_so _ _ e)
only_has L n p (x ∷ qs) e q (inr h) d = only_has L n p qs (second_so (cond (is_at (drives_in L x) n) (is_pin x p) true) _ e) q h d

pub driver_by : (L : Lists) (n : Name) (p : Pin) → drives_in L p ≡ Some n → only_by L n p (all_in L) ≡ true → IsDriver (made L) n p
driver_by L n p d e = record {
  drives = driven_made L p ∙ d;
  only = λ q h. only_has L n p (all_in L) e q (has_in L q n h) (sym (driven_made L q) ∙ h);
}

-- ---- computed and free nets

pub computed_by : (L : Lists) (n c p : Name) (x : Part) (table : List Bool) → find name_cmp n L.nets ≡ Some None → IsDriver (made L) n (CompPin c p) → find name_cmp c L.comps ≡ Some x → find name_cmp p (pins_of x.0) ≡ Some (GateOutput table) → Computed (made L) n table (map (λ i. find name_cmp i x.1) (input_names x.0))
computed_by L n c p x table u d e f = record {
  unsupplied = net_made L n ∙ u;
  comp = c;
  pin = p;
  gate = component x;
  is = comp_made L c ∙ ap (option_map component) e;
  driver = d;
  at = f;
  reads = inputs_made x;
}

pub free_top : (N : Netlist) (n t : Name) → get N.nets n ≡ Some None → IsDriver N n (TopPin t) → IsFree N n
free_top N n t u d = (u, λ m. let e : CompPin m.2.comp m.2.pin ≡ TopPin t = d.only (CompPin m.2.comp m.2.pin) m.2.driver.drives in cc)

not_computes : {t : List Bool} {d : Dir} → Some (BoxedPin d) ≡ Some (GateOutput t) → ⊥
not_computes e = cc

pub free_box : (N : Netlist) (n c p : Name) (x : Component) (d : Dir) → get N.nets n ≡ Some None → IsDriver N n (CompPin c p) → get N.comps c ≡ Some x → role_of x p ≡ Some (BoxedPin d) → IsFree N n
free_box N n c p x d u driver e r = (
  u,
  λ m.
      let g = gate_is N n m.0 m.1 m.2 c p x driver e in
      let h : role_of x p ≡ Some (GateOutput m.0) = ap (λ y. role_of y p) (sym g.0) ∙ ap (role_of m.2.gate) (sym g.1) ∙ m.2.at in
      not_computes (sym r ∙ h),
)

pub free_several : (N : Netlist) (n : Name) (p q : Pin) → get N.nets n ≡ Some None → driven N p ≡ Some n → driven N q ≡ Some n → p ≢ q → IsFree N n
free_several N n p q u d e a = (u, λ m. a (m.2.driver.only p d ∙ sym (m.2.driver.only q e)))

-- ---- what a component reads, and the nets that it is on

-- P holds of each net that a gate reads
abbrev pub EachReads : (Name → Type 0) → List (Name × Part) → Type 0
EachReads P [] = Unit {0}
EachReads P (e ∷ es) = ((a : Name) → Has (map (λ p. find name_cmp p e.1.1) (input_names e.1.0)) (Some a) → P a) × EachReads P es

part_of : (L : Lists) (c : Name) (gate : Component) → get (made L).comps c ≡ Some gate → (x : Part) × (find name_cmp c L.comps ≡ Some x) × (component x ≡ gate)
part_of L c gate e = go (find name_cmp c L.comps) refl
  where
    go : (o : Option Part) → find name_cmp c L.comps ≡ o → (x : Part) × (find name_cmp c L.comps ≡ Some x) × (component x ≡ gate)
    go None f = absurd (not_None (sym (sym (comp_made L c ∙ ap (option_map component) f) ∙ e)))
    go (Some x) f = (x, f, same_Some (sym (comp_made L c ∙ ap (option_map component) f) ∙ e))

part_reads : (P : Name → Type 0) (es : List (Name × Part)) (c : Name) (x : Part) → EachReads P es → find name_cmp c es ≡ Some x → (a : Name) → Has (map (λ p. find name_cmp p x.1) (input_names x.0)) (Some a) → P a
part_reads P [] c x each e a h = absurd (not_None (sym e))
part_reads P (d ∷ es) c x each e a h =
    ⊎_elim
    (λ s. each.0 a (subst (λ y. Has (map (λ p. find name_cmp p y.1) (input_names y.0)) (Some a)) (sym (same_Some (find_first d es c s e))) h))
    (λ n. part_reads P es c x each.1 (find_rest d es c n e) a h)
    (same_name c d.0)

pub reads_by : (L : Lists) (P : Name → Type 0) → EachReads P L.comps → (c : Name) (gate : Component) → get (made L).comps c ≡ Some gate → (a : Name) → Contains (input_nets gate) (Some a) → P a
reads_by L P each c gate e a i =
    let h = has_from_contains (input_nets gate) (Some a) i in
    let x = part_of L c gate e in
    part_reads P L.comps c x.0 each x.1 a (subst (λ ins. Has ins (Some a)) (ap input_nets (sym x.2) ∙ inputs_made x.0) h)

-- each of these names is a net
abbrev pub are_nets : Lists → List Name → Bool
are_nets L [] = true
are_nets L (n ∷ ns) = is_some (find name_cmp n L.nets) && are_nets L ns

abbrev pub all_joined : List (Name × Part) → List Name
all_joined [] = []
all_joined (e ∷ es) = map (λ j. j.1) e.1.1 ++ all_joined es

net_by : (L : Lists) (ns : List Name) (n : Name) → are_nets L ns ≡ true → Has ns n → IsNet (made L) n
net_by L [] n e h = absurd h
net_by L (m ∷ ns) n e (inl s) = subst (IsNet (made L)) s (go (find name_cmp m L.nets) refl)
  where
    go : (o : Option (Option Bool)) → find name_cmp m L.nets ≡ o → IsNet (made L) m
    go None f = absurd (true≢false (sym (first_so _ _ e) ∙ ap is_some f))
    go (Some x) f = (x, net_made L m ∙ f)
net_by L (m ∷ ns) n e (inr h) = net_by L ns n (second_so (is_some (find name_cmp m L.nets)) _ e) h

has_value : {X : Type 0} (es : List (Name × X)) (q : Name) (x : X) → find name_cmp q es ≡ Some x → Has (map (λ e. e.1) es) x
has_value [] q x e = absurd (not_None (sym e))
has_value (d ∷ es) q x e = ⊎_elim (λ s. inl (same_Some (find_first d es q s e))) (λ n. inr (has_value es q x (find_rest d es q n e))) (same_name q d.0)

part_joined : (es : List (Name × Part)) (c : Name) (x : Part) (p n : Name) → find name_cmp c es ≡ Some x → find name_cmp p x.1 ≡ Some n → Has (all_joined es) n
part_joined [] c x p n e f = absurd (not_None (sym e))
part_joined (d ∷ es) c x p n e f =
    ⊎_elim
    (λ s. has_append_left _ _ _ (subst (λ y. Has (map (λ j. j.1) y.1) n) (sym (same_Some (find_first d es c s e))) (has_value x.1 p n f)))
    (λ a. has_append_right (map (λ j. j.1) d.1.1) _ _ (part_joined es c x p n (find_rest d es c a e) f))
    (same_name c d.0)

-- each component's pins have distinct names, its tables have their rows, and only its pins are on nets
abbrev pub are_pins : List (Name × Role) → List (Name × Name) → Bool
are_pins pins [] = true
are_pins pins (j ∷ js) = is_some (find name_cmp j.0 pins) && are_pins pins js

abbrev pub EachFits : List (Name × Part) → Type 0
EachFits [] = Unit {0}
EachFits (e ∷ es) = (IsDistinct (eq_by_cmp name_cmp) (names_of (pins_of e.1.0)) × HasRows e.1.0 × (are_pins (pins_of e.1.0) e.1.1 ≡ true)) × EachFits es

part_fits : (es : List (Name × Part)) (c : Name) (x : Part) → EachFits es → find name_cmp c es ≡ Some x → IsDistinct (eq_by_cmp name_cmp) (names_of (pins_of x.0)) × HasRows x.0 × (are_pins (pins_of x.0) x.1 ≡ true)
part_fits [] c x fits e = absurd (not_None (sym e))
part_fits (d ∷ es) c x fits e =
    ⊎_elim
    (λ s. subst (λ y. IsDistinct (eq_by_cmp name_cmp) (names_of (pins_of y.0)) × HasRows y.0 × (are_pins (pins_of y.0) y.1 ≡ true)) (same_Some (find_first d es c s e)) fits.0)
    (λ n. part_fits es c x fits.1 (find_rest d es c n e))
    (same_name c d.0)

joined_pin : (pins : List (Name × Role)) (js : List (Name × Name)) (p n : Name) → are_pins pins js ≡ true → find name_cmp p js ≡ Some n → (r : Role) × (find name_cmp p pins ≡ Some r)
joined_pin pins [] p n e f = absurd (not_None (sym f))
joined_pin pins (j ∷ js) p n e f =
    ⊎_elim
    (λ s. subst (λ q. (r : Role) × (find name_cmp q pins ≡ Some r)) (sym s) (go (find name_cmp j.0 pins) refl))
    (λ a. joined_pin pins js p n (second_so (is_some (find name_cmp j.0 pins)) _ e) (find_rest j js p a f))
    (same_name p j.0)
  where
    go : (o : Option Role) → find name_cmp j.0 pins ≡ o → (r : Role) × (find name_cmp j.0 pins ≡ Some r)
    go None g = absurd (true≢false (sym (first_so _ _ e) ∙ ap is_some g))
    go (Some r) g = (r, g)

pin_of : (es : List (Name × Part)) (c : Name) (y : Part) (p n : Name) → EachFits es → find name_cmp c es ≡ Some y → find name_cmp p y.1 ≡ Some n → (x : Component) → component y ≡ x → IsPin x p
pin_of es c y p n fits e f x s = subst (λ z. IsPin z p) s (joined_pin (pins_of y.0) y.1 p n (part_fits es c y fits e).2 f)

pub whole_by : (L : Lists) → EachFits L.comps → are_nets L (all_joined L.comps) ≡ true → are_nets L (map (λ e. e.1.net) L.tops) ≡ true → IsWellFormed (made L)
whole_by L fits e f = record {
  names = λ c x g. let y = part_of L c x g in subst (λ z. IsDistinct (eq_by_cmp name_cmp) (names_of (pins_of z.kind))) y.2 (part_fits L.comps c y.0 fits y.1).0;
  rows = λ c x g. let y = part_of L c x g in subst (λ z. HasRows z.kind) y.2 (part_fits L.comps c y.0 fits y.1).1;
  pins = λ c x p n g h.
      let y = part_of L c x g in
      (pin_of L.comps c y.0 p n fits y.1 (sym (joined_made y.0 p) ∙ ap (λ z. get z.joined p) y.2 ∙ h) x y.2, net_by L (all_joined L.comps) n e (part_joined L.comps c y.0 p n y.1 (sym (joined_made y.0 p) ∙ ap (λ z. get z.joined p) y.2 ∙ h)));
  tops = λ t x g. net_by L (map (λ e. e.1.net) L.tops) x.net f (has_top_net L.tops t x (sym (top_made L t) ∙ g));
}
  where
    has_top_net : (es : List (Name × Top)) (t : Name) (x : Top) → find name_cmp t es ≡ Some x → Has (map (λ e. e.1.net) es) x.net
    has_top_net [] t x e = absurd (not_None (sym e))
    has_top_net (d ∷ es) t x e = ⊎_elim (λ s. inl (ap (λ z. z.net) (same_Some (find_first d es t s e)))) (λ n. inr (has_top_net es t x (find_rest d es t n e))) (same_name t d.0)
