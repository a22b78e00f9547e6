-- Netlists that are given by lists, with pins put on nets, with gates and without stock
use Rattle.std.proofs.Common.{◌≡◌, ◌⊎◌, subst, ℕ, zero, suc, Bool, true, false, cond, not, List, [], ◌∷◌, ◌++◌, map, Option, Some, None, refl, sym, ap, ◌∙◌, ⊎_elim, true≢false, ◌&&◌}
use Rattle.std.specs.List.{Contains, list_any}
use Rattle.std.specs.Option.{option_map}
use Rattle.std.specs.Ordering.{eq_by_cmp}
use Rattle.std.specs.Cmp.Lexicographic.{nat_list_cmp_total}
use Rattle.std.specs.FinMap.{get, insert, from_entries, find, get-from_entries, same_map}
use Rattle.std.proofs.lemmas.Map.Lookups.{exact_bytes}
use Rattle.eco_net.specs.Netlist.{Name, name_cmp, Netlist, Component, Gate, Role, pins_of, role_of}
use Rattle.eco_net.specs.Drivers.{is_driving, driven_at, Computed, IsComputed}
use Rattle.eco_net.specs.Walks.{ReadsNet, NetWalk, IsLoopFree}
use Rattle.eco_net.proofs.Solved.{one_table}
use Rattle.eco_net.proofs.Basics.{Has, has_from_contains, same_Some, not_None, same_name, same_of_cmp, cmp_itself, find_first, find_rest}
use Rattle.eco_net.proofs.Lists.{Part, Lists, component, components, made, comp_made, joined_made, EachReads, reads_by}
use Rattle.eco_patch_laws.specs.Orders.{PatchGate}
use Rattle.eco_common.specs.Joints.{NewJoint}
use Rattle.eco_net.specs.Joints.{put_on, put_joints, with_nets, with_joints}
use Rattle.eco_patch_laws.specs.Insertion.{input_pins, output_pin, patch_name, with_gates}
use Rattle.eco_net.specs.Bases.{bare}
use Rattle.eco_patch_laws.proofs.Gates.{joined_driven}
use Rattle.eco_patch_laws.proofs.Start.{bare_get}

-- ---- joints

abbrev pub put_part : List (Name × Part) → NewJoint → Option Part → List (Name × Part)
put_part es j None = es
put_part es j (Some x) = (j.comp, (x.0, (j.pin, j.net) ∷ x.1)) ∷ es

abbrev pub parts_with : List (Name × Part) → List NewJoint → List (Name × Part)
parts_with es [] = es
parts_with es (j ∷ js) = put_part (parts_with es js) j (find name_cmp j.comp (parts_with es js))

abbrev pub nets_with : List (Name × Option Bool) → List Name → List (Name × Option Bool)
nets_with es [] = es
nets_with es (n ∷ ns) = (n, None) ∷ nets_with es ns

abbrev pub lists_with : Lists → List NewJoint → List Name → Lists
lists_with L js ns = record L { nets = nets_with L.nets ns; comps = parts_with L.comps js }

one_put : (es : List (Name × Part)) (j : NewJoint) (o : Option Part) → put_on (from_entries (components es)) j (option_map component o) ≡ from_entries (components (put_part es j o))
one_put es j None = refl
one_put es j (Some x) = refl

all_put : (es : List (Name × Part)) (js : List NewJoint) → put_joints (from_entries (components es)) js ≡ from_entries (components (parts_with es js))
all_put es [] = refl
all_put es (j ∷ js) =
    ap (λ m. put_on m j (get m j.comp)) (all_put es js)
    ∙ ap (put_on (from_entries (components (parts_with es js))) j) (comp_made (record { nets = []; comps = parts_with es js; tops = []; ties = []; reserved = [] }) j.comp)
    ∙ one_put (parts_with es js) j (find name_cmp j.comp (parts_with es js))

all_nets : (es : List (Name × Option Bool)) (ns : List Name) → with_nets (from_entries es) ns ≡ from_entries (nets_with es ns)
all_nets es [] = refl
all_nets es (n ∷ ns) = ap (λ m. insert m n None) (all_nets es ns)

pub joints_made : (L : Lists) (js : List NewJoint) (ns : List Name) → with_joints (made L) js ns ≡ made (lists_with L js ns)
joints_made L js ns = λ i. record (made L) { nets = all_nets L.nets ns i; comps = all_put L.comps js i }

-- ---- patch gates

abbrev pub patch_part : PatchGate → Part
patch_part g = (Gate (map (λ e. e.0) (input_pins g.inputs)) ((output_pin, g.table) ∷ []), input_pins g.inputs ++ (output_pin, g.output) ∷ [])

abbrev pub parts_of : Name → List PatchGate → List (Name × Part) → List (Name × Part)
parts_of label [] es = es
parts_of label (g ∷ gs) es = (patch_name label g.name, patch_part g) ∷ parts_of label gs es

pub gates_made : (label : Name) (gs : List PatchGate) (es : List (Name × Part)) → with_gates label (λ g. None) (from_entries (components es)) gs ≡ from_entries (components (parts_of label gs es))
gates_made label [] es = refl
gates_made label (g ∷ gs) es = ap (λ m. insert m (patch_name label g.name) (component (patch_part g))) (gates_made label gs es)

-- ---- without the stock

abbrev pub kept : (Name → Bool) → List (Name × Part) → List (Name × Part)
kept test [] = []
kept test (e ∷ es) = cond (test e.0) (e ∷ kept test es) (kept test es)

none_either : {X : Type 0} (b : Bool) (o : Option X) → o ≡ None → None ≡ cond b o None
none_either true o e = sym e
none_either false o e = refl

find_kept : (test : Name → Bool) (es : List (Name × Part)) (q : Name) → find name_cmp q (components (kept test es)) ≡ cond (test q) (find name_cmp q (components es)) None
find_kept test [] q = none_either (test q) None refl
find_kept test (e ∷ es) q = go (find_kept test es q) (eq_by_cmp name_cmp q e.0) refl (test e.0) refl (test q) refl
  where
    go : find name_cmp q (components (kept test es)) ≡ cond (test q) (find name_cmp q (components es)) None → (b : Bool) → eq_by_cmp name_cmp q e.0 ≡ b → (t : Bool) → test e.0 ≡ t → (u : Bool) → test q ≡ u
        → find name_cmp q (components (cond t (e ∷ kept test es) (kept test es))) ≡ cond u (cond b (Some (component e.1)) (find name_cmp q (components es))) None
    go rest true s true t true u = ap (λ z. cond z (Some (component e.1)) (find name_cmp q (components (kept test es)))) s
    go rest true s true t false u = cc (t, u, ap test (same_of_cmp q e.0 s))
    go rest true s false t true u = cc (t, u, ap test (same_of_cmp q e.0 s))
    go rest true s false t false u = rest ∙ ap (λ z. cond z (find name_cmp q (components es)) None) u
    go rest false s true t u v = ap (λ z. cond z (Some (component e.1)) (find name_cmp q (components (kept test es)))) s ∙ rest ∙ ap (λ z. cond z (find name_cmp q (components es)) None) v
    go rest false s false t u v = rest ∙ ap (λ z. cond z (find name_cmp q (components es)) None) v

abbrev pub no_stock : List Name → Name → Bool
no_stock stock c = not (list_any (eq_by_cmp name_cmp c) stock)

abbrev pub bare_lists : Lists → List Name → Lists
bare_lists L stock = record L { comps = kept (no_stock stock) L.comps; reserved = stock }

pub bare_made : (L : Lists) (stock : List Name) (low high : Name) → bare (record { full = made L; stock = stock; low = low; high = high }) ≡ made (bare_lists L stock)
bare_made L stock low high = λ i. record (made (bare_lists L stock)) { comps = comps i }
  where
    comps : (bare (record { full = made L; stock = stock; low = low; high = high })).comps ≡ from_entries (components (kept (no_stock stock) L.comps))
    comps = same_map nat_list_cmp_total exact_bytes _ _ (λ q.
        bare_get (record { full = made L; stock = stock; low = low; high = high }) q
        ∙ ap (λ o. cond (no_stock stock q) o None) (get-from_entries nat_list_cmp_total (components L.comps) q)
        ∙ sym (find_kept (no_stock stock) L.comps q)
        ∙ sym (get-from_entries nat_list_cmp_total (components (kept (no_stock stock) L.comps)) q))

-- ---- nets that no gate drives

abbrev pub none_of : Name → List (Name × Role) → List (Name × Name) → Bool
none_of n pins [] = true
none_of n pins (j ∷ js) = cond (eq_by_cmp name_cmp j.1 n) (not (is_driving (find name_cmp j.0 pins))) true && none_of n pins js

-- no pin of these drives the net
abbrev pub drives_none : Name → List (Name × Part) → Bool
drives_none n [] = true
drives_none n (e ∷ es) = none_of n (pins_of e.1.0) e.1.1 && drives_none n es

first_so : (b c : Bool) → (b && c) ≡ true → b ≡ true
first_so true c e = refl
first_so false c e = e

second_so : (b c : Bool) → (b && c) ≡ true → c ≡ true
second_so true c e = e
second_so false c e = absurd (true≢false (sym e))

not_both : (b : Bool) → not b ≡ true → b ≡ true → ⊥
not_both true e f = true≢false (sym e)
not_both false e f = true≢false (sym f)

pin_drives_none : (n : Name) (pins : List (Name × Role)) (js : List (Name × Name)) (q : Name) → none_of n pins js ≡ true → find name_cmp q js ≡ Some n → is_driving (find name_cmp q pins) ≡ true → ⊥
pin_drives_none n pins [] q e f d = not_None (sym f)
pin_drives_none n pins (j ∷ js) q e f d =
    ⊎_elim
    (λ s.
    let m : eq_by_cmp name_cmp j.1 n ≡ true = ap (λ z. eq_by_cmp name_cmp z n) (same_Some (find_first j js q s f)) ∙ cmp_itself n in
    not_both (is_driving (find name_cmp j.0 pins)) (sym (ap (λ b. cond b (not (is_driving (find name_cmp j.0 pins))) true) m) ∙ first_so _ _ e) (ap (λ z. is_driving (find name_cmp z pins)) (sym s) ∙ d))
    (λ a. pin_drives_none n pins js q (second_so (cond (eq_by_cmp name_cmp j.1 n) (not (is_driving (find name_cmp j.0 pins))) true) _ e) (find_rest j js q a f) d)
    (same_name q j.0)

part_drives_none : (n : Name) (es : List (Name × Part)) (c : Name) (x : Part) → drives_none n es ≡ true → find name_cmp c es ≡ Some x → none_of n (pins_of x.0) x.1 ≡ true
part_drives_none n [] c x e f = absurd (not_None (sym f))
part_drives_none n (d ∷ es) c x e f =
    ⊎_elim
    (λ s. ap (λ z. none_of n (pins_of z.0) z.1) (sym (same_Some (find_first d es c s f))) ∙ first_so _ _ e)
    (λ a. part_drives_none n es c x (second_so (none_of n (pins_of d.1.0) d.1.1) _ e) (find_rest d es c a f))
    (same_name c d.0)

pub part_of : (L : Lists) (c : Name) (gate : Component) → get (made L).comps c ≡ Some gate → (x : Part) × (find name_cmp c L.comps ≡ Some x) × (component x ≡ gate)
part_of L c gate e = go (find name_cmp c L.comps) (sym (comp_made L c) ∙ e) refl
  where
    go : (o : Option Part) → option_map component o ≡ Some gate → find name_cmp c L.comps ≡ o → (x : Part) × (find name_cmp c L.comps ≡ Some x) × (component x ≡ gate)
    go None f g = absurd (not_None (sym f))
    go (Some x) f g = (x, g, same_Some f)

pub not_computed_by : (L : Lists) (n : Name) → drives_none n L.comps ≡ true → IsComputed (made L) n → ⊥
not_computed_by L n e c =
    let m = c.2 in
    let x = part_of L m.comp m.gate m.is in
    let j = joined_driven m.gate m.pin n (ap (λ o. driven_at o m.pin) (sym m.is) ∙ m.driver.drives) in
    pin_drives_none n (pins_of x.0.0) x.0.1 m.pin (part_drives_none n L.comps m.comp x.0 e x.1)
    (sym (joined_made x.0 m.pin) ∙ ap (λ z. get z.joined m.pin) x.2 ∙ j.1)
    (ap (λ z. is_driving (role_of z m.pin)) x.2 ∙ j.0)

-- ---- no closed walk where what is computed and read is driven by gates that read nothing computed

first_step : (N : Netlist) (a b : Name) (k : ℕ) → NetWalk N a b (suc k) → (c : Name) × ReadsNet N a c
first_step N a b zero w = (b, subst (λ z. ReadsNet N z b) (sym w.1) w.2)
first_step N a b (suc k) w = first_step N a w.0 k w.1

pub two_deep : (L : Lists) (First : Name → Type 0) → EachReads (λ n. First n ⊎ (IsComputed (made L) n → ⊥)) L.comps → ((a b : Name) → First b → ReadsNet (made L) a b → ⊥) → IsLoopFree (made L)
two_deep L First each none a k w =
    let s = first_step (made L) a a k w in
    let r = s.1 in
    none w.0 a
    (⊎_elim (λ f. f) (λ n. absurd (n r.from)) (reads_by L (λ n. First n ⊎ (IsComputed (made L) n → ⊥)) each r.to.comp r.to.gate r.to.is a (subst (λ ins. Contains ins (Some a)) (sym r.to.reads) r.reads)))
    w.2

-- what drives a computed net reads these nets alone
pub reads_of : (L : Lists) (n : Name) (table : List Bool) (inputs : List (Option Name)) → Computed (made L) n table inputs → (a b : Name) → b ≡ n → ReadsNet (made L) a b → Has inputs (Some a)
reads_of L n table inputs c a b e r =
    subst (λ ins. Has ins (Some a)) (one_table (made L) n r.table table r.inputs inputs (subst (λ z. Computed (made L) z r.table r.inputs) e r.to) c).1 (has_from_contains r.inputs (Some a) r.reads)
