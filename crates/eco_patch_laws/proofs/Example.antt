-- A small base by computing the definitions: a NAND2, an inverter after it and a spare NAND2. An order puts an inverter on a
-- new net before the old one. The premises of the laws are met, and with the tie nets changed over the law fails.
use Rattle.std.proofs.Common.{◌≡◌, Bool, true, false, List, [], ◌∷◌, ◌++◌, map, length, Option, Some, None, refl, sym, ap, ap₂, ◌∙◌, subst, inl, inr, ⊎_elim, ◌⊎◌, arith, codes, true≢false}
use Rattle.std.specs.List.{Contains, IsDistinct, list_any}
use Rattle.std.specs.Option.{unwrap_or}
use Rattle.std.specs.Ordering.{eq_by_cmp}
use Rattle.std.specs.FinMap.{get, find, get-from_entries}
use Rattle.std.specs.FinSet.{contains-from_list}
use Rattle.std.specs.Cmp.Lexicographic.{nat_list_cmp_total}
use Rattle.eco_common.specs.declared.geometry.Point.{Point}
use Rattle.eco_net.specs.Netlist.{Name, name_cmp, Netlist, Component, Gate, Pin, CompPin, Role, GateOutput, GateInput, IsWellFormed, IsNet, IsPin, role_of}
use Rattle.eco_net.specs.Drivers.{driven, net_of, IsDriver, Computed, IsComputed, IsFree, is_driving, joined_at}
use Rattle.eco_net.specs.CutKeys.{CutBits}
use Rattle.eco_net.specs.Valuation.{Valuation, IsValuation, table_value}
use Rattle.eco_net.specs.Walks.{ReadsNet, IsLoopFree}
use Rattle.eco_net.proofs.Lists.{Part, Lists, made, component, components, driver_by, net_made, comp_made, joined_made, computed_by, EachReads, whole_by, EachFits}
use Rattle.eco_net.proofs.Basics.{Has, has_from_contains, contains_from_has, same_Some, not_None, same_name, find_first, find_rest, has_found}
use Rattle.eco_net.proofs.Decide.{same_table}
use Rattle.eco_net.proofs.Choices.{each_choice}
use Rattle.eco_net.proofs.Keys.{one_cut_key}
use Rattle.eco_net.proofs.One.{one_valuation}
use Rattle.eco_embed.specs.declared.feed.Feed.{Feed}
use Rattle.eco_embed.specs.declared.feed.Feed.TheVariants.{Zero, One, Input}
use Rattle.eco_patch_laws.specs.Orders.{PatchGate, Move, Order, Placement}
use Rattle.eco_common.specs.Joints.{NewJoint}
use Rattle.eco_net.specs.Joints.{with_joints}
use Rattle.eco_patch_laws.specs.Insertion.{input_pins, patch_name, output_pin, move_joint, with_gates, inserted}
use Rattle.eco_patch_laws.specs.Realisation.{on_pin, patch_joints, spare_joints, realised}
use Rattle.eco_embed.specs.Feeds.{feed_value, is_among}
use Rattle.eco_patch_laws.specs.Embeddings.{SpareEmbeds}
use Rattle.eco_net.specs.Bases.{Base, IsBase, IsSpare, IsTie, bare}
use Rattle.eco_patch_laws.specs.Rules.{KeepsRules, IsRedriven, by_gate, left_by, reached_by, Names, as_input, as_output, as_goal}
use Rattle.eco_patch_laws.specs.Mappings.{IsMapping}
use Rattle.eco_patch_laws.specs.Live.{Commit, AreLive, IsGoodName}
use Rattle.eco_patch_laws.specs.Patches.{IsPatch}
use Rattle.eco_patch_laws.proofs.Listed.{lists_with, bare_lists, bare_made, joints_made, gates_made, parts_of, patch_part, not_computed_by, two_deep, reads_of}
use Rattle.eco_patch_laws.proofs.Spares.{Pair}
use Rattle.eco_patch_laws.proofs.Start.{any_has}
use Rattle.eco_patch_laws.proofs.Patches.{same_valuations}

abbrev nand_table : List Bool
nand_table = true ∷ true ∷ true ∷ false ∷ []

abbrev not_table : List Bool
not_table = true ∷ false ∷ []

abbrev nand : Name → Name → List (Name × Name) → Part
nand a b more = (Gate (codes "A" ∷ codes "B" ∷ []) ((codes "Y", nand_table) ∷ []), (codes "A", a) ∷ (codes "B", b) ∷ more)

abbrev inverter : Part
inverter = (Gate (codes "A" ∷ []) ((codes "Y", not_table) ∷ []), (codes "A", codes "n1") ∷ (codes "Y", codes "n2") ∷ [])

abbrev spare : Part
spare = nand (codes "VSS") (codes "VSS") []

abbrev lists : Lists
lists = record {
  nets = (codes "VDD", Some true) ∷ (codes "VSS", Some false) ∷ (codes "a", None) ∷ (codes "b", None) ∷ (codes "n1", None) ∷ (codes "n2", None) ∷ [];
  comps = (codes "u1", nand (codes "a") (codes "b") ((codes "Y", codes "n1") ∷ [])) ∷ (codes "u2", inverter) ∷ (codes "SP_1", spare) ∷ [];
  tops = [];
  ties = codes "VDD" ∷ codes "VSS" ∷ [];
  reserved = [];
}

abbrev base : Base
base = record { full = made lists; stock = codes "SP_1" ∷ []; low = codes "VSS"; high = codes "VDD" }

-- without the spare
abbrev rest : Lists
rest = bare_lists lists (codes "SP_1" ∷ [])

bare_is : bare base ≡ made rest
bare_is = bare_made lists (codes "SP_1" ∷ []) (codes "VSS") (codes "VDD")

-- ---- the order

abbrev gate : PatchGate
gate = record { name = codes "g1"; table = not_table; inputs = codes "a" ∷ []; output = codes "m1" }

abbrev move : Move
move = record { comp = codes "u2"; pin = codes "A"; from = Some (codes "n1"); to = codes "m1" }

abbrev order : Order
order = record { name = codes "one"; nets = codes "m1" ∷ []; gates = gate ∷ []; moves = move ∷ [] }

abbrev placement : Placement
placement = record { gate = codes "g1"; spare = codes "SP_1"; output = codes "Y"; feeds = One ∷ Input 0 ∷ [] }

abbrev no_place : Name → Option Point
no_place g = None

-- the base with the gate
abbrev P : Netlist
P = inserted [] no_place (bare base) order

abbrev moved : Lists
moved = lists_with rest (move_joint move ∷ []) (codes "m1" ∷ [])

abbrev patched : Lists
patched = record moved { comps = parts_of [] (gate ∷ []) moved.comps }

P_is : P ≡ made patched
P_is =
    ap (λ N. inserted [] no_place N order) bare_is
    ∙ ap {A = Netlist} (λ N. record N { comps = with_gates [] no_place N.comps (gate ∷ []) }) (joints_made rest (move_joint move ∷ []) (codes "m1" ∷ []))
    ∙ (λ i. record (made moved) { comps = gates_made [] (gate ∷ []) moved.comps i })

-- ---- what it drives

abbrev gate_pin : Pin
gate_pin = CompPin (patch_name [] (codes "g1")) output_pin

m1_driver : IsDriver (made patched) (codes "m1") gate_pin
m1_driver = driver_by patched (codes "m1") gate_pin refl refl

m1_computed : Computed (made patched) (codes "m1") not_table (Some (codes "a") ∷ [])
m1_computed = computed_by patched (codes "m1") (patch_name [] (codes "g1")) output_pin (patch_part gate) not_table refl m1_driver refl refl

n1_computed : Computed (made patched) (codes "n1") nand_table (Some (codes "a") ∷ Some (codes "b") ∷ [])
n1_computed = computed_by patched (codes "n1") (codes "u1") (codes "Y") (nand (codes "a") (codes "b") ((codes "Y", codes "n1") ∷ [])) nand_table refl (driver_by patched (codes "n1") (CompPin (codes "u1") (codes "Y")) refl refl) refl refl

a_not_computed : IsComputed (made patched) (codes "a") → ⊥
a_not_computed = not_computed_by patched (codes "a") refl

b_not_computed : IsComputed (made patched) (codes "b") → ⊥
b_not_computed = not_computed_by patched (codes "b") refl

-- ---- no closed walk: what drives m1 and n1 reads a and b alone, and n2 is read by none

abbrev IsEarly : Name → Type 0
IsEarly n = (n ≡ codes "m1") ⊎ (n ≡ codes "n1")

abbrev EarlyOrFree : Name → Type 0
EarlyOrFree n = IsEarly n ⊎ (IsComputed (made patched) n → ⊥)

no_other : (n m : Name) → (IsComputed (made patched) n → ⊥) → Some n ≡ Some m → EarlyOrFree m
no_other n m h e = inr (subst (λ z. IsComputed (made patched) z → ⊥) (same_Some e) h)

each_reads : EachReads EarlyOrFree patched.comps
each_reads = (by_patch, (by_second, (by_first, (by_old_second, tt))))
  where
    by_patch : (n : Name) → Has (Some (codes "a") ∷ []) (Some n) → EarlyOrFree n
    by_patch n (inl e) = no_other (codes "a") n a_not_computed e
    by_patch n (inr h) = absurd h

    by_second : (n : Name) → Has (Some (codes "m1") ∷ []) (Some n) → EarlyOrFree n
    by_second n (inl e) = inl (inl (sym (same_Some e)))
    by_second n (inr h) = absurd h

    by_first : (n : Name) → Has (Some (codes "a") ∷ Some (codes "b") ∷ []) (Some n) → EarlyOrFree n
    by_first n (inl e) = no_other (codes "a") n a_not_computed e
    by_first n (inr (inl e)) = no_other (codes "b") n b_not_computed e
    by_first n (inr (inr h)) = absurd h

    by_old_second : (n : Name) → Has (Some (codes "n1") ∷ []) (Some n) → EarlyOrFree n
    by_old_second n (inl e) = inl (inr (sym (same_Some e)))
    by_old_second n (inr h) = absurd h

early_reads : (a b : Name) → IsEarly b → ReadsNet (made patched) a b → ⊥
early_reads a b (inl e) r = go (reads_of patched (codes "m1") not_table _ m1_computed a b e r)
  where
    go : Has (Some (codes "a") ∷ []) (Some a) → ⊥
    go (inl f) = a_not_computed (subst (IsComputed (made patched)) (sym (same_Some f)) r.from)
    go (inr h) = h
early_reads a b (inr e) r = go (reads_of patched (codes "n1") nand_table _ n1_computed a b e r)
  where
    go : Has (Some (codes "a") ∷ Some (codes "b") ∷ []) (Some a) → ⊥
    go (inl f) = a_not_computed (subst (IsComputed (made patched)) (sym (same_Some f)) r.from)
    go (inr (inl f)) = b_not_computed (subst (IsComputed (made patched)) (sym (same_Some f)) r.from)
    go (inr (inr h)) = h

patched_loop_free : IsLoopFree (made patched)
patched_loop_free = two_deep patched IsEarly each_reads early_reads

rest_a : IsComputed (made rest) (codes "a") → ⊥
rest_a = not_computed_by rest (codes "a") refl

rest_b : IsComputed (made rest) (codes "b") → ⊥
rest_b = not_computed_by rest (codes "b") refl

rest_n1 : Computed (made rest) (codes "n1") nand_table (Some (codes "a") ∷ Some (codes "b") ∷ [])
rest_n1 = computed_by rest (codes "n1") (codes "u1") (codes "Y") (nand (codes "a") (codes "b") ((codes "Y", codes "n1") ∷ [])) nand_table refl (driver_by rest (codes "n1") (CompPin (codes "u1") (codes "Y")) refl refl) refl refl

rest_loop_free : IsLoopFree (made rest)
rest_loop_free = two_deep rest (λ n. n ≡ codes "n1") (first, (second, tt)) none
  where
    first : (n : Name) → Has (Some (codes "a") ∷ Some (codes "b") ∷ []) (Some n) → (n ≡ codes "n1") ⊎ (IsComputed (made rest) n → ⊥)
    first n (inl e) = inr (subst (λ z. IsComputed (made rest) z → ⊥) (same_Some e) rest_a)
    first n (inr (inl e)) = inr (subst (λ z. IsComputed (made rest) z → ⊥) (same_Some e) rest_b)
    first n (inr (inr h)) = absurd h

    second : (n : Name) → Has (Some (codes "n1") ∷ []) (Some n) → (n ≡ codes "n1") ⊎ (IsComputed (made rest) n → ⊥)
    second n (inl e) = inl (sym (same_Some e))
    second n (inr h) = absurd h

    none : (a b : Name) → b ≡ codes "n1" → ReadsNet (made rest) a b → ⊥
    none a b e r = go (reads_of rest (codes "n1") nand_table _ rest_n1 a b e r)
      where
        go : Has (Some (codes "a") ∷ Some (codes "b") ∷ []) (Some a) → ⊥
        go (inl f) = rest_a (subst (IsComputed (made rest)) (sym (same_Some f)) r.from)
        go (inr (inl f)) = rest_b (subst (IsComputed (made rest)) (sym (same_Some f)) r.from)
        go (inr (inr h)) = h

-- ---- the base

four_rows : (o : Name × List Bool) → Has ((codes "Y", nand_table) ∷ []) o → length o.1 ≡ 4
four_rows o (inl e) = subst (λ z. length z.1 ≡ 4) e refl
four_rows o (inr h) = absurd h

two_rows : (o : Name × List Bool) → Has ((codes "Y", not_table) ∷ []) o → length o.1 ≡ 2
two_rows o (inl e) = subst (λ z. length z.1 ≡ 2) e refl
two_rows o (inr h) = absurd h

each_fits : EachFits lists.comps
unfolding IsDistinct
each_fits = (
  (((refl, (refl, tt)), ((refl, tt), (tt, tt))), λ o c. four_rows o (has_from_contains ((codes "Y", nand_table) ∷ []) o c), refl),
  (
    (((refl, tt), (tt, tt)), λ o c. two_rows o (has_from_contains ((codes "Y", not_table) ∷ []) o c), refl),
    ((((refl, (refl, tt)), ((refl, tt), (tt, tt))), λ o c. four_rows o (has_from_contains ((codes "Y", nand_table) ∷ []) o c), refl), tt),
  ),
)

whole : IsWellFormed (made lists)
whole = whole_by lists each_fits refl refl

abbrev after_b : List (Name × Role)
after_b = (codes "Y", GateOutput nand_table) ∷ []

abbrev after_a : List (Name × Role)
after_a = (codes "B", GateInput) ∷ after_b

-- the spare's output is unconnected
spare_off : (p : Name) (t : List Bool) → role_of (component spare) p ≡ Some (GateOutput t) → get (component spare).joined p ≡ None
spare_off p t r = joined_made spare p ∙ ⊎_elim
    (λ s. absurd (reads_not (find_first (codes "A", GateInput) after_a p s r)))
    (λ n. ⊎_elim
    (λ s. absurd (reads_not (find_first (codes "B", GateInput) after_b p s (find_rest (codes "A", GateInput) after_a p n r))))
    (λ m. sym (find_rest (codes "A", codes "VSS") ((codes "B", codes "VSS") ∷ []) p n refl) ∙ sym (find_rest (codes "B", codes "VSS") [] p m refl))
    (same_name p (codes "B")))
    (same_name p (codes "A"))
  where
    reads_not : Some GateInput ≡ Some (GateOutput t) → ⊥
    reads_not e = cc

is_tie : (n : Name) → Has lists.ties n → IsTie (made lists) n
is_tie n (inl e) = contains-from_list nat_list_cmp_total lists.ties n ∙ subst (λ z. list_any (eq_by_cmp name_cmp z) lists.ties ≡ true) e refl
is_tie n (inr (inl e)) = contains-from_list nat_list_cmp_total lists.ties n ∙ subst (λ z. list_any (eq_by_cmp name_cmp z) lists.ties ≡ true) e refl
is_tie n (inr (inr h)) = absurd h

tie_net : (n : Name) → Has lists.ties n → IsNet (made lists) n
tie_net n (inl e) = subst (IsNet (made lists)) e (Some true, net_made lists (codes "VDD"))
tie_net n (inr (inl e)) = subst (IsNet (made lists)) e (Some false, net_made lists (codes "VSS"))
tie_net n (inr (inr h)) = absurd h

no_blank : (c : Name) → Has (codes "u1" ∷ codes "u2" ∷ codes "SP_1" ∷ []) c → Has c 32 → ⊥
no_blank c (inl e) h = no (subst (λ z. Has z 32) (sym e) h)
  where
    no : Has (codes "u1") 32 → ⊥
    no (inl e) = omega (arith, e)
    no (inr (inl e)) = omega (arith, e)
    no (inr (inr h)) = h
no_blank c (inr (inl e)) h = no (subst (λ z. Has z 32) (sym e) h)
  where
    no : Has (codes "u2") 32 → ⊥
    no (inl e) = omega (arith, e)
    no (inr (inl e)) = omega (arith, e)
    no (inr (inr h)) = h
no_blank c (inr (inr (inl e))) h = no (subst (λ z. Has z 32) (sym e) h)
  where
    no : Has (codes "SP_1") 32 → ⊥
    no (inl e) = omega (arith, e)
    no (inr (inl e)) = omega (arith, e)
    no (inr (inr (inl e))) = omega (arith, e)
    no (inr (inr (inr (inl e)))) = omega (arith, e)
    no (inr (inr (inr (inr h)))) = h
no_blank c (inr (inr (inr h))) b = h

stock_is : (s : Name) → Has base.stock s → (x : Component) × (get base.full.comps s ≡ Some x) × IsSpare x
stock_is s (inl e) = (component spare, ap (get base.full.comps) (sym e) ∙ comp_made lists (codes "SP_1"), record { inputs = _; outputs = _; gate = refl; off = spare_off })
stock_is s (inr h) = absurd h

pub is_base : IsBase base
is_base = record {
  whole = whole;
  loop_free = subst IsLoopFree (sym bare_is) rest_loop_free;
  low_is = inl (net_made lists (codes "VSS"));
  high_is = inl (net_made lists (codes "VDD"));
  low_tie = is_tie (codes "VSS") (inr (inl refl));
  high_tie = is_tie (codes "VDD") (inl refl);
  ties = λ n t. tie_net n (any_has n lists.ties (sym (contains-from_list nat_list_cmp_total lists.ties n) ∙ t));
  stock = λ s c. stock_is s (has_from_contains base.stock s c);
  no_blank = λ c x e b. no_blank c (has_found lists_comps c x (sym (get-from_entries nat_list_cmp_total lists_comps c) ∙ e)) (has_from_contains c 32 b);
}
  where
    lists_comps : List (Name × Component)
    lists_comps = components lists.comps

-- ---- the rules

bare_net : (n : Name) → get (bare base).nets n ≡ find name_cmp n lists.nets
bare_net n = net_made lists n

u2_is : get (bare base).comps (codes "u2") ≡ Some (component inverter)
u2_is = ap (λ N. get N.comps (codes "u2")) bare_is ∙ comp_made rest (codes "u2")

its_gate : (g : PatchGate) → Contains order.gates g → gate ≡ g
its_gate g c = go (has_from_contains order.gates g c)
  where
    go : Has (gate ∷ []) g → gate ≡ g
    go (inl e) = e
    go (inr h) = absurd h

its_move : (m : Move) → Contains order.moves m → move ≡ m
its_move m c = go (has_from_contains order.moves m c)
  where
    go : Has (move ∷ []) m → move ≡ m
    go (inl e) = e
    go (inr h) = absurd h

its_net : (n : Name) → Contains order.nets n → codes "m1" ≡ n
its_net n c = go (has_from_contains order.nets n c)
  where
    go : Has (codes "m1" ∷ []) n → codes "m1" ≡ n
    go (inl e) = e
    go (inr h) = absurd h

known : (n : Name) → Names order n → IsNet (bare base) n ⊎ Contains order.nets n
known n (as_input g c i) = inl (subst (IsNet (bare base)) (in_a (has_from_contains g.inputs n i) (its_gate g c)) (None, bare_net (codes "a")))
  where
    in_a : Has g.inputs n → gate ≡ g → codes "a" ≡ n
    in_a h e = go (subst (λ z. Has z.inputs n) (sym e) h)
      where
        go : Has (codes "a" ∷ []) n → codes "a" ≡ n
        go (inl f) = f
        go (inr k) = absurd k
known n (as_output g c e) = inr (contains_from_has order.nets n (inl (ap (λ z. z.output) (its_gate g c) ∙ e)))
known n (as_goal m c e) = inr (contains_from_has order.nets n (inl (ap (λ z. z.to) (its_move m c) ∙ e)))

-- the moved pin is an input
moves_input : (m : Move) → Contains order.moves m → (x : Component) → get (bare base).comps m.comp ≡ Some x → is_driving (role_of x m.pin) ≡ true → ⊥
moves_input m c x e d =
    let s = its_move m c in
    let y : component inverter ≡ x = same_Some (sym u2_is ∙ ap (λ z. get (bare base).comps z.comp) s ∙ e) in
    true≢false (sym d ∙ ap₂ (λ z q. is_driving (role_of z q)) (sym y) (ap (λ z. z.pin) (sym s)))

redriven : (n : Name) → IsRedriven (bare base) order n → codes "m1" ≡ n
redriven n (by_gate g c e) = ap (λ z. z.output) (its_gate g c) ∙ e
redriven n (left_by m c d e) = absurd (moves_input m c d.0 d.1 d.2)
redriven n (reached_by m c d e) = absurd (moves_input m c d.0 d.1 d.2)

m1_new : get (bare base).nets (codes "m1") ≡ None
m1_new = bare_net (codes "m1")

m1_no_tie : IsTie (bare base) (codes "m1") → ⊥
m1_no_tie t = true≢false (sym t ∙ contains-from_list nat_list_cmp_total lists.ties (codes "m1"))

pub keeps_rules : KeepsRules (bare base) (bare base) P order
unfolding IsDistinct
keeps_rules = record {
  once = record { nets = (tt, tt); gates = (tt, tt); moves = (tt, tt) };
  nets_known = known;
  pins_known = λ m c. (component inverter, ap (λ z. get (bare base).comps z.comp) (sym (its_move m c)) ∙ u2_is, subst (λ z. IsPin (component inverter) z.pin) (its_move m c) (GateInput, refl));
  true_moves = λ m c. subst (λ z. net_of (bare base) (CompPin z.comp z.pin) ≡ z.from) (its_move m c) (ap (λ o. joined_at o (codes "A")) u2_is ∙ joined_made inverter (codes "A"));
  no_supply = λ n r. (
    λ b e. not_None (sym e ∙ ap (get (bare base).nets) (sym (redriven n r)) ∙ m1_new),
    λ t. m1_no_tie (subst (IsTie (bare base)) (sym (redriven n r)) t),
  );
  nets_new = λ n c. ap (get (bare base).nets) (sym (its_net n c)) ∙ m1_new;
  one_driver = λ n r p q d e.
      let one : (s : Pin) → driven P s ≡ Some n → s ≡ gate_pin = λ s f. m1_driver.only s (ap (λ N. driven N s) (sym P_is) ∙ f ∙ ap Some (sym (redriven n r))) in
      one p d ∙ sym (one q e);
  loop_free = subst IsLoopFree (sym P_is) patched_loop_free;
}

-- ---- the spare with 1 and the gate's input at its pins is the gate

inverts : (bits : List Bool) → length bits ≡ 1 → table_value nand_table (map (feed_value bits) (One ∷ Input 0 ∷ [])) ≡ table_value not_table bits
inverts [] l = absurd (omega (arith, l))
inverts (true ∷ []) l = refl
inverts (false ∷ []) l = refl
inverts (b ∷ c ∷ bits) l = absurd (omega (arith, l))

-- with 0 in place of 1 it is not
not_with_zero : SpareEmbeds 1 not_table (component spare) (codes "Y") (Zero ∷ Input 0 ∷ []) → ⊥
not_with_zero m = true≢false (sym (ap (λ t. table_value t (map (feed_value (true ∷ [])) (Zero ∷ Input 0 ∷ []))) (same_table m.is_output refl)) ∙ m.same (true ∷ []) refl)

among : (f : Feed) → Has (One ∷ Input 0 ∷ []) f → is_among 1 f ≡ true
among f (inl e) = ap (is_among 1) (sym e)
among f (inr (inl e)) = ap (is_among 1) (sym e)
among f (inr (inr h)) = absurd h

embeds : SpareEmbeds 1 not_table (component spare) (codes "Y") (One ∷ Input 0 ∷ [])
embeds = record { chosen = nand_table; is_output = refl; one_each = refl; among = λ f c. among f (has_from_contains (One ∷ Input 0 ∷ []) f c); same = inverts }

pub mapped : IsMapping base order (placement ∷ [])
unfolding IsDistinct
mapped = record {
  one_each = refl;
  stock = λ s c. c;
  apart = (tt, tt);
  embeds = λ g p x c e. go g p x (has_from_contains {A = Pair} ((gate, placement) ∷ []) (g, p) c) e;
}
  where
    go : (g : PatchGate) (p : Placement) (x : Component) → Has {A = Pair} ((gate, placement) ∷ []) (g, p) → get base.full.comps p.spare ≡ Some x → SpareEmbeds (length g.inputs) g.table x p.output p.feeds
    go g p x (inl s) e =
        let y : component spare ≡ x = same_Some (sym (comp_made lists (codes "SP_1")) ∙ ap (λ z. get base.full.comps z.1.spare) s ∙ e) in
        subst (λ z. SpareEmbeds (length z.0.inputs) z.0.table x z.1.output z.1.feeds) s (subst (λ z. SpareEmbeds 1 not_table z (codes "Y") (One ∷ Input 0 ∷ [])) y embeds)
    go g p x (inr h) e = absurd h

-- the premises of the laws are met
pub is_patch : IsPatch base [] no_place order (placement ∷ [])
is_patch = record { base_is = is_base; no_blank = λ c. has_from_contains [] 32 c; keeps = keeps_rules; mapped = mapped }

-- ---- with a = 1, m1 is 0 and n2 is 1, by the gate and by the spare

m1_is : (cut : CutBits) (v : Valuation) → get v (codes "a") ≡ Some true → IsValuation P cut v → get v (codes "m1") ≡ Some false
m1_is cut v a is =
    (subst (λ N. IsValuation N cut v) P_is is).computed (codes "m1") not_table (Some (codes "a") ∷ []) m1_computed
    ∙ ap (λ o. Some (table_value not_table (unwrap_or o false ∷ []))) a

n2_computed : Computed (made patched) (codes "n2") not_table (Some (codes "m1") ∷ [])
n2_computed = computed_by patched (codes "n2") (codes "u2") (codes "Y") (inverter.0, (codes "A", codes "m1") ∷ inverter.1) not_table refl (driver_by patched (codes "n2") (CompPin (codes "u2") (codes "Y")) refl refl) refl refl

n2_is : (cut : CutBits) (v : Valuation) → get v (codes "a") ≡ Some true → IsValuation P cut v → get v (codes "n2") ≡ Some true
n2_is cut v a is =
    (subst (λ N. IsValuation N cut v) P_is is).computed (codes "n2") not_table (Some (codes "m1") ∷ []) n2_computed
    ∙ ap (λ o. Some (table_value not_table (unwrap_or o false ∷ []))) (m1_is cut v a is)

by_spare : (cut : CutBits) (v : Valuation) → get v (codes "a") ≡ Some true → IsValuation (realised base.low base.high base.full order (placement ∷ [])) cut v → (get v (codes "m1") ≡ Some false) × (get v (codes "n2") ≡ Some true)
by_spare cut v a is =
    let p = (same_valuations base [] no_place order (placement ∷ []) is_patch cut v).1 is in
    (m1_is cut v a p, n2_is cut v a p)

-- ---- the pins that the order puts on other nets

its_joints : patch_joints base.low base.high base.full order (placement ∷ []) ≡ on_pin (codes "u2") (codes "A") (codes "m1") ∷ on_pin (codes "SP_1") (codes "Y") (codes "m1") ∷ on_pin (codes "SP_1") (codes "A") (codes "VDD") ∷ on_pin (codes "SP_1") (codes "B") (codes "a") ∷ []
its_joints = ap (λ o. map move_joint (move ∷ []) ++ (spare_joints base.low base.high gate placement o ++ [])) (comp_made lists (codes "SP_1"))

-- names as they stand in issued texts
patch_names : patch_name (codes "one") (codes "g1") ≡ codes "one g1"
patch_names = refl

pin_names : map (λ e. e.0) (input_pins (codes "a" ∷ codes "b" ∷ [])) ≡ codes "i0" ∷ codes "i1" ∷ []
pin_names = refl

-- ---- the order live

abbrev commit : Commit
commit = record { order = order; placements = placement ∷ [] }

pub live : AreLive base (commit ∷ [])
live = record {
  keep = (keeps_rules, tt);
  names = λ c h. good c (has_from_contains (commit ∷ []) c h);
  mapped = λ c h. maps c (has_from_contains (commit ∷ []) c h);
  apart = (λ c h. absurd (has_from_contains [] c h), tt);
}
  where
    one_good : IsGoodName (codes "one")
    one_good = (λ e. cc, λ b. no (has_from_contains (codes "one") 32 b))
      where
        no : Has (codes "one") 32 → ⊥
        no (inl e) = omega (arith, e)
        no (inr (inl e)) = omega (arith, e)
        no (inr (inr (inl e))) = omega (arith, e)
        no (inr (inr (inr h))) = h

    good : (c : Commit) → Has (commit ∷ []) c → IsGoodName c.order.name
    good c (inl e) = subst (λ z. IsGoodName z.order.name) e one_good
    good c (inr h) = absurd h

    maps : (c : Commit) → Has (commit ∷ []) c → IsMapping base c.order c.placements
    maps c (inl e) = subst (λ z. IsMapping base z.order z.placements) e mapped
    maps c (inr h) = absurd h

-- ---- with the tie nets changed over the law fails

abbrev swapped_joints : List NewJoint
swapped_joints = map move_joint (move ∷ []) ++ (spare_joints base.high base.low gate placement (Some (component spare)) ++ [])

abbrev swapped : Lists
swapped = lists_with lists swapped_joints (codes "m1" ∷ [])

abbrev S : Netlist
S = realised base.high base.low base.full order (placement ∷ [])

S_is : S ≡ made swapped
S_is =
    ap (λ o. with_joints base.full (map move_joint (move ∷ []) ++ (spare_joints base.high base.low gate placement o ++ [])) (codes "m1" ∷ [])) (comp_made lists (codes "SP_1"))
    ∙ joints_made lists swapped_joints (codes "m1" ∷ [])

swapped_m1 : Computed (made swapped) (codes "m1") nand_table (Some (codes "VSS") ∷ Some (codes "a") ∷ [])
swapped_m1 = computed_by swapped (codes "m1") (codes "SP_1") (codes "Y") (spare.0, (codes "Y", codes "m1") ∷ (codes "A", codes "VSS") ∷ (codes "B", codes "a") ∷ spare.1) nand_table refl (driver_by swapped (codes "m1") (CompPin (codes "SP_1") (codes "Y")) refl refl) refl refl

swapped_is : (cut : CutBits) (v : Valuation) → get v (codes "a") ≡ Some true → IsValuation S cut v → get v (codes "m1") ≡ Some true
swapped_is cut v a is =
    let s : IsValuation (made swapped) cut v = subst (λ N. IsValuation N cut v) S_is is in
    s.computed (codes "m1") nand_table (Some (codes "VSS") ∷ Some (codes "a") ∷ []) swapped_m1
    ∙ ap₂ (λ l x. Some (table_value nand_table (unwrap_or l false ∷ unwrap_or x false ∷ []))) (s.supplied (codes "VSS") false (net_made swapped (codes "VSS"))) a

-- a choice of bits with a = 1
a_free : IsFree P (codes "a")
a_free = (ap (λ N. get N.nets (codes "a")) P_is ∙ net_made patched (codes "a"), λ c. a_not_computed (subst (λ N. IsComputed N (codes "a")) P_is c))

not_swapped : ((cut : CutBits) (v : Valuation) → IsValuation P cut v → IsValuation S cut v) → ⊥
not_swapped law =
    let cut = each_choice P (λ key. true) in
    let key = one_cut_key P (codes "a") a_free in
    let v = one_valuation P keeps_rules.loop_free cut.0 cut.1 in
    let a : get v.0 (codes "a") ≡ Some true = v.1.free (codes "a") key.0 a_free key.1 ∙ cut.2 key.0 (codes "a", a_free, key.1) in
    true≢false (same_Some (sym (swapped_is cut.0 v.0 a (law cut.0 v.0 v.1)) ∙ m1_is cut.0 v.0 a v.1))
