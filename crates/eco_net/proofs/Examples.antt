-- A small netlist by computing the definitions: a half adder with a table for each of its two outputs, whose one input is the
-- chip's and whose other is a register's, so a box's; a supply as the low tie net, a gate without inputs after the high one;
-- an inverter whose input is unconnected and whose output meets an INOUT pin of the chip; and a box with an INOUT pin.
use Rattle.std.proofs.Common.{◌≡◌, ◌≢◌, ℕ, zero, suc, ◌<◌, Bool, true, false, List, [], ◌∷◌, map, Some, None, refl, sym, ap, ap₂, ◌∙◌, subst, inl, inr, codes, true≢false, arith}
use Rattle.std.specs.Prelude.{slice_index_or, length}
use Rattle.std.specs.List.{Contains, IsDistinct}
use Rattle.std.specs.Option.{unwrap_or}
use Rattle.std.specs.FinMap.{get}
use Rattle.eco_common.specs.declared.geometry.Dir.TheVariants.{Input, Output, Inout}
use Rattle.eco_net.specs.Netlist.{Name, Gate, Boxed, Netlist, Pin, TopPin, CompPin, GateOutput, IsWellFormed}
use Rattle.eco_net.specs.Drivers.{driven, IsDriver, Computed, IsComputed, IsFree, IsSink, joined_at}
use Rattle.eco_net.specs.Walks.{ReadsNet, IsLoopFree}
use Rattle.eco_net.specs.Depth.{IsDepth, Behind}
use Rattle.eco_net.specs.CutKeys.{is_source_pin, PinKey, NetKey, KeyOf, IsCutKey, CutBits, is_source_at, is_source_top}
use Rattle.eco_net.specs.Observables.{IsObservable, ObservedTop, ObservedAt, ObservedRole, observed, pin_value}
use Rattle.eco_func.specs.Tables.{row}
use Rattle.eco_net.specs.Valuation.{Valuation, IsValuation, HasOneValuation, table_value, read}
use Rattle.eco_net.proofs.Lists.{Part, Lists, made, component, driver_by, driven_made, net_made, top_made, comp_made, joined_made, inputs_made, computed_by, free_top, free_box, free_several, EachReads, reads_by, whole_by, EachFits}
use Rattle.eco_net.proofs.Basics.{Has, has_from_contains, same_Some, not_None, same_head}
use Rattle.eco_net.proofs.Decide.{same_comp}
use Rattle.eco_net.proofs.One.{one_valuation}

-- ---- rows

-- the first bit of a row is the lowest
first_is_low : row (true ∷ false ∷ []) ≡ 1
first_is_low = refl

last_is_high : row (false ∷ true ∷ []) ≡ 2
last_is_high = refl

-- NAND2, row 0 first
nand : table_value (true ∷ true ∷ true ∷ false ∷ []) (true ∷ true ∷ []) ≡ false
nand = refl

-- A NOT B: with A alone the row is 1
and_not : table_value (false ∷ true ∷ false ∷ false ∷ []) (true ∷ false ∷ []) ≡ true
and_not = refl

-- with the last bit lowest it would be row 2, where A NOT B is 0
row_from_last : List Bool → ℕ
row_from_last bs = row (reversed bs [])
  where
    reversed : List Bool → List Bool → List Bool
    reversed [] ys = ys
    reversed (x ∷ xs) ys = reversed xs (x ∷ ys)

not_from_last : slice_index_or (false ∷ true ∷ false ∷ false ∷ []) (row_from_last (true ∷ false ∷ [])) false ≢ table_value (false ∷ true ∷ false ∷ false ∷ []) (true ∷ false ∷ [])
unfolding row_from_last
not_from_last e = true≢false (sym e)

-- ---- the netlist

abbrev half_adder : Part
half_adder = (
  Gate (codes "A" ∷ codes "B" ∷ []) ((codes "C", false ∷ false ∷ false ∷ true ∷ []) ∷ (codes "S", false ∷ true ∷ true ∷ false ∷ []) ∷ []),
  (codes "A", codes "a") ∷ (codes "B", codes "q") ∷ (codes "C", codes "carry") ∷ (codes "S", codes "sum") ∷ [],
)

abbrev register : Part
register = (Boxed ((codes "D", Input) ∷ (codes "Q", Output) ∷ []), (codes "D", codes "sum") ∷ (codes "Q", codes "q") ∷ [])

abbrev tie : Part
tie = (Gate [] ((codes "Y", true ∷ []) ∷ []), (codes "Y", codes "hi") ∷ [])

abbrev inverter : Part
inverter = (Gate (codes "A" ∷ []) ((codes "Y", true ∷ false ∷ []) ∷ []), (codes "Y", codes "pad") ∷ [])

abbrev pad : Part
pad = (Boxed ((codes "IO", Inout) ∷ []), (codes "IO", codes "io") ∷ [])

abbrev lists : Lists
lists = record {
  nets = (codes "vss", Some false) ∷ (codes "hi", None) ∷ (codes "a", None) ∷ (codes "q", None) ∷ (codes "sum", None) ∷ (codes "carry", None) ∷ (codes "pad", None) ∷ (codes "io", None) ∷ (codes "bus", None) ∷ [];
  comps = (codes "u1", half_adder) ∷ (codes "r1", register) ∷ (codes "t1", tie) ∷ (codes "i1", inverter) ∷ (codes "p1", pad) ∷ [];
  tops = (codes "a", record { dir = Input; net = codes "a" }) ∷ (codes "s", record { dir = Output; net = codes "sum" }) ∷ (codes "pad", record { dir = Inout; net = codes "pad" }) ∷ (codes "bus", record { dir = Inout; net = codes "bus" }) ∷ [];
  ties = codes "vss" ∷ codes "hi" ∷ [];
  reserved = [];
}

abbrev N : Netlist
N = made lists

-- ---- drivers

a_driver : IsDriver N (codes "a") (TopPin (codes "a"))
a_driver = driver_by lists (codes "a") (TopPin (codes "a")) refl refl

q_driver : IsDriver N (codes "q") (CompPin (codes "r1") (codes "Q"))
q_driver = driver_by lists (codes "q") (CompPin (codes "r1") (codes "Q")) refl refl

sum_driver : IsDriver N (codes "sum") (CompPin (codes "u1") (codes "S"))
sum_driver = driver_by lists (codes "sum") (CompPin (codes "u1") (codes "S")) refl refl

carry_driver : IsDriver N (codes "carry") (CompPin (codes "u1") (codes "C"))
carry_driver = driver_by lists (codes "carry") (CompPin (codes "u1") (codes "C")) refl refl

high_driver : IsDriver N (codes "hi") (CompPin (codes "t1") (codes "Y"))
high_driver = driver_by lists (codes "hi") (CompPin (codes "t1") (codes "Y")) refl refl

io_driver : IsDriver N (codes "io") (CompPin (codes "p1") (codes "IO"))
io_driver = driver_by lists (codes "io") (CompPin (codes "p1") (codes "IO")) refl refl

bus_driver : IsDriver N (codes "bus") (TopPin (codes "bus"))
bus_driver = driver_by lists (codes "bus") (TopPin (codes "bus")) refl refl

pad_by_gate : driven N (CompPin (codes "i1") (codes "Y")) ≡ Some (codes "pad")
pad_by_gate = driven_made lists (CompPin (codes "i1") (codes "Y"))

pad_by_top : driven N (TopPin (codes "pad")) ≡ Some (codes "pad")
pad_by_top = driven_made lists (TopPin (codes "pad"))

other_pins : CompPin (codes "i1") (codes "Y") ≢ TopPin (codes "pad")
other_pins e = cc

-- an output of the chip drives nothing
no_drive : driven N (TopPin (codes "s")) ≡ None
no_drive = driven_made lists (TopPin (codes "s"))

-- nor does an unconnected pin
no_net : driven N (CompPin (codes "i1") (codes "A")) ≡ None
no_net = driven_made lists (CompPin (codes "i1") (codes "A"))

-- pad has two driving pins
no_pad_driver : (p : Pin) → IsDriver N (codes "pad") p → ⊥
no_pad_driver p d = other_pins (d.only _ pad_by_gate ∙ sym (d.only _ pad_by_top))

-- ---- computed and free nets

sum_computed : Computed N (codes "sum") (false ∷ true ∷ true ∷ false ∷ []) (Some (codes "a") ∷ Some (codes "q") ∷ [])
sum_computed = computed_by lists (codes "sum") (codes "u1") (codes "S") half_adder (false ∷ true ∷ true ∷ false ∷ []) refl sum_driver refl refl

carry_computed : Computed N (codes "carry") (false ∷ false ∷ false ∷ true ∷ []) (Some (codes "a") ∷ Some (codes "q") ∷ [])
carry_computed = computed_by lists (codes "carry") (codes "u1") (codes "C") half_adder (false ∷ false ∷ false ∷ true ∷ []) refl carry_driver refl refl

high_computed : Computed N (codes "hi") (true ∷ []) []
high_computed = computed_by lists (codes "hi") (codes "t1") (codes "Y") tie (true ∷ []) refl high_driver refl refl

a_free : IsFree N (codes "a")
a_free = free_top N (codes "a") (codes "a") (net_made lists (codes "a")) a_driver

q_free : IsFree N (codes "q")
q_free = free_box N (codes "q") (codes "r1") (codes "Q") (component register) Output (net_made lists (codes "q")) q_driver (comp_made lists (codes "r1")) refl

pad_free : IsFree N (codes "pad")
pad_free = free_several N (codes "pad") (CompPin (codes "i1") (codes "Y")) (TopPin (codes "pad")) (net_made lists (codes "pad")) pad_by_gate pad_by_top other_pins

io_free : IsFree N (codes "io")
io_free = free_box N (codes "io") (codes "p1") (codes "IO") (component pad) Inout (net_made lists (codes "io")) io_driver (comp_made lists (codes "p1")) refl

bus_free : IsFree N (codes "bus")
bus_free = free_top N (codes "bus") (codes "bus") (net_made lists (codes "bus")) bus_driver

-- ---- cut keys

a_key : KeyOf N (codes "a") (PinKey (TopPin (codes "a")))
a_key = (a_driver, ap is_source_top (top_made lists (codes "a")))

q_key : KeyOf N (codes "q") (PinKey (CompPin (codes "r1") (codes "Q")))
q_key = (q_driver, ap (λ o. is_source_at o (codes "Q")) (comp_made lists (codes "r1")))

pad_key : KeyOf N (codes "pad") (NetKey (codes "pad"))
pad_key = (refl, λ p d s. no_pad_driver p d)

-- INOUT pins are no keys, though each is the only driving pin of its net
bus_key : KeyOf N (codes "bus") (NetKey (codes "bus"))
bus_key = (refl, λ p d s. true≢false (sym s ∙ ap (is_source_pin N) (bus_driver.only p d.drives) ∙ ap is_source_top (top_made lists (codes "bus"))))

io_key : KeyOf N (codes "io") (NetKey (codes "io"))
io_key = (refl, λ p d s. true≢false (sym s ∙ ap (is_source_pin N) (io_driver.only p d.drives) ∙ ap (λ o. is_source_at o (codes "IO")) (comp_made lists (codes "p1"))))

cut_keys : IsCutKey N (PinKey (TopPin (codes "a"))) × (IsCutKey N (PinKey (CompPin (codes "r1") (codes "Q"))) × IsCutKey N (NetKey (codes "pad")))
cut_keys = ((codes "a", a_free, a_key), ((codes "q", q_free, q_key), (codes "pad", pad_free, pad_key)))

-- ---- observables

sum_observed : IsObservable N (TopPin (codes "s"))
sum_observed = subst ObservedTop (sym (top_made lists (codes "s"))) (λ e. output_input e)
  where
    output_input : Output ≡ Input → ⊥
    output_input e = cc

at_register : IsObservable N (CompPin (codes "r1") (codes "D"))
at_register = subst (λ o. ObservedAt N o (codes "D")) (sym (comp_made lists (codes "r1"))) tt

at_inverter : IsObservable N (CompPin (codes "i1") (codes "Y"))
at_inverter = subst (λ o. ObservedAt N o (codes "Y")) (sym (comp_made lists (codes "i1"))) (subst (λ n. ObservedRole N (Some (GateOutput (true ∷ false ∷ []))) n) (sym (joined_made inverter (codes "Y"))) pad_free)

at_pad : IsObservable N (CompPin (codes "p1") (codes "IO"))
at_pad = subst (λ o. ObservedAt N o (codes "IO")) (sym (comp_made lists (codes "p1"))) tt

at_inout : IsObservable N (TopPin (codes "pad"))
at_inout = subst ObservedTop (sym (top_made lists (codes "pad"))) (λ e. inout_input e)
  where
    inout_input : Inout ≡ Input → ⊥
    inout_input e = cc

not_at_input : IsObservable N (TopPin (codes "a")) → ⊥
not_at_input h = subst ObservedTop (top_made lists (codes "a")) h refl

not_at_gate_input : IsObservable N (CompPin (codes "u1") (codes "A")) → ⊥
not_at_gate_input h = subst (λ o. ObservedAt N o (codes "A")) (comp_made lists (codes "u1")) h

-- an output of a gate on a computed net is none
not_at_adder : IsObservable N (CompPin (codes "u1") (codes "S")) → ⊥
not_at_adder h = (subst (λ n. ObservedRole N (Some (GateOutput (false ∷ true ∷ true ∷ false ∷ []))) n) (joined_made half_adder (codes "S")) (subst (λ o. ObservedAt N o (codes "S")) (comp_made lists (codes "u1")) h)).1 (_, _, sum_computed)

-- nor is an output of a box
not_at_output : IsObservable N (CompPin (codes "r1") (codes "Q")) → ⊥
not_at_output h = subst (λ o. ObservedAt N o (codes "Q")) (comp_made lists (codes "r1")) h

-- ---- it is whole, without loops and one gate deep

four_rows : (o : Name × List Bool) → Has ((codes "C", false ∷ false ∷ false ∷ true ∷ []) ∷ (codes "S", false ∷ true ∷ true ∷ false ∷ []) ∷ []) o → length o.1 ≡ 4
four_rows o (inl e) = subst (λ z. length z.1 ≡ 4) e refl
four_rows o (inr (inl e)) = subst (λ z. length z.1 ≡ 4) e refl
four_rows o (inr (inr h)) = absurd h

one_row : (o : Name × List Bool) → Has ((codes "Y", true ∷ []) ∷ []) o → length o.1 ≡ 1
one_row o (inl e) = subst (λ z. length z.1 ≡ 1) e refl
one_row o (inr h) = absurd h

two_rows : (o : Name × List Bool) → Has ((codes "Y", true ∷ false ∷ []) ∷ []) o → length o.1 ≡ 2
two_rows o (inl e) = subst (λ z. length z.1 ≡ 2) e refl
two_rows o (inr h) = absurd h

each_fits : EachFits lists.comps
unfolding IsDistinct
each_fits = (
  (((refl, (refl, (refl, tt))), ((refl, (refl, tt)), ((refl, tt), (tt, tt)))), λ o c. four_rows o (has_from_contains ((codes "C", false ∷ false ∷ false ∷ true ∷ []) ∷ (codes "S", false ∷ true ∷ true ∷ false ∷ []) ∷ []) o c), refl),
  (
    (((refl, tt), (tt, tt)), tt, refl),
    (
      ((tt, tt), λ o c. one_row o (has_from_contains ((codes "Y", true ∷ []) ∷ []) o c), refl),
      ((((refl, tt), (tt, tt)), λ o c. two_rows o (has_from_contains ((codes "Y", true ∷ false ∷ []) ∷ []) o c), refl), (((tt, tt), tt, refl), tt)),
    ),
  ),
)

whole : IsWellFormed N
whole = whole_by lists each_fits refl refl

not_computed : EachReads (λ n. IsComputed N n → ⊥) lists.comps
not_computed = (both, (none, (none, (one, (none, tt)))))
  where
    both : (n : Name) → Has (Some (codes "a") ∷ Some (codes "q") ∷ []) (Some n) → IsComputed N n → ⊥
    both n (inl e) m = a_free.1 (subst (IsComputed N) (sym (same_Some e)) m)
    both n (inr (inl e)) m = q_free.1 (subst (IsComputed N) (sym (same_Some e)) m)
    both n (inr (inr h)) m = h

    none : (n : Name) → Has [] (Some n) → IsComputed N n → ⊥
    none n h m = h

    one : (n : Name) → Has (None ∷ []) (Some n) → IsComputed N n → ⊥
    one n (inl e) m = not_None (sym e)
    one n (inr h) m = h

no_reads : (a b : Name) → ReadsNet N a b → ⊥
no_reads a b r = reads_by lists (λ n. IsComputed N n → ⊥) not_computed r.to.comp r.to.gate r.to.is a (subst (λ ins. Contains ins (Some a)) (sym r.to.reads) r.reads) r.from

loop_free : IsLoopFree N
loop_free a k w = no_reads w.0 a w.2

has_one_valuation : HasOneValuation N
has_one_valuation = one_valuation N loop_free

one_deep : IsDepth N 1
one_deep = record {
  reached = inr (codes "u1", record { gate = component half_adder; inputs = _; outputs = _; is = comp_made lists (codes "u1"); kind = refl }, 0, refl, tt);
  greatest = λ c k g b. at_most c k b;
}
  where
    at_most : (c : Name) (k : ℕ) → Behind N c k → k < 1
    at_most c zero b = omega arith
    at_most c (suc k) b = let f = b.1 in absurd (reads_by lists (λ n. IsComputed N n → ⊥) not_computed c f.gate f.is f.net f.reads (f.table, f.inputs, f.computed))

-- the register's input is a sink of the sum, the half adder's output is not
register_sink : IsSink N (codes "sum") (CompPin (codes "r1") (codes "D"))
register_sink = (
  ap (λ o. joined_at o (codes "D")) (comp_made lists (codes "r1")) ∙ joined_made register (codes "D"),
  λ d. let e : CompPin (codes "r1") (codes "D") ≡ CompPin (codes "u1") (codes "S") = sum_driver.only _ d.drives in r1_not_u1 (same_comp e),
)
  where
    r1_not_u1 : codes "r1" ≡ codes "u1" → ⊥
    r1_not_u1 e = let f : 114 ≡ 117 = same_head {xs = 49 ∷ []} {ys = 49 ∷ []} e in omega (arith, f)

adder_no_sink : IsSink N (codes "sum") (CompPin (codes "u1") (codes "S")) → ⊥
adder_no_sink s = s.1 sum_driver

-- ---- values

module _ (cut : CutBits) (v : Valuation) (is : IsValuation N cut v) (x z : Bool) (a_bit : get cut (PinKey (TopPin (codes "a"))) ≡ Some x) (q_bit : get cut (PinKey (CompPin (codes "r1") (codes "Q"))) ≡ Some z) where
  low_is : get v (codes "vss") ≡ Some false
  low_is = is.supplied (codes "vss") false (net_made lists (codes "vss"))

  high_is : get v (codes "hi") ≡ Some true
  high_is = is.computed (codes "hi") _ _ high_computed

  a_is : get v (codes "a") ≡ Some x
  a_is = is.free (codes "a") (PinKey (TopPin (codes "a"))) a_free a_key ∙ a_bit

  q_is : get v (codes "q") ≡ Some z
  q_is = is.free (codes "q") (PinKey (CompPin (codes "r1") (codes "Q"))) q_free q_key ∙ q_bit

  reads_both : map (read v) (Some (codes "a") ∷ Some (codes "q") ∷ []) ≡ x ∷ z ∷ []
  reads_both = ap₂ {C = List Bool} (λ b c. b ∷ c ∷ []) (ap (λ o. unwrap_or o false) a_is) (ap (λ o. unwrap_or o false) q_is)

  -- the sum is the first bit of x + z, the carry the second
  sum_is : get v (codes "sum") ≡ Some (table_value (false ∷ true ∷ true ∷ false ∷ []) (x ∷ z ∷ []))
  sum_is = is.computed (codes "sum") _ _ sum_computed ∙ ap (λ bs. Some (table_value (false ∷ true ∷ true ∷ false ∷ []) bs)) reads_both

  carry_is : get v (codes "carry") ≡ Some (table_value (false ∷ false ∷ false ∷ true ∷ []) (x ∷ z ∷ []))
  carry_is = is.computed (codes "carry") _ _ carry_computed ∙ ap (λ bs. Some (table_value (false ∷ false ∷ false ∷ true ∷ []) bs)) reads_both

  -- what the register reads
  register_is : observed N v (CompPin (codes "r1") (codes "D")) ≡ table_value (false ∷ true ∷ true ∷ false ∷ []) (x ∷ z ∷ [])
  register_is = ap (λ o. pin_value v o (codes "D")) (comp_made lists (codes "r1")) ∙ ap (read v) (joined_made register (codes "D")) ∙ ap (λ o. unwrap_or o false) sum_is

  -- the inverter reads 0 on no net, whatever is on pad
  inverter_is : observed N v (CompPin (codes "i1") (codes "Y")) ≡ true
  inverter_is = ap (λ o. pin_value v o (codes "Y")) (comp_made lists (codes "i1")) ∙ ap (λ ins. table_value (true ∷ false ∷ []) (map (read v) ins)) (inputs_made inverter)

both_high : table_value (false ∷ true ∷ true ∷ false ∷ []) (true ∷ true ∷ []) ≡ false
both_high = refl

one_high : table_value (false ∷ true ∷ true ∷ false ∷ []) (true ∷ false ∷ []) ≡ true
one_high = refl
