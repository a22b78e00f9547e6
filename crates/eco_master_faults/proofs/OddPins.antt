-- The pins that differ, by tests and by what the lists have.
use Rattle.std.proofs.Common.{◌≡◌, ℕ, ◌+◌, ◌<◌, length, take, get_or, Bool, true, false, not, ◌&&◌, ◌||◌, ◌⊎◌, List, [], ◌∷◌, ◌++◌, map, refl, sym, ap, subst, ◌∙◌, inl, inr, ⊎_elim, true≢false, cond}
use Rattle.std.specs.List.{list_any, filter}
use Rattle.std.specs.Str.{bytes_eq}
use Rattle.std.proofs.lemmas.List.{map-append, take_more}
use Rattle.std.proofs.lemmas.List.Elements.{filter-append}
use Rattle.std.proofs.lemmas.Slice.Eq.{bytes_eq-Decides}
use Rattle.eco_common.specs.declared.geometry.Dir.{Dir}
use Rattle.eco_common.specs.declared.geometry.Dir.TheVariants.{Input, Output, Inout}
use Rattle.eco_func.specs.declared.output.OutputFn.{OutputFn}
use Rattle.eco_func.specs.Masters.{MasterTables}
use Rattle.eco_lef.specs.declared.master.Master.{Master}
use Rattle.eco_lef.specs.declared.master.MasterPin.{MasterPin}
use Rattle.eco_net.specs.Among.{Has}
use Rattle.eco_net.specs.Netlist.{Name}
use Rattle.eco_net.proofs.Basics.{has_append_left, has_append_right, has_map, has_of_map}
use Rattle.eco_net.proofs.AllPins.{split_has}
use Rattle.eco_master_faults.specs.Tables.{library_pins, signal_pins}
use Rattle.eco_master_faults.specs.Differing.{function_pins, PinDiffers}
use Rattle.eco_master_faults.specs.Odd.{same_dir, is_signal, has_pin, lists, is_odd, odd_pins, odd_names, odd}

-- ---- tests

so_or_not : (b : Bool) → (b ≡ true) ⊎ (b ≡ false)
so_or_not true = inl refl
so_or_not false = inr refl

not_so : (b : Bool) → not b ≡ true → b ≡ false
not_so true e = sym e
not_so false e = refl

so_not : (b : Bool) → b ≡ false → not b ≡ true
so_not b e = ap not e

left_so : (b c : Bool) → (b && c) ≡ true → b ≡ true
left_so true c e = refl
left_so false c e = e

right_so : (b c : Bool) → (b && c) ≡ true → c ≡ true
right_so true c e = e
right_so false c e = absurd (true≢false (sym e))

both_so : (b c : Bool) → b ≡ true → c ≡ true → (b && c) ≡ true
both_so b c e f = ap (λ x. x && c) e ∙ f

never : (b : Bool) → (b ≡ true → ⊥) → b ≡ false
never true h = absurd (h refl)
never false h = refl

clash : (b : Bool) → b ≡ true → b ≡ false → ⊥
clash b e f = true≢false (sym e ∙ f)

-- ---- lists

any_has : {A : Type 0} (p : A → Bool) (xs : List A) → list_any p xs ≡ true → (x : A) × Has xs x × (p x ≡ true)
any_has p [] e = absurd (true≢false (sym e))
any_has {A = A} p (y ∷ ys) e = go (p y) refl (λ f. any_has p ys f) e
  where
    go : (b : Bool) → p y ≡ b → (list_any p ys ≡ true → (x : A) × Has ys x × (p x ≡ true)) → (b || list_any p ys) ≡ true → (x : A) × Has (y ∷ ys) x × (p x ≡ true)
    go true s rest e = (y, inl refl, s)
    go false s rest e = let r = rest e in (r.0, inr r.1, r.2)

has_any : {A : Type 0} (p : A → Bool) (xs : List A) (x : A) → Has xs x → p x ≡ true → list_any p xs ≡ true
has_any p [] x h e = absurd h
has_any p (y ∷ ys) x (inl s) e = ap (λ b. b || list_any p ys) (ap p s ∙ e)
has_any p (y ∷ ys) x (inr h) e = go (p y) (has_any p ys x h e)
  where
    go : (b : Bool) → list_any p ys ≡ true → (b || list_any p ys) ≡ true
    go true rest = refl
    go false rest = rest

has_filter : {A : Type 0} (p : A → Bool) (xs : List A) (x : A) → Has xs x → p x ≡ true → Has (filter p xs) x
has_filter p [] x h e = absurd h
has_filter p (y ∷ ys) x (inl s) e = subst (λ b. Has (cond b (y ∷ filter p ys) (filter p ys)) x) (sym (ap p s ∙ e)) (inl s)
has_filter p (y ∷ ys) x (inr h) e = go (p y) (has_filter p ys x h e)
  where
    go : (b : Bool) → Has (filter p ys) x → Has (cond b (y ∷ filter p ys) (filter p ys)) x
    go true rest = inr rest
    go false rest = rest

has_of_filter : {A : Type 0} (p : A → Bool) (xs : List A) (x : A) → Has (filter p xs) x → Has xs x × (p x ≡ true)
has_of_filter p [] x h = absurd h
has_of_filter p (y ∷ ys) x h = go (p y) refl (λ i. has_of_filter p ys x i) h
  where
    go : (b : Bool) → p y ≡ b → (Has (filter p ys) x → Has ys x × (p x ≡ true)) → Has (cond b (y ∷ filter p ys) (filter p ys)) x → Has (y ∷ ys) x × (p x ≡ true)
    go true s rest (inl e) = (inl e, sym (ap p e) ∙ s)
    go true s rest (inr h) = let r = rest h in (inr r.0, r.1)
    go false s rest h = let r = rest h in (inr r.0, r.1)

-- ---- directions

same_dir_is : (a b : Dir) → same_dir a b ≡ true → a ≡ b
same_dir_is Input Input e = refl
same_dir_is Input Output e = absurd (true≢false (sym e))
same_dir_is Input Inout e = absurd (true≢false (sym e))
same_dir_is Output Input e = absurd (true≢false (sym e))
same_dir_is Output Output e = refl
same_dir_is Output Inout e = absurd (true≢false (sym e))
same_dir_is Inout Input e = absurd (true≢false (sym e))
same_dir_is Inout Output e = absurd (true≢false (sym e))
same_dir_is Inout Inout e = refl

same_dir_itself : (a : Dir) → same_dir a a ≡ true
same_dir_itself Input = refl
same_dir_itself Output = refl
same_dir_itself Inout = refl

-- ---- listed pins

as_input : Name → Name × Dir
as_input n = (n, Input)

as_output : OutputFn → Name × Dir
as_output o = (o.pin, Output)

pub lists_has : (t : MasterTables) (n : Name) (d : Dir) → lists t n d ≡ true → Has (function_pins t) (n, d)
lists_has t n Input e =
    let r = any_has (bytes_eq n) t.inputs e in
    let h : Has (map {B = Name × Dir} (λ k. (k, Input)) t.inputs) (r.0, Input) = has_map (λ k. (k, Input)) t.inputs r.0 r.1 in
    has_append_left _ _ (n, Input) (subst (λ (k : Name). Has (map {B = Name × Dir} (λ k. (k, Input)) t.inputs) (k, Input)) (sym ((bytes_eq-Decides n r.0).0 r.2)) h)
lists_has t n Output e =
    let r = any_has (λ (o : OutputFn). bytes_eq n o.pin) t.outputs e in
    let h : Has (map {B = Name × Dir} (λ o. (o.pin, Output)) t.outputs) (r.0.pin, Output) = has_map (λ o. (o.pin, Output)) t.outputs r.0 r.1 in
    has_append_right _ _ (n, Output) (subst (λ (k : Name). Has (map {B = Name × Dir} (λ o. (o.pin, Output)) t.outputs) (k, Output)) (sym ((bytes_eq-Decides n r.0.pin).0 r.2)) h)
lists_has t n Inout e = absurd (true≢false (sym e))

-- a listed pin is an input or an output
listed_as : (t : MasterTables) (n : Name) (d : Dir) → Has (function_pins t) (n, d) →
    (Has t.inputs n × (Input ≡ d)) ⊎ (Has (map (λ o. o.pin) t.outputs) n × (Output ≡ d))
listed_as t n d h = ⊎_elim input output (split_has (map {B = Name × Dir} (λ k. (k, Input)) t.inputs) (map {B = Name × Dir} (λ o. (o.pin, Output)) t.outputs) (n, d) h)
  where
    input : Has (map {B = Name × Dir} (λ k. (k, Input)) t.inputs) (n, d) → (Has t.inputs n × (Input ≡ d)) ⊎ (Has (map (λ o. o.pin) t.outputs) n × (Output ≡ d))
    input a =
        let r = has_of_map {B = Name × Dir} (λ k. (k, Input)) t.inputs (n, d) a in
        inl (subst (Has t.inputs) (ap (λ (p : Name × Dir). p.0) r.2) r.1, ap (λ (p : Name × Dir). p.1) r.2)

    output : Has (map {B = Name × Dir} (λ o. (o.pin, Output)) t.outputs) (n, d) → (Has t.inputs n × (Input ≡ d)) ⊎ (Has (map (λ o. o.pin) t.outputs) n × (Output ≡ d))
    output a =
        let r = has_of_map {B = Name × Dir} (λ o. (o.pin, Output)) t.outputs (n, d) a in
        inr (subst (Has (map (λ o. o.pin) t.outputs)) (ap (λ (p : Name × Dir). p.0) r.2) (has_map (λ o. o.pin) t.outputs r.0 r.1), ap (λ (p : Name × Dir). p.1) r.2)

input_listed : (t : MasterTables) (n : Name) → Has t.inputs n → lists t n Input ≡ true
input_listed t n h = has_any (bytes_eq n) t.inputs n h ((bytes_eq-Decides n n).1 refl)

output_listed : (t : MasterTables) (n : Name) → Has (map (λ o. o.pin) t.outputs) n → lists t n Output ≡ true
output_listed t n h =
    let r = has_of_map (λ (o : OutputFn). o.pin) t.outputs n h in
    has_any (λ (o : OutputFn). bytes_eq n o.pin) t.outputs r.0 r.1 ((bytes_eq-Decides n r.0.pin).1 (sym r.2))

pub has_lists : (t : MasterTables) (n : Name) (d : Dir) → Has (function_pins t) (n, d) → lists t n d ≡ true
has_lists t n d h =
    ⊎_elim
    (λ a. subst (λ k. lists t n k ≡ true) a.1 (input_listed t n a.0))
    (λ a. subst (λ k. lists t n k ≡ true) a.1 (output_listed t n a.0))
    (listed_as t n d h)

-- ---- the library's pins

pub pin_has : (m : Master) (n : Name) (d : Dir) → has_pin m n d ≡ true → Has (library_pins m) (n, d)
pin_has m n d e =
    let r = any_has (is_signal n d) m.pins e in
    let p = r.0 in
    let both = left_so (not p.supply && same_dir p.dir d) (bytes_eq p.name n) r.2 in
    let name : p.name ≡ n = (bytes_eq-Decides p.name n).0 (right_so (not p.supply && same_dir p.dir d) (bytes_eq p.name n) r.2) in
    let dir : p.dir ≡ d = same_dir_is p.dir d (right_so (not p.supply) (same_dir p.dir d) both) in
    let among = has_filter (λ (q : MasterPin). not q.supply) m.pins p r.1 (left_so (not p.supply) (same_dir p.dir d) both) in
    let h : Has (library_pins m) (p.name, p.dir) = has_map (λ (q : MasterPin). (q.name, q.dir)) (signal_pins m) p among in
    subst (λ (x : Name × Dir). Has (library_pins m) x) (λ i. (name i, dir i)) h

-- a pin of the library in a netlist
pinned : (m : Master) (n : Name) (d : Dir) → Has (library_pins m) (n, d) → (p : MasterPin) × Has m.pins p × (not p.supply ≡ true) × (p.name ≡ n) × (p.dir ≡ d)
pinned m n d h =
    let r = has_of_map {B = Name × Dir} (λ (q : MasterPin). (q.name, q.dir)) (signal_pins m) (n, d) h in
    let f = has_of_filter (λ (q : MasterPin). not q.supply) m.pins r.0 r.1 in
    (r.0, f.0, f.1, ap (λ (x : Name × Dir). x.0) r.2, ap (λ (x : Name × Dir). x.1) r.2)

pub has_a_pin : (m : Master) (n : Name) (d : Dir) → Has (library_pins m) (n, d) → has_pin m n d ≡ true
has_a_pin m n d h =
    let r = pinned m n d h in
    let p = r.0 in
    has_any (is_signal n d) m.pins p r.1
    (both_so (not p.supply && same_dir p.dir d) (bytes_eq p.name n)
    (both_so (not p.supply) (same_dir p.dir d) r.2 (ap (same_dir p.dir) (sym r.4) ∙ same_dir_itself p.dir))
    ((bytes_eq-Decides p.name n).1 r.3))

-- ---- one pin, and one more

pub odd_pin : (t : MasterTables) (p : MasterPin) → is_odd t p ≡ true → odd_pins t (p ∷ []) ≡ p.name ∷ []
odd_pin t p e = ap (λ b. map (λ (q : MasterPin). q.name) (cond b (p ∷ []) [])) e

pub even_pin : (t : MasterTables) (p : MasterPin) → is_odd t p ≡ false → odd_pins t (p ∷ []) ≡ []
even_pin t p e = ap (λ b. map (λ (q : MasterPin). q.name) (cond b (p ∷ []) [])) e

pub odd_name : (m : Master) (d : Dir) (n : Name) → has_pin m n d ≡ false → odd_names m d (n ∷ []) ≡ n ∷ []
odd_name m d n e = ap (λ b. cond (not b) (n ∷ []) []) e

pub even_name : (m : Master) (d : Dir) (n : Name) → has_pin m n d ≡ true → odd_names m d (n ∷ []) ≡ []
even_name m d n e = ap (λ b. cond (not b) (n ∷ []) []) e

pub odd_pins_more : (t : MasterTables) (ps : List MasterPin) (i : ℕ) (p : MasterPin) → i < length ps → p ≡ get_or ps i p → odd_pins t (take (i + 1) ps) ≡ odd_pins t (take i ps) ++ odd_pins t (p ∷ [])
odd_pins_more t ps i p l e =
    ap (odd_pins t) (take_more ps i p l ∙ ap (λ x. take i ps ++ x ∷ []) (sym e))
    ∙ ap (map (λ (q : MasterPin). q.name)) (filter-append (is_odd t) (take i ps) (p ∷ []))
    ∙ map-append (λ (q : MasterPin). q.name) (filter (is_odd t) (take i ps)) _

pub odd_names_append : (m : Master) (d : Dir) (xs ys : List Name) → odd_names m d (xs ++ ys) ≡ odd_names m d xs ++ odd_names m d ys
odd_names_append m d xs ys = filter-append (λ n. not (has_pin m n d)) xs ys

pub odd_names_more : (m : Master) (d : Dir) (ns : List Name) (i : ℕ) (n : Name) → i < length ns → n ≡ get_or ns i n → odd_names m d (take (i + 1) ns) ≡ odd_names m d (take i ns) ++ odd_names m d (n ∷ [])
odd_names_more m d ns i n l e =
    ap (odd_names m d) (take_more ns i n l ∙ ap (λ x. take i ns ++ x ∷ []) (sym e)) ∙ odd_names_append m d (take i ns) (n ∷ [])

pub odd_outputs_more : (m : Master) (d : Dir) (os : List OutputFn) (i : ℕ) (o : OutputFn) → i < length os → o ≡ get_or os i o →
    odd_names m d (map (λ k. k.pin) (take (i + 1) os)) ≡ odd_names m d (map (λ k. k.pin) (take i os)) ++ odd_names m d (o.pin ∷ [])
odd_outputs_more m d os i o l e =
    ap (λ xs. odd_names m d (map (λ (k : OutputFn). k.pin) xs)) (take_more os i o l ∙ ap (λ x. take i os ++ x ∷ []) (sym e))
    ∙ ap (odd_names m d) (map-append (λ (k : OutputFn). k.pin) (take i os) (o ∷ []))
    ∙ odd_names_append m d (map (λ (k : OutputFn). k.pin) (take i os)) (o.pin ∷ [])

-- ---- the pins that differ

unlisted_odd : (m : Master) (t : MasterTables) (n : Name) (d : Dir) → Has (library_pins m) (n, d) → (Has (function_pins t) (n, d) → ⊥) → Has (odd m t) n
unlisted_odd m t n d h out =
    let r = pinned m n d h in
    let p = r.0 in
    let same : lists t p.name p.dir ≡ lists t n d = λ i. lists t (r.3 i) (r.4 i) in
    let unlisted : lists t p.name p.dir ≡ false = never _ (λ e. out (lists_has t n d (sym same ∙ e))) in
    let among = has_filter (is_odd t) m.pins p r.1 (both_so (not p.supply) (not (lists t p.name p.dir)) r.2 (so_not _ unlisted)) in
    let named : Has (odd_pins t m.pins) n = subst (Has (odd_pins t m.pins)) r.3 (has_map (λ (q : MasterPin). q.name) (filter (is_odd t) m.pins) p among) in
    has_append_left (odd_pins t m.pins ++ odd_names m Input t.inputs) _ n (has_append_left (odd_pins t m.pins) _ n named)

absent : (m : Master) (d : Dir) (ns : List Name) (n : Name) → Has ns n → (Has (library_pins m) (n, d) → ⊥) → Has (odd_names m d ns) n
absent m d ns n h out = has_filter (λ k. not (has_pin m k d)) ns n h (so_not _ (never _ (λ e. out (pin_has m n d e))))

absent_odd : (m : Master) (t : MasterTables) (n : Name) (d : Dir) → Has (function_pins t) (n, d) → (Has (library_pins m) (n, d) → ⊥) → Has (odd m t) n
absent_odd m t n d h out =
    ⊎_elim
    (λ a. has_append_left (odd_pins t m.pins ++ odd_names m Input t.inputs) _ n (has_append_right (odd_pins t m.pins) _ n (absent m Input t.inputs n a.0 (λ b. out (subst (λ k. Has (library_pins m) (n, k)) a.1 b)))))
    (λ a. has_append_right (odd_pins t m.pins ++ odd_names m Input t.inputs) _ n (absent m Output (map (λ o. o.pin) t.outputs) n a.0 (λ b. out (subst (λ k. Has (library_pins m) (n, k)) a.1 b))))
    (listed_as t n d h)

pub differs_odd : (m : Master) (t : MasterTables) (n : Name) → PinDiffers m t n → Has (odd m t) n
differs_odd m t n (d, inl h) = unlisted_odd m t n d h.0 h.1
differs_odd m t n (d, inr h) = absent_odd m t n d h.0 h.1

pin_differs : (m : Master) (t : MasterTables) (n : Name) → Has (odd_pins t m.pins) n → PinDiffers m t n
pin_differs m t n h =
    let r = has_of_map (λ (q : MasterPin). q.name) (filter (is_odd t) m.pins) n h in
    let p = r.0 in
    let f = has_of_filter (is_odd t) m.pins p r.1 in
    let among = has_filter (λ (q : MasterPin). not q.supply) m.pins p f.0 (left_so (not p.supply) (not (lists t p.name p.dir)) f.1) in
    let here : Has (library_pins m) (p.name, p.dir) = has_map (λ (q : MasterPin). (q.name, q.dir)) (signal_pins m) p among in
    let unlisted : lists t p.name p.dir ≡ false = not_so _ (right_so (not p.supply) (not (lists t p.name p.dir)) f.1) in
    subst (PinDiffers m t) r.2 (p.dir, inl (here, λ b. clash _ (has_lists t p.name p.dir b) unlisted))

name_differs : (m : Master) (t : MasterTables) (d : Dir) (ns : List Name) → ((n : Name) → Has ns n → Has (function_pins t) (n, d)) → (n : Name) → Has (odd_names m d ns) n → PinDiffers m t n
name_differs m t d ns listed n h =
    let f = has_of_filter (λ k. not (has_pin m k d)) ns n h in
    (d, inr (listed n f.0, λ b. clash _ (has_a_pin m n d b) (not_so _ f.1)))

pub odd_differs : (m : Master) (t : MasterTables) (n : Name) → Has (odd m t) n → PinDiffers m t n
odd_differs m t n h =
    ⊎_elim
    (λ a. ⊎_elim
    (pin_differs m t n)
    (name_differs m t Input t.inputs (λ k i. lists_has t k Input (input_listed t k i)) n)
    (split_has (odd_pins t m.pins) (odd_names m Input t.inputs) n a))
    (name_differs m t Output (map (λ o. o.pin) t.outputs) (λ k i. lists_has t k Output (output_listed t k i)) n)
    (split_has (odd_pins t m.pins ++ odd_names m Input t.inputs) _ n h)
