-- Values by number that meet each net's equation are the valuation by names
use Rattle.std.proofs.Common.{◌≡◌, ◌≢◌, ℕ, zero, suc, ◌+◌, ◌<◌, Bool, true, false, cond, List, [], ◌∷◌, map, length, get_or, Option, Some, None, refl, sym, ap, ap₂, ◌∙◌, subst, arith, slice_get, is_some, is_eq}
use Rattle.std.specs.List.{filter_map, range_with_len, zip, cons_option}
use Rattle.std.specs.Option.{option_map, unwrap_or}
use Rattle.std.specs.Ordering.{eq_by_cmp}
use Rattle.std.specs.Cmp.{Equal-is, tied_itself}
use Rattle.std.specs.Cmp.Lexicographic.{nat_list_cmp_total}
use Rattle.std.specs.FinMap.{get, find, get-from_entries, contains_key}
use Rattle.std.proofs.lemmas.List.{length-map}
use Rattle.std.proofs.lemmas.Option.{slice_get_within, slice_get-get_or}
use Rattle.eco_net.specs.declared.rows.NetRow.{NetRow}
use Rattle.eco_net.specs.declared.cut.CutKey.{CutKey as KeyNumber}
use Rattle.eco_net.specs.Netlist.{Name, Netlist}
use Rattle.eco_net.specs.Drivers.{Computed, IsComputed, IsFree}
use Rattle.eco_net.specs.CutKeys.{CutKey, PinKey, NetKey, KeyOf, key_cmp}
use Rattle.eco_net.specs.Valuation.{IsValuation, table_value, read}
use Rattle.eco_net.specs.Listing.{Listing, netlist, net_names}
use Rattle.eco_net.specs.Kept.{IsListing}
use Rattle.eco_net.specs.Gates.{GatePin, computed_by, gate_inputs, inputs_at, input_count}
use Rattle.eco_net.specs.KeysOf.{key_at, keys_of, key_named}
use Rattle.eco_net.specs.ValuesOf.{valuation, cut_bits, keys_before, start_by, start_row, start, bit_of, by_role, computes, IsValued}
use Rattle.eco_net.proofs.Basics.{Has, same_Some, not_None, map_agree}
use Rattle.eco_net.proofs.Places.{at_place, row_of_name, name_of_row}
use Rattle.eco_net.proofs.Named.{net_is, net_found, find_at, found_at}
use Rattle.eco_net.proofs.PinNames.{net_name_is, same_net}
use Rattle.eco_net.proofs.GateNames.{nm, gate_is, GateIs, computed_named, named_computed, is_computed, at_has}
use Rattle.eco_net.proofs.InputPins.{taken_at}
use Rattle.eco_net.proofs.Keys.{key_cmp_total, key_cmp-IsAntisymmetric}
use Rattle.eco_net.proofs.KeyNames.{keyed, unkeyed}
use Rattle.eco_net.proofs.Solved.{one_key, one_table}

-- ---- zipped lists

zip_at : {A B : Type 0} (ks : List A) (vs : List B) (i : ℕ) (k : A) (v : B) → slice_get ks i ≡ Some k → slice_get vs i ≡ Some v → slice_get (zip ks vs) i ≡ Some (k, v)
zip_at [] vs i k v e f = absurd (not_None (sym e))
zip_at (x ∷ ks) [] i k v e f = absurd (not_None (sym f))
zip_at {A = A} {B = B} (x ∷ ks) (y ∷ vs) zero k v e f = ap₂ {C = Option (A × B)} (λ a b. Some (a, b)) (same_Some e) (same_Some f)
zip_at (x ∷ ks) (y ∷ vs) (suc i) k v e f = zip_at ks vs i k v e f

zip_names : {A B : Type 0} (ks : List A) (vs : List B) → length ks ≡ length vs → map (λ e. e.0) (zip ks vs) ≡ ks
zip_names [] vs e = refl
zip_names (x ∷ ks) [] e = absurd (omega (arith, e))
zip_names (x ∷ ks) (y ∷ vs) e = ap (λ xs. x ∷ xs) (zip_names ks vs (omega (arith, e)))

-- ---- keys in their order

pub same_key : (k l : CutKey) → eq_by_cmp key_cmp k l ≡ true → k ≡ l
same_key k l e = key_cmp-IsAntisymmetric k l ((Equal-is (key_cmp k l)).0 e)

key_itself : (k : CutKey) → eq_by_cmp key_cmp k k ≡ true
key_itself k = ap is_eq (tied_itself key_cmp_total k)

key_apart : (k l : CutKey) → k ≢ l → eq_by_cmp key_cmp k l ≡ false
key_apart k l n = go (eq_by_cmp key_cmp k l) refl
  where
    go : (t : Bool) → eq_by_cmp key_cmp k l ≡ t → t ≡ false
    go true e = absurd (n (same_key k l e))
    go false e = refl

one_net : (N : Netlist) (n m : Name) (key : CutKey) → KeyOf N n key → KeyOf N m key → n ≡ m
one_net N n m (PinKey p) a b = same_Some (sym a.0.drives ∙ b.0.drives)
one_net N n m (NetKey q) a b = sym a.0 ∙ b.0

-- how many keys the first i of these nets have
count : (ℕ → Option KeyNumber) → ℕ → ℕ → ℕ
count f a zero = 0
count f a (suc i) = length (cons_option (f a) []) + count f (a + 1) i

count_is : (f : ℕ → Option KeyNumber) (a i : ℕ) → length (filter_map f (range_with_len a i)) ≡ count f a i
unfolding count
count_is f a zero = refl
count_is f a (suc i) = go (f a) (count_is f (a + 1) i)
  where
    go : (o : Option KeyNumber) → length (filter_map f (range_with_len (a + 1) i)) ≡ count f (a + 1) i → length (cons_option o (filter_map f (range_with_len (a + 1) i))) ≡ length (cons_option o []) + count f (a + 1) i
    go None e = omega (arith, e)
    go (Some k) e = omega (arith, e)

module _ (L : Listing) (is : IsListing L) where
  -- ---- a net's bit

  module _ (vs : List Bool) (sized : length vs ≡ length L.nets) where
    names_long : length (net_names L) ≡ length vs
    names_long = length-map L.nets (λ r. r.name) ∙ sym sized

    name_at : (n : ℕ) (r : NetRow) → slice_get L.nets n ≡ Some r → slice_get (net_names L) n ≡ Some r.name
    name_at n r e = name_of_row (λ r. r.name) L.nets n r e

    pub value_at : (n : ℕ) (r : NetRow) (b : Bool) → slice_get L.nets n ≡ Some r → slice_get vs n ≡ Some b → get (valuation L vs) r.name ≡ Some b
    value_at n r b e f =
        let es = zip (net_names L) vs in
        get-from_entries nat_list_cmp_total es r.name
        ∙ find_at es n (r.name, b) (λ i j q x y. is.nets i j q (ap (λ ns. slice_get ns i) (sym (zip_names (net_names L) vs names_long)) ∙ x) (ap (λ ns. slice_get ns j) (sym (zip_names (net_names L) vs names_long)) ∙ y)) (zip_at (net_names L) vs n r.name b (name_at n r e) f)

    value_name : (q : Name) (b : Bool) → get (valuation L vs) q ≡ Some b → (s : Option Bool) × (get (netlist L).nets q ≡ Some s)
    value_name q b e =
        let es = zip (net_names L) vs in
        let w = found_at es q b (sym (get-from_entries nat_list_cmp_total es q) ∙ e) in
        let at : slice_get (net_names L) w.0 ≡ Some q = ap (λ ns. slice_get ns w.0) (sym (zip_names (net_names L) vs names_long)) ∙ name_of_row (λ e. e.0) es w.0 (q, b) w.1 in
        let r = row_of_name (λ r. r.name) L.nets w.0 q at in
        (r.0.supply, ap (get (netlist L).nets) (sym r.2) ∙ net_is L is w.0 r.0 r.1)

    known_bit : (n : ℕ) → n < length L.nets → slice_get vs n ≡ Some (get_or vs n false)
    known_bit n h = slice_get-get_or vs n false (omega (arith, h, sized))

    same_keys : (q : Name) → contains_key (valuation L vs) q ≡ contains_key (netlist L).nets q
    same_keys q = go (get (valuation L vs) q) refl (get (netlist L).nets q) refl
      where
        go : (o : Option Bool) → get (valuation L vs) q ≡ o → (p : Option (Option Bool)) → get (netlist L).nets q ≡ p → is_some (get (valuation L vs) q) ≡ is_some (get (netlist L).nets q)
        go None e None f = ap is_some e ∙ sym (ap is_some f)
        go (Some b) e (Some s) f = ap is_some e ∙ sym (ap is_some f)
        go (Some b) e None f = let w = value_name q b e in absurd (not_None (sym w.1 ∙ f))
        go None e (Some s) f =
            let w = net_found L is q s f in
            let h = slice_get_within L.nets w.0 w.1 w.2 in
            absurd (not_None (sym (value_at w.0 w.1 (get_or vs w.0 false) w.2 (known_bit w.0 h)) ∙ ap (get (valuation L vs)) w.3 ∙ e))

    -- what a gate's input reads
    read_is : (j : Option ℕ) → ((a : ℕ) → j ≡ Some a → a < length L.nets) → read (valuation L vs) (option_map (nm L is) j) ≡ bit_of vs j
    read_is None h = refl
    read_is (Some a) h =
        let k = h a refl in
        let r = at_place L.nets a k in
        ap (λ o. unwrap_or o false) (ap (get (valuation L vs)) (net_name_is L is a r.0 r.1) ∙ value_at a r.0 (get_or vs a false) r.1 (known_bit a k))

  inputs_known : (n : ℕ) (g : GatePin) → GateIs L n g → (j : Option ℕ) → Has (inputs_at L g.0.0) j → (a : ℕ) → j ≡ Some a → a < length L.nets
  inputs_known n g w j h a e =
      let p = at_has (inputs_at L g.0.0) j h in
      let q = taken_at (input_count w.comp.kind) w.comp.joined p.0 j (sym (ap (λ o. slice_get (gate_inputs o) p.0) w.at) ∙ p.1) in
      (is.rows g.0.0 w.comp w.at).known p.0 a (q.1 ∙ ap Some e)

  -- ---- a key's bit

  find_key : (a m i : ℕ) (key : KeyNumber) (bits : List Bool) → a + m ≡ length L.nets → i < m → key_at L (a + i) ≡ Some key → length bits ≡ length (filter_map (key_at L) (range_with_len a m)) → find key_cmp (key_named L key) (zip (map (key_named L) (filter_map (key_at L) (range_with_len a m))) bits) ≡ Some (get_or bits (count (key_at L) a i) false)
  unfolding count
  find_key a zero i key bits e h k l = absurd (omega (arith, h))
  find_key a (suc m) zero key bits e h k l = here (key_at L a) refl bits l
    where
      at : key_at L a ≡ Some key
      at = let z : a ≡ a + 0 = omega arith in ap (key_at L) z ∙ k

      here : (o : Option KeyNumber) → key_at L a ≡ o → (bits : List Bool) → length bits ≡ length (cons_option o (filter_map (key_at L) (range_with_len (a + 1) m))) → find key_cmp (key_named L key) (zip (map (key_named L) (cons_option o (filter_map (key_at L) (range_with_len (a + 1) m)))) bits) ≡ Some (get_or bits 0 false)
      here None f bits l = absurd (not_None (sym at ∙ f))
      here (Some x) f [] l = absurd (omega (arith, l))
      here (Some x) f (b ∷ bs) l =
          let s : x ≡ key = same_Some (sym f ∙ at) in
          ap (λ t. cond t (Some b) (find key_cmp (key_named L key) (zip (map (key_named L) (filter_map (key_at L) (range_with_len (a + 1) m))) bs))) (ap (λ y. eq_by_cmp key_cmp (key_named L key) (key_named L y)) s ∙ key_itself (key_named L key))
  find_key a (suc m) (suc i) key bits e h k l = later (key_at L a) refl bits l (λ bs. find_key (a + 1) m i key bs (omega (arith, e)) (omega (arith, h)) at)
    where
      at : key_at L ((a + 1) + i) ≡ Some key
      at = let z : (a + 1) + i ≡ a + suc i = omega arith in ap (key_at L) z ∙ k

      other : (x : KeyNumber) → key_at L a ≡ Some x → key_named L key ≢ key_named L x
      other x f s =
          let ka : a < length L.nets = omega (arith, e) in
          let ki : (a + 1) + i < length L.nets = omega (arith, e, h) in
          let p = keyed L is a ka x f in
          let q = keyed L is ((a + 1) + i) ki key at in
          let z : a ≡ (a + 1) + i = same_net L is a ((a + 1) + i) ka ki (one_net (netlist L) (nm L is a) (nm L is ((a + 1) + i)) (key_named L key) (subst (KeyOf (netlist L) (nm L is a)) (sym s) p.1) q.1) in
          omega (arith, z)

      later : (o : Option KeyNumber) → key_at L a ≡ o → (bits : List Bool) → length bits ≡ length (cons_option o (filter_map (key_at L) (range_with_len (a + 1) m))) → ((bs : List Bool) → length bs ≡ length (filter_map (key_at L) (range_with_len (a + 1) m)) → find key_cmp (key_named L key) (zip (map (key_named L) (filter_map (key_at L) (range_with_len (a + 1) m))) bs) ≡ Some (get_or bs (count (key_at L) (a + 1) i) false)) → find key_cmp (key_named L key) (zip (map (key_named L) (cons_option o (filter_map (key_at L) (range_with_len (a + 1) m)))) bits) ≡ Some (get_or bits (length (cons_option o []) + count (key_at L) (a + 1) i) false)
      later None f bits l r = let z : count (key_at L) (a + 1) i ≡ 0 + count (key_at L) (a + 1) i = omega arith in r bits l ∙ ap (λ n. Some (get_or bits n false)) z
      later (Some x) f [] l r = absurd (omega (arith, l))
      later (Some x) f (b ∷ bs) l r =
          let z : suc (count (key_at L) (a + 1) i) ≡ 1 + count (key_at L) (a + 1) i = omega arith in
          ap (λ t. cond t (Some b) (find key_cmp (key_named L key) (zip (map (key_named L) (filter_map (key_at L) (range_with_len (a + 1) m))) bs))) (key_apart (key_named L key) (key_named L x) (other x f))
          ∙ r bs (omega (arith, l))
          ∙ ap (λ n. Some (get_or (b ∷ bs) n false)) z

  pub key_bit : (bits : List Bool) → length bits ≡ length (keys_of L) → (n : ℕ) (key : KeyNumber) → n < length L.nets → key_at L n ≡ Some key → get (cut_bits L bits) (key_named L key) ≡ Some (get_or bits (keys_before L n) false)
  key_bit bits l n key h k =
      let z : 0 + n ≡ n = omega arith in
      get-from_entries key_cmp_total _ (key_named L key)
      ∙ find_key 0 (length L.nets) n key bits (omega arith) h (ap (key_at L) z ∙ k) l
      ∙ ap (λ i. Some (get_or bits i false)) (sym (count_is (key_at L) 0 n))

  -- ---- the valuation

  not_gate : (n : ℕ) (q : Name) → nm L is n ≡ q → (IsComputed (netlist L) q → ⊥) → computed_by L n ≡ None
  not_gate n q s f = go (computed_by L n) refl
    where
      go : (o : Option GatePin) → computed_by L n ≡ o → computed_by L n ≡ None
      go None e = e
      go (Some g) e = absurd (f (subst (IsComputed (netlist L)) s (is_computed L is n g e)))

  pub valued : (bits vs : List Bool) → length bits ≡ length (keys_of L) → IsValued L bits vs → IsValuation (netlist L) (cut_bits L bits) (valuation L vs)
  valued bits vs l v = record {
    keys = same_keys vs v.sized;
    supplied = λ q b e.
        let w = net_found L is q (Some b) e in
        let none : computed_by L w.0 ≡ None = not_gate w.0 q (net_name_is L is w.0 w.1 w.2 ∙ w.3) (λ m. not_None (sym (same_Some (sym m.2.unsupplied ∙ e)))) in
        ap (get (valuation L vs)) (sym w.3)
        ∙ value_at vs v.sized w.0 w.1 (start L bits w.0) w.2 (v.starts w.0 w.1 w.2 none)
        ∙ ap (λ o. Some (start_row o (key_at L w.0) (get_or bits (keys_before L w.0) false))) w.2
        ∙ ap (λ s. Some (start_by s (key_at L w.0) (get_or bits (keys_before L w.0) false))) w.4;
    free = λ q key f k. free_bit q key f k;
    computed = λ q t ins m. computed_bit q t ins m;
  }
    where
      free_bit : (q : Name) (key : CutKey) → IsFree (netlist L) q → KeyOf (netlist L) q key → get (valuation L vs) q ≡ get (cut_bits L bits) key
      free_bit q key f k = go (key_at L w.0) refl
        where
          w : (n : ℕ) × (r : NetRow) × (slice_get L.nets n ≡ Some r) × (r.name ≡ q) × (r.supply ≡ None)
          w = net_found L is q None f.0

          named : nm L is w.0 ≡ q
          named = net_name_is L is w.0 w.1 w.2 ∙ w.3

          h : w.0 < length L.nets
          h = slice_get_within L.nets w.0 w.1 w.2

          go : (o : Option KeyNumber) → key_at L w.0 ≡ o → get (valuation L vs) q ≡ get (cut_bits L bits) key
          go None e = absurd (unkeyed L is w.0 h e (subst (IsFree (netlist L)) (sym named) f))
          go (Some x) e =
              let y = keyed L is w.0 h x e in
              let same : key_named L x ≡ key = one_key (netlist L) q (key_named L x) key (subst (λ p. KeyOf (netlist L) p (key_named L x)) named y.1) k in
              ap (get (valuation L vs)) (sym w.3)
              ∙ value_at vs v.sized w.0 w.1 (start L bits w.0) w.2 (v.starts w.0 w.1 w.2 (not_gate w.0 q named f.1))
              ∙ ap₂ (λ o p. Some (start_row o p (get_or bits (keys_before L w.0) false))) w.2 e
              ∙ ap (λ s. Some (start_by s (Some x) (get_or bits (keys_before L w.0) false))) w.4
              ∙ sym (ap (get (cut_bits L bits)) (sym same) ∙ key_bit bits l w.0 x h e)

      computed_bit : (q : Name) (t : List Bool) (ins : List (Option Name)) → Computed (netlist L) q t ins → get (valuation L vs) q ≡ Some (table_value t (map (read (valuation L vs)) ins))
      computed_bit q t ins m =
          let w = net_found L is q None m.unsupplied in
          let named : nm L is w.0 ≡ q = net_name_is L is w.0 w.1 w.2 ∙ w.3 in
          let h = slice_get_within L.nets w.0 w.1 w.2 in
          let here : Computed (netlist L) (nm L is w.0) t ins = subst (λ p. Computed (netlist L) p t ins) (sym named) m in
          let g = named_computed L is w.0 h t ins here in
          let c = computed_named L is w.0 g.0 g.1 in
          let same = one_table (netlist L) (nm L is w.0) t c.0 ins (map (option_map (nm L is)) (inputs_at L g.0.0.0)) here c.1 in
          let reads : map (read (valuation L vs)) (map (option_map (nm L is)) (inputs_at L g.0.0.0)) ≡ map (bit_of vs) (inputs_at L g.0.0.0) =
          sym (map_map (option_map (nm L is)) (read (valuation L vs)) (inputs_at L g.0.0.0)) ∙ map_agree (λ j. read (valuation L vs) (option_map (nm L is) j)) (bit_of vs) (inputs_at L g.0.0.0) (λ j i. read_is vs v.sized j (inputs_known w.0 g.0 (gate_is L w.0 g.0 g.1) j i)) in
          ap (get (valuation L vs)) (sym w.3)
          ∙ value_at vs v.sized w.0 w.1 (computes L vs g.0) w.2 (v.computed w.0 g.0 g.1)
          ∙ ap (λ o. Some (by_role o (map (bit_of vs) (inputs_at L g.0.0.0)))) c.2
          ∙ sym (ap₂ (λ x y. Some (table_value x (map (read (valuation L vs)) y))) same.0 same.1 ∙ ap (λ xs. Some (table_value c.0 xs)) reads)
        where
          map_map : {A B C : Type 0} (f : A → B) (g : B → C) (xs : List A) → map (λ x. g (f x)) xs ≡ map g (map f xs)
          map_map f g [] = refl
          map_map f g (x ∷ xs) = ap (λ ys. g (f x) ∷ ys) (map_map f g xs)
