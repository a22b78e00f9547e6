-- How many cut keys stand before a net's, and that the bits of the keys are a choice
use Rattle.std.proofs.Common.{◌≡◌, ℕ, zero, suc, ◌+◌, ◌-◌, ◌<◌, Bool, true, false, List, [], ◌∷◌, map, length, Option, Some, None, refl, sym, ap, ap₂, ◌∙◌, subst, arith, slice_get, slice_index_or, length-append, is_some, true≢false, cond}
use Rattle.std.specs.List.{filter_map, range_with_len, zip, cons_option}
use Rattle.std.specs.Option.{unwrap_or}
use Rattle.std.specs.Ordering.{eq_by_cmp}
use Rattle.std.specs.FinMap.{get, contains_key, find, get-from_entries}
use Rattle.std.proofs.lemmas.Option.{slice_get_within}
use Rattle.eco_net.specs.declared.rows.NetRow.{NetRow}
use Rattle.eco_net.specs.declared.cut.CutKey.{CutKey as KeyNumber}
use Rattle.eco_net.specs.CutKeys.{CutKey, KeyOf, IsCutKey, IsChoice, key_cmp}
use Rattle.eco_net.specs.Drivers.{IsFree}
use Rattle.eco_net.specs.Listing.{Listing, netlist}
use Rattle.eco_net.specs.Kept.{IsListing}
use Rattle.eco_net.specs.ByNumber.{driver_at}
use Rattle.eco_net.specs.KeysOf.{key_by_driver, unless_supply, key_of_row, key_at, keys_of, key_named}
use Rattle.eco_net.specs.ValuesOf.{cut_bits, keys_before, start_by, start_row, start}
use Rattle.eco_net.proofs.Basics.{not_None}
use Rattle.eco_net.proofs.Named.{net_found}
use Rattle.eco_net.proofs.PinNames.{net_name_is}
use Rattle.eco_net.proofs.GateNames.{nm}
use Rattle.eco_net.proofs.Keys.{key_cmp_total}
use Rattle.eco_net.proofs.KeyNames.{keyed, unkeyed}
use Rattle.eco_net.proofs.Solved.{one_key}
use Rattle.eco_net.proofs.Ranges.{filter_map_range}
use Rattle.eco_net.proofs.Valued.{same_key, key_bit}

-- ---- counts

-- one more key where there is one
pub keys_more : (L : Listing) (n : ℕ) → keys_before L (n + 1) ≡ keys_before L n + length (cons_option (key_at L n) [])
keys_more L n = ap length (filter_map_range (key_at L) n) ∙ length-append (filter_map (key_at L) (range_with_len 0 n)) (cons_option (key_at L n) [])

keys_grow : (L : Listing) (n m : ℕ) → keys_before L n < keys_before L (n + m) + 1
keys_grow L n zero = let z : n + 0 ≡ n = omega arith in omega (arith, ap (keys_before L) z)
keys_grow L n (suc m) =
    let z : n + suc m ≡ (n + m) + 1 = omega arith in
    omega (arith, keys_grow L n m, ap (keys_before L) z, keys_more L (n + m))

-- fewer keys stand before a net with a key than there are
pub key_within : (L : Listing) (n : ℕ) (key : KeyNumber) → n < length L.nets → key_at L n ≡ Some key → keys_before L n < length (keys_of L)
key_within L n key h e =
    let m = length L.nets in
    let z : (n + 1) + (m - (n + 1)) ≡ m = omega (arith, h) in
    let one : keys_before L (n + 1) ≡ keys_before L n + 1 = keys_more L n ∙ ap (λ o. keys_before L n + length (cons_option o [])) e in
    omega (arith, keys_grow L (n + 1) (m - (n + 1)), ap (keys_before L) z, one)

-- ---- what a net that isn't computed starts with

-- a free net starts with its key's bit
pub start_keyed : (L : Listing) (bits : List Bool) (n : ℕ) (r : NetRow) (key : KeyNumber) → slice_get L.nets n ≡ Some r → key_at L n ≡ Some key → start L bits n ≡ slice_index_or bits (keys_before L n) false
start_keyed L bits n r key at e = ap₂ (λ o k. start_row o k (slice_index_or bits (keys_before L n) false)) at e ∙ by r.supply refl
  where
    by : (s : Option Bool) → r.supply ≡ s → start_by r.supply (Some key) (slice_index_or bits (keys_before L n) false) ≡ slice_index_or bits (keys_before L n) false
    by None f = ap (λ s. start_by s (Some key) (slice_index_or bits (keys_before L n) false)) f
    by (Some b) f = absurd (not_None (sym e ∙ ap (λ o. key_of_row o (key_by_driver L n (driver_at L n))) at ∙ ap (λ s. unless_supply s (key_by_driver L n (driver_at L n))) f))

-- a supply starts with its value, and a computed net with 0
pub start_unkeyed : (L : Listing) (bits : List Bool) (n : ℕ) (r : NetRow) → slice_get L.nets n ≡ Some r → key_at L n ≡ None → start L bits n ≡ unwrap_or r.supply false
start_unkeyed L bits n r at e = ap₂ (λ o k. start_row o k (slice_index_or bits (keys_before L n) false)) at e ∙ by r.supply
  where
    by : (s : Option Bool) → start_by s None (slice_index_or bits (keys_before L n) false) ≡ unwrap_or s false
    by None = refl
    by (Some b) = refl

-- ---- a bit for each cut key, and for no other

module _ (L : Listing) (is : IsListing L) where
  has_key : (a m : ℕ) (key : CutKey) (bits : List Bool) → a + m ≡ length L.nets → is_some (find key_cmp key (zip (map (key_named L) (filter_map (key_at L) (range_with_len a m))) bits)) ≡ true → IsCutKey (netlist L) key
  has_key a zero key bits e h = absurd (true≢false (sym h))
  has_key a (suc m) key bits e h = go (key_at L a) refl bits h (λ bs. has_key (a + 1) m key bs (omega (arith, e)))
    where
      here : (x : KeyNumber) → key_at L a ≡ Some x → key ≡ key_named L x → IsCutKey (netlist L) key
      here x f s = let w = keyed L is a (omega (arith, e)) x f in (nm L is a, w.0, subst (KeyOf (netlist L) (nm L is a)) (sym s) w.1)

      go : (o : Option KeyNumber) → key_at L a ≡ o → (bits : List Bool) → is_some (find key_cmp key (zip (map (key_named L) (cons_option o (filter_map (key_at L) (range_with_len (a + 1) m)))) bits)) ≡ true → ((bs : List Bool) → is_some (find key_cmp key (zip (map (key_named L) (filter_map (key_at L) (range_with_len (a + 1) m))) bs)) ≡ true → IsCutKey (netlist L) key) → IsCutKey (netlist L) key
      go None f bits h r = r bits h
      go (Some x) f [] h r = absurd (true≢false (sym h))
      go (Some x) f (b ∷ bs) h r = by (eq_by_cmp key_cmp key (key_named L x)) refl h
        where
          by : (t : Bool) → eq_by_cmp key_cmp key (key_named L x) ≡ t → is_some (cond t (Some b) (find key_cmp key (zip (map (key_named L) (filter_map (key_at L) (range_with_len (a + 1) m))) bs))) ≡ true → IsCutKey (netlist L) key
          by true s h = here x f (same_key key (key_named L x) s)
          by false s h = r bs h

  bit_of_key : (bits : List Bool) → length bits ≡ length (keys_of L) → (key : CutKey) → IsCutKey (netlist L) key → contains_key (cut_bits L bits) key ≡ true
  bit_of_key bits l key c = go (key_at L w.0) refl
    where
      w : (n : ℕ) × (r : NetRow) × (slice_get L.nets n ≡ Some r) × (r.name ≡ c.0) × (r.supply ≡ None)
      w = net_found L is c.0 None c.1.0

      named : nm L is w.0 ≡ c.0
      named = net_name_is L is w.0 w.1 w.2 ∙ w.3

      h : w.0 < length L.nets
      h = slice_get_within L.nets w.0 w.1 w.2

      go : (o : Option KeyNumber) → key_at L w.0 ≡ o → contains_key (cut_bits L bits) key ≡ true
      go None e = absurd (unkeyed L is w.0 h e (subst (IsFree (netlist L)) (sym named) c.1))
      go (Some x) e =
          let y = keyed L is w.0 h x e in
          let same : key_named L x ≡ key = one_key (netlist L) c.0 (key_named L x) key (subst (λ p. KeyOf (netlist L) p (key_named L x)) named y.1) c.2 in
          ap (λ k. is_some (get (cut_bits L bits) k)) (sym same) ∙ ap is_some (key_bit L is bits l w.0 x h e)

  pub is_choice : (bits : List Bool) → length bits ≡ length (keys_of L) → IsChoice (netlist L) (cut_bits L bits)
  is_choice bits l key = (
    bit_of_key bits l key,
    λ h. has_key 0 (length L.nets) key bits (omega arith) (ap is_some (sym (get-from_entries key_cmp_total _ key)) ∙ h),
  )
