-- The cut keys of a listing are those of its netlist, each once
use Rattle.std.proofs.Common.{◌≡◌, ◌↔◌, ℕ, zero, suc, ◌+◌, ◌<◌, Bool, true, false, List, [], ◌∷◌, map, length, Option, Some, None, refl, sym, ap, ◌∙◌, subst, arith, slice_get, inl, inr}
use Rattle.std.specs.List.{Contains, IsDistinct, filter_map, range_with_len, cons_option}
use Rattle.std.specs.Ordering.{eq_by_cmp}
use Rattle.std.proofs.lemmas.Option.{slice_get_within}
use Rattle.eco_net.specs.declared.rows.NetRow.{NetRow}
use Rattle.eco_net.specs.declared.cut.CutKey.{CutKey as KeyNumber}
use Rattle.eco_net.specs.Netlist.{Name, Netlist}
use Rattle.eco_net.specs.Drivers.{IsFree}
use Rattle.eco_net.specs.CutKeys.{CutKey, PinKey, NetKey, KeyOf, IsCutKey, key_cmp}
use Rattle.eco_net.specs.Listing.{Listing, netlist}
use Rattle.eco_net.specs.Kept.{IsListing}
use Rattle.eco_net.specs.KeysOf.{key_at, keys_of, key_named}
use Rattle.eco_net.proofs.Basics.{Has, same_Some, has_from_contains, contains_from_has, has_map, has_of_map}
use Rattle.eco_net.proofs.AllPins.{has_below, range_has, all_from}
use Rattle.eco_net.proofs.Named.{net_found}
use Rattle.eco_net.proofs.PinNames.{net_name_is, same_net}
use Rattle.eco_net.proofs.GateNames.{nm}
use Rattle.eco_net.proofs.KeyNames.{keyed, unkeyed}
use Rattle.eco_net.proofs.Solved.{one_key}
use Rattle.eco_net.proofs.Valued.{same_key}

-- ---- lists

has_mapped : {A B : Type 0} (f : A → Option B) (xs : List A) (x : A) (y : B) → Has xs x → f x ≡ Some y → Has (filter_map f xs) y
has_mapped f [] x y h e = absurd h
has_mapped f (z ∷ xs) x y (inl s) e = subst (λ o. Has (cons_option o (filter_map f xs)) y) (sym (ap f s ∙ e)) (inl refl)
has_mapped {B = B} f (z ∷ xs) x y (inr h) e = go (f z) (has_mapped f xs x y h e)
  where
    go : (o : Option B) → Has (filter_map f xs) y → Has (cons_option o (filter_map f xs)) y
    go None h = h
    go (Some w) h = inr h

mapped_has : {A B : Type 0} (f : A → Option B) (xs : List A) (y : B) → Has (filter_map f xs) y → (x : A) × Has xs x × (f x ≡ Some y)
mapped_has f [] y h = absurd h
mapped_has {A = A} {B = B} f (z ∷ xs) y h = go (f z) refl h (mapped_has f xs y)
  where
    later : (x : A) × Has xs x × (f x ≡ Some y) → (x : A) × Has (z ∷ xs) x × (f x ≡ Some y)
    later w = (w.0, inr w.1, w.2)

    go : (o : Option B) → f z ≡ o → Has (cons_option o (filter_map f xs)) y → (Has (filter_map f xs) y → (x : A) × Has xs x × (f x ≡ Some y)) → (x : A) × Has (z ∷ xs) x × (f x ≡ Some y)
    go None e h rest = later (rest h)
    go (Some w) e (inl s) rest = (z, inl refl, e ∙ ap Some s)
    go (Some w) e (inr h) rest = later (rest h)

-- a key is that of one net
one_net : (N : Netlist) (n m : Name) (key : CutKey) → KeyOf N n key → KeyOf N m key → n ≡ m
one_net N n m (PinKey p) a b = same_Some (sym a.0.drives ∙ b.0.drives)
one_net N n m (NetKey q) a b = sym a.0 ∙ b.0

module _ (L : Listing) (is : IsListing L) where
  -- ---- which they are

  its_key : (key : CutKey) → Has (map (key_named L) (keys_of L)) key → IsCutKey (netlist L) key
  its_key key h =
      let x = has_of_map (key_named L) (keys_of L) key h in
      let n = mapped_has (key_at L) (range_with_len 0 (length L.nets)) x.0 x.1 in
      let w = keyed L is n.0 (omega (arith, (range_has 0 (length L.nets) n.0 n.1).1)) x.0 n.2 in
      (nm L is n.0, w.0, subst (KeyOf (netlist L) (nm L is n.0)) x.2 w.1)

  has_key : (key : CutKey) → IsCutKey (netlist L) key → Has (map (key_named L) (keys_of L)) key
  has_key key c = go (key_at L w.0) refl
    where
      w : (n : ℕ) × (r : NetRow) × (slice_get L.nets n ≡ Some r) × (r.name ≡ c.0) × (r.supply ≡ None)
      w = net_found L is c.0 None c.1.0

      named : nm L is w.0 ≡ c.0
      named = net_name_is L is w.0 w.1 w.2 ∙ w.3

      h : w.0 < length L.nets
      h = slice_get_within L.nets w.0 w.1 w.2

      go : (o : Option KeyNumber) → key_at L w.0 ≡ o → Has (map (key_named L) (keys_of L)) key
      go None e = absurd (unkeyed L is w.0 h e (subst (IsFree (netlist L)) (sym named) c.1))
      go (Some x) e =
          let y = keyed L is w.0 h x e in
          let same : key_named L x ≡ key = one_key (netlist L) c.0 (key_named L x) key (subst (λ p. KeyOf (netlist L) p (key_named L x)) named y.1) c.2 in
          subst (Has (map (key_named L) (keys_of L))) same (has_map (key_named L) (keys_of L) x (has_mapped (key_at L) (range_with_len 0 (length L.nets)) w.0 x (has_below (length L.nets) w.0 h) e))

  pub each_key : (key : CutKey) → IsCutKey (netlist L) key ↔ Contains (map (key_named L) (keys_of L)) key
  each_key key = (
    λ c. contains_from_has (map (key_named L) (keys_of L)) key (has_key key c),
    λ c. its_key key (has_from_contains (map (key_named L) (keys_of L)) key c),
  )

  -- ---- each once

  keys_from : (a m : ℕ) → a + m ≡ length L.nets → IsDistinct (eq_by_cmp key_cmp) (map (key_named L) (filter_map (key_at L) (range_with_len a m)))
  unfolding IsDistinct
  keys_from a zero e = tt
  keys_from a (suc m) e = go (key_at L a) refl (keys_from (a + 1) m (omega (arith, e)))
    where
      h : a < length L.nets
      h = omega (arith, e)

      apart : (x : KeyNumber) → key_at L a ≡ Some x → (key : CutKey) → Has (map (key_named L) (filter_map (key_at L) (range_with_len (a + 1) m))) key → (b : Bool) → eq_by_cmp key_cmp (key_named L x) key ≡ b → b ≡ false
      apart x f key i false s = refl
      apart x f key i true s =
          let y = has_of_map (key_named L) (filter_map (key_at L) (range_with_len (a + 1) m)) key i in
          let n = mapped_has (key_at L) (range_with_len (a + 1) m) y.0 y.1 in
          let r = range_has (a + 1) m n.0 n.1 in
          let g : n.0 < length L.nets = omega (arith, r.1, e) in
          let mine = keyed L is a h x f in
          let other = keyed L is n.0 g y.0 n.2 in
          let same : key_named L x ≡ key_named L y.0 = same_key (key_named L x) key s ∙ sym y.2 in
          let one : a ≡ n.0 = same_net L is a n.0 h g (one_net (netlist L) (nm L is a) (nm L is n.0) (key_named L y.0) (subst (KeyOf (netlist L) (nm L is a)) same mine.1) other.1) in
          absurd (omega (arith, one, r.0))

      go : (o : Option KeyNumber) → key_at L a ≡ o → IsDistinct (eq_by_cmp key_cmp) (map (key_named L) (filter_map (key_at L) (range_with_len (a + 1) m))) → IsDistinct (eq_by_cmp key_cmp) (map (key_named L) (cons_option o (filter_map (key_at L) (range_with_len (a + 1) m))))
      go None f rest = rest
      go (Some x) f rest = (
        all_from (λ key. eq_by_cmp key_cmp (key_named L x) key ≡ false) (map (key_named L) (filter_map (key_at L) (range_with_len (a + 1) m))) (λ key i. apart x f key i (eq_by_cmp key_cmp (key_named L x) key) refl),
        rest,
      )

  pub keys_once : IsDistinct (eq_by_cmp key_cmp) (map (key_named L) (keys_of L))
  keys_once = keys_from 0 (length L.nets) (omega arith)
