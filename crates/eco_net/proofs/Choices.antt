-- The cut keys of a netlist are finite, and each of them may have either bit
use Rattle.std.proofs.Common.{◌≡◌, Bool, true, false, cond, List, [], ◌∷◌, map, Some, refl, sym, ap, ◌∙◌, subst, inl, inr, ⊎_elim, ◌⊎◌, true≢false, is_some, is_eq}
use Rattle.std.specs.Ordering.{eq_by_cmp}
use Rattle.std.specs.Cmp.{Equal-is, tied_itself}
use Rattle.std.specs.FinMap.{get, from_entries, find, keys, get-from_entries}
use Rattle.eco_net.specs.Netlist.{Name, Netlist}
use Rattle.eco_net.specs.Drivers.{IsFree}
use Rattle.eco_net.specs.CutKeys.{CutKey, CutBits, KeyOf, IsCutKey, IsChoice, key_cmp}
use Rattle.eco_net.proofs.Basics.{Has, same_Some, not_None, has_key}
use Rattle.eco_net.proofs.Decide.{Shape, supply_net, computed_net, free_net, no_net, shape}
use Rattle.eco_net.proofs.Solved.{one_key}
use Rattle.eco_net.proofs.Keys.{key_cmp_total, key_cmp-IsAntisymmetric}

-- ---- the cut keys as a list

abbrev add_key : {N : Netlist} {n : Name} → Shape N n → List CutKey → List CutKey
add_key (free_net key f k) rest = key ∷ rest
add_key (supply_net b e) rest = rest
add_key (computed_net table ins c) rest = rest
add_key (no_net e) rest = rest

abbrev keys_at : Netlist → List Name → List CutKey
keys_at N [] = []
keys_at N (n ∷ ns) = add_key (shape N n) (keys_at N ns)

is_key : (N : Netlist) (ns : List Name) (key : CutKey) → Has (keys_at N ns) key → IsCutKey N key
is_key N [] key h = absurd h
is_key N (n ∷ ns) key h = go (is_key N ns key) (shape N n) h
  where
    go : (Has (keys_at N ns) key → IsCutKey N key) → (s : Shape N n) → Has (add_key s (keys_at N ns)) key → IsCutKey N key
    go rest (free_net l f k) h = ⊎_elim (λ e. (n, f, subst (KeyOf N n) e k)) rest h
    go rest (supply_net b e) h = rest h
    go rest (computed_net table ins c) h = rest h
    go rest (no_net e) h = rest h

key_first : (N : Netlist) (n : Name) (key : CutKey) (ks : List CutKey) (s : Shape N n) → IsFree N n → KeyOf N n key → Has (add_key s ks) key
key_first N n key ks (free_net l f k) g h = inl (one_key N n l key k h)
key_first N n key ks (supply_net b e) g h = absurd (not_None (sym (same_Some (sym g.0 ∙ e))))
key_first N n key ks (computed_net table ins c) g h = absurd (g.1 (table, ins, c))
key_first N n key ks (no_net e) g h = absurd (not_None (sym g.0 ∙ e))

key_later : (N : Netlist) (n : Name) (key : CutKey) (ks : List CutKey) (s : Shape N n) → Has ks key → Has (add_key s ks) key
key_later N n key ks (free_net l f k) h = inr h
key_later N n key ks (supply_net b e) h = h
key_later N n key ks (computed_net table ins c) h = h
key_later N n key ks (no_net e) h = h

has_all : (N : Netlist) (ns : List Name) (n : Name) (key : CutKey) → Has ns n → IsFree N n → KeyOf N n key → Has (keys_at N ns) key
has_all N [] n key h f k = absurd h
has_all N (m ∷ ns) n key (inl e) f k = key_first N m key (keys_at N ns) (shape N m) (subst (IsFree N) (sym e) f) (subst (λ x. KeyOf N x key) (sym e) k)
has_all N (m ∷ ns) n key (inr h) f k = key_later N m key (keys_at N ns) (shape N m) (has_all N ns n key h f k)

-- ---- a bit for each

abbrev with_bits : (CutKey → Bool) → List CutKey → List (CutKey × Bool)
with_bits bits ks = map (λ k. (k, bits k)) ks

same_key : (k l : CutKey) → eq_by_cmp key_cmp k l ≡ true → k ≡ l
same_key k l e = key_cmp-IsAntisymmetric k l ((Equal-is (key_cmp k l)).0 e)

itself : (k : CutKey) → eq_by_cmp key_cmp k k ≡ true
itself k = ap is_eq (tied_itself key_cmp_total k)

bit_is : (bits : CutKey → Bool) (ks : List CutKey) (key : CutKey) → Has ks key → find key_cmp key (with_bits bits ks) ≡ Some (bits key)
bit_is bits [] key h = absurd h
bit_is bits (k ∷ ks) key h = go (bit_is bits ks key) (eq_by_cmp key_cmp key k) refl h
  where
    go : (Has ks key → find key_cmp key (with_bits bits ks) ≡ Some (bits key)) → (b : Bool) → eq_by_cmp key_cmp key k ≡ b → (k ≡ key) ⊎ Has ks key → cond b (Some (bits k)) (find key_cmp key (with_bits bits ks)) ≡ Some (bits key)
    go rest true e h = ap (λ x. Some (bits x)) (sym (same_key key k e))
    go rest false e (inl s) = absurd (true≢false (sym (itself key) ∙ ap (eq_by_cmp key_cmp key) (sym s) ∙ e))
    go rest false e (inr h) = rest h

has_bit : (bits : CutKey → Bool) (ks : List CutKey) (key : CutKey) → is_some (find key_cmp key (with_bits bits ks)) ≡ true → Has ks key
has_bit bits [] key e = absurd (true≢false (sym e))
has_bit bits (k ∷ ks) key e = go (has_bit bits ks key) (eq_by_cmp key_cmp key k) refl e
  where
    go : (is_some (find key_cmp key (with_bits bits ks)) ≡ true → Has ks key) → (b : Bool) → eq_by_cmp key_cmp key k ≡ b → is_some (cond b (Some (bits k)) (find key_cmp key (with_bits bits ks))) ≡ true → (k ≡ key) ⊎ Has ks key
    go rest true s e = inl (sym (same_key key k s))
    go rest false s e = inr (rest e)

pub each_choice : (N : Netlist) (bits : CutKey → Bool) → (cut : CutBits) × IsChoice N cut × ((key : CutKey) → IsCutKey N key → get cut key ≡ Some (bits key))
each_choice N bits = (from_entries es, λ key. (λ c. ap is_some (agrees key c), λ e. is_key N (keys N.nets) key (has_bit bits ks key (sym (ap is_some (get-from_entries key_cmp_total es key)) ∙ e))), agrees)
  where
    ks : List CutKey
    ks = keys_at N (keys N.nets)

    es : List (CutKey × Bool)
    es = with_bits bits ks

    agrees : (key : CutKey) → IsCutKey N key → get (from_entries {R = key_cmp} es) key ≡ Some (bits key)
    agrees key c = get-from_entries key_cmp_total es key ∙ bit_is bits ks key (has_all N (keys N.nets) c.0 key (has_key N.nets c.0 _ c.1.0) c.1 c.2)
