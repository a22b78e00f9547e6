-- What an index has at a name, and after an insert
use Rattle.std.proofs.Common.{◌≡◌, ℕ, Bool, true, false, not, cond, List, [], ◌∷◌, ◌++◌, Option, Some, None, Vec, refl, sym, ap, ◌∙◌, subst}
use Rattle.std.specs.List.{AllZip, filter}
use Rattle.std.specs.Map.{lookup, KeepsOthers}
use Rattle.std.specs.Str.{bytes_eq}
use Rattle.std.specs.Ordering.{eq_by_cmp}
use Rattle.std.specs.Cmp.Lexicographic.{nat_list_cmp_total, nat_list_eq_equiv, same_text, texts_ties}
use Rattle.std.specs.FinMap.{get, insert, from_entries, find, get-from_entries, get-insert, same_map}
use Rattle.std.proofs.lemmas.Map.Entries.{lookup-filter-keys}
use Rattle.std.proofs.lemmas.Map.Lookups.{exact_bytes}
use Rattle.eco_net.specs.Netlist.{Name, name_cmp}
use Rattle.eco_net.specs.Index.{is_short, short_of, by_bytes, placed_names}
use Rattle.eco_net.proofs.Basics.{same_Some, not_None}

-- whether a key has these bytes
abbrev has_bytes : {Z : Type 0} → Name → Vec ℕ Z → Bool
has_bytes q k = bytes_eq q k.items

-- what entries have at a name
abbrev at : Name → List (Name × ℕ) → Option ℕ
at q es = lookup (bytes_eq q) es

-- what an index has at a name, by whether it is short
abbrev found : Bool → Name → List (Name × ℕ) → List (Name × ℕ) → Option ℕ
found b q shorts longs = cond b (at q shorts) (at q longs)

at_first : (q : Name) (es fs : List (Name × ℕ)) → at q fs ≡ None → at q (es ++ fs) ≡ at q es
at_first q [] fs none = none
at_first q (e ∷ es) fs none = ap (cond (bytes_eq q e.0) (Some e.1)) (at_first q es fs none)

past : (b : Bool) (v : ℕ) (rest more last : Option ℕ) → (rest ≡ None → more ≡ last) → cond b (Some v) rest ≡ None → cond b (Some v) more ≡ last
past true v rest more last go none = cc
past false v rest more last go none = go none

at_last : (q : Name) (es fs : List (Name × ℕ)) → at q es ≡ None → at q (es ++ fs) ≡ at q fs
at_last q [] fs none = refl
at_last q (e ∷ es) fs none = past (bytes_eq q e.0) e.1 (at q es) (at q (es ++ fs)) (at q fs) (at_last q es fs) none

at_kept : (q : Name) (p : Name → Bool) (es : List (Name × ℕ)) → at q (filter (λ e. p e.0) es) ≡ cond (p q) (at q es) None
at_kept q p es = lookup-filter-keys (bytes_eq q) p (p q) (λ k same. ap p (sym (same_text q k (sym same)))) es

at_placed : (b : Bool) (q : Name) (shorts longs : List (Name × ℕ)) → is_short q ≡ b → at q (placed_names shorts longs) ≡ found b q shorts longs
at_placed true q shorts longs e =
    at_first q _ _ (at_kept q (λ n. not (is_short n)) longs ∙ ap (λ b. cond (not b) (at q longs) None) e)
    ∙ at_kept q is_short shorts
    ∙ ap (λ b. cond b (at q shorts) None) e
at_placed false q shorts longs e =
    at_last q _ _ (at_kept q is_short shorts ∙ ap (λ b. cond b (at q shorts) None) e)
    ∙ at_kept q (λ n. not (is_short n)) longs
    ∙ ap (λ b. cond (not b) (at q longs) None) e

found_in : (es : List (Name × ℕ)) (q : Name) → find name_cmp q es ≡ at q es
found_in [] q = refl
found_in (e ∷ es) q = λ i. cond (sym (texts_ties q e.0) i) (Some e.1) (found_in es q i)

pub place_found : (shorts longs : List (Name × ℕ)) (q : Name) (b : Bool) → is_short q ≡ b → get (from_entries {R = name_cmp} (placed_names shorts longs)) q ≡ found b q shorts longs
place_found shorts longs q b e = get-from_entries nat_list_cmp_total (placed_names shorts longs) q ∙ found_in (placed_names shorts longs) q ∙ at_placed b q shorts longs e

-- entries of texts have at a name what a map of texts has at its bytes
pub text_found : {Z : Type 0} (q : Name) (es : List (Vec ℕ Z × ℕ)) → at q (by_bytes es) ≡ lookup (λ k. bytes_eq q k.items) es
text_found q [] = refl
text_found q (e ∷ es) = ap (cond (bytes_eq q e.0.items) (Some e.1)) (text_found q es)

of_short : (b : Bool) (q s : Name) → cond b (Some q) None ≡ Some s → (b ≡ true) × (s ≡ q)
of_short true q s e = (refl, sym (same_Some e))
of_short false q s e = absurd (not_None (sym e))

of_long : (b : Bool) (q : Name) → cond b (Some q) None ≡ None → b ≡ false
of_long true q e = absurd (not_None e)
of_long false q e = refl

-- a name that is kept in place is short, and itself
pub short_is : (q s : Name) → short_of q ≡ Some s → (is_short q ≡ true) × (s ≡ q)
short_is q s e = of_short (is_short q) q s e

pub long_is : (q : Name) → short_of q ≡ None → is_short q ≡ false
long_is q e = of_long (is_short q) q e

others : {K X : Type 0} {eq : K → K → Bool} {test : K → Bool} (ds es : List (K × X)) → KeepsOthers eq test ds es → (other : K → Bool) → ((x y : K) → other x ≡ true → other y ≡ eq x y) → ((x : K) → test x ≡ true → other x ≡ false) → lookup other es ≡ lookup other ds
unfolding KeepsOthers
others ds es h = h

apart : (k q x : Name) → bytes_eq k q ≡ false → bytes_eq k x ≡ true → bytes_eq q x ≡ false
apart k q x differ same = nat_list_eq_equiv.symm q x ∙ sym (nat_list_eq_equiv.congr k x q same) ∙ differ

text_after : {Z : Type 0} (ds es : List (Vec ℕ Z × ℕ)) (k : Name) (v : ℕ) → lookup (has_bytes k) es ≡ Some v → KeepsOthers (λ x y. bytes_eq x.items y.items) (has_bytes k) ds es → (q : Name) (b : Bool) → bytes_eq k q ≡ b → lookup (has_bytes q) es ≡ cond b (Some v) (lookup (has_bytes q) ds)
text_after ds es k v here rest q true e = subst (λ n. lookup (has_bytes n) es ≡ Some v) (same_text k q (sym e)) here
text_after ds es k v here rest q false e = others ds es rest (has_bytes q) (λ x y. nat_list_eq_equiv.congr q x.items y.items) (λ x. apart k q x.items e)

-- entries have the place v at the name k, and at other names what they had
abbrev IsGiven : Name → ℕ → List (Name × ℕ) → List (Name × ℕ) → Type 0
IsGiven k v ds es = (q : Name) → at q es ≡ cond (bytes_eq k q) (Some v) (at q ds)

pub text_given : {Z : Type 0} (ds es : List (Vec ℕ Z × ℕ)) (k : Name) (v : ℕ) → lookup (λ x. bytes_eq k x.items) es ≡ Some v → KeepsOthers (λ x y. bytes_eq x.items y.items) (λ x. bytes_eq k x.items) ds es → IsGiven k v (by_bytes ds) (by_bytes es)
text_given ds es k v here rest q = text_found q es ∙ text_after ds es k v here rest q _ refl ∙ ap (cond (bytes_eq k q) (Some v)) (sym (text_found q ds))

-- an index whose place at k is v, and whose other places are what they were
given : (ss ts ls ms : List (Name × ℕ)) (k : Name) (v : ℕ) → ((q : Name) → found (is_short q) q ts ms ≡ cond (bytes_eq k q) (Some v) (found (is_short q) q ss ls)) → from_entries {R = name_cmp} (placed_names ts ms) ≡ insert (from_entries (placed_names ss ls)) k v
given ss ts ls ms k v h = same_map nat_list_cmp_total exact_bytes _ _ (λ q.
    place_found ts ms q _ refl
    ∙ h q
    ∙ ap (λ b. cond b (Some v) (found (is_short q) q ss ls)) (nat_list_eq_equiv.symm k q ∙ texts_ties q k)
    ∙ sym (get-insert nat_list_cmp_total (from_entries (placed_names ss ls)) k v q ∙ ap (cond (eq_by_cmp name_cmp q k) (Some v)) (place_found ss ls q _ refl)))

same_side : (k q : Name) (b same : Bool) → is_short k ≡ b → bytes_eq k q ≡ same → is_short q ≡ not b → same ≡ false
same_side k q b false side same other = refl
same_side k q b true side same other = absurd (both_sides b (sym side ∙ ap is_short (same_text k q (sym same)) ∙ other))
  where
    both_sides : (b : Bool) → b ≡ not b → ⊥
    both_sides true h = absurd cc
    both_sides false h = absurd cc

pub short_given : (ss ts ls : List (Name × ℕ)) (k : Name) (v : ℕ) → is_short k ≡ true → IsGiven k v ss ts → from_entries {R = name_cmp} (placed_names ts ls) ≡ insert (from_entries (placed_names ss ls)) k v
short_given ss ts ls k v side h = given ss ts ls ls k v (λ q. go q (is_short q) (bytes_eq k q) (same_side k q true (bytes_eq k q) side refl) (h q))
  where
    go : (q : Name) (short same : Bool) → (short ≡ false → same ≡ false) → at q ts ≡ cond same (Some v) (at q ss) → found short q ts ls ≡ cond same (Some v) (found short q ss ls)
    go q true same apart given = given
    go q false same apart given = ap (λ b. cond b (Some v) (at q ls)) (sym (apart refl))

pub long_given : (ss ls ms : List (Name × ℕ)) (k : Name) (v : ℕ) → is_short k ≡ false → IsGiven k v ls ms → from_entries {R = name_cmp} (placed_names ss ms) ≡ insert (from_entries (placed_names ss ls)) k v
long_given ss ls ms k v side h = given ss ss ls ms k v (λ q. go q (is_short q) (bytes_eq k q) (same_side k q false (bytes_eq k q) side refl) (h q))
  where
    go : (q : Name) (short same : Bool) → (short ≡ true → same ≡ false) → at q ms ≡ cond same (Some v) (at q ls) → found short q ss ms ≡ cond same (Some v) (found short q ss ls)
    go q false same apart given = given
    go q true same apart given = ap (λ b. cond b (Some v) (at q ss)) (sym (apart refl))

-- entries of the same bytes and places
pub same_entries : {Z : Type 0} (R : Vec ℕ Z × ℕ → Vec ℕ Z × ℕ → Type 0) → ((d e : Vec ℕ Z × ℕ) → R d e → (e.0.items ≡ d.0.items) × (e.1 ≡ d.1)) → (ds es : List (Vec ℕ Z × ℕ)) → AllZip R ds es → by_bytes es ≡ by_bytes ds
same_entries R h [] [] z = refl
same_entries R h [] (e ∷ es) z = absurd z
same_entries R h (d ∷ ds) [] z = absurd z
same_entries R h (d ∷ ds) (e ∷ es) z = let s = h d e z.0 in λ i. (s.0 i, s.1 i) ∷ same_entries R h ds es z.1 i
