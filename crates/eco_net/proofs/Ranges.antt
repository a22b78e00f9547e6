-- Lists, one item further
use Rattle.std.proofs.Common.{◌≡◌, ℕ, zero, suc, ◌+◌, List, [], ◌∷◌, ◌++◌, take, Option, Some, ap, ◌∙◌, arith, slice_get}
use Rattle.std.specs.List.{filter_map, range_with_len, cons_option}
use Rattle.std.proofs.lemmas.List.{take_more}
use Rattle.std.proofs.lemmas.List.Elements.{filter_map-append}
use Rattle.std.proofs.lemmas.Option.{slice_get_within, get_or_from_slice_get}

range_suc : (a n : ℕ) → range_with_len a (suc n) ≡ range_with_len a n ++ (a + n) ∷ []
range_suc a zero = let z : a ≡ a + 0 = omega arith in ap (λ x. x ∷ []) z
range_suc a (suc n) =
    let z : (a + 1) + n ≡ a + suc n = omega arith in
    ap (λ xs. a ∷ xs) (range_suc (a + 1) n ∙ ap (λ x. range_with_len (a + 1) n ++ x ∷ []) z)

pub range_more : (n : ℕ) → range_with_len 0 (n + 1) ≡ range_with_len 0 n ++ n ∷ []
range_more n =
    let y : n + 1 ≡ suc n = omega arith in
    let z : 0 + n ≡ n = omega arith in
    ap (range_with_len 0) y ∙ range_suc 0 n ∙ ap (λ x. range_with_len 0 n ++ x ∷ []) z

pub filter_map_range : {Y : Type 0} (f : ℕ → Option Y) (n : ℕ) → filter_map f (range_with_len 0 (n + 1)) ≡ filter_map f (range_with_len 0 n) ++ cons_option (f n) []
filter_map_range f n = ap (filter_map f) (range_more n) ∙ filter_map-append f (range_with_len 0 n) (n ∷ [])

pub take_next : {A : Type 0} (xs : List A) (i : ℕ) (x : A) → slice_get xs i ≡ Some x → take (i + 1) xs ≡ take i xs ++ x ∷ []
take_next xs i x e = take_more xs i x (slice_get_within xs i x e) ∙ ap (λ y. take i xs ++ y ∷ []) (get_or_from_slice_get xs i x x e)
