-- The entries of one pass, after some were added. The last ones serve a caller of `leave`.
use Rattle.std.proofs.Common.{◌≡◌, ◌≢◌, ℕ, zero, suc, ◌<◌, eqb, List, [], ◌∷◌, ◌++◌, length, get_or, drop, sym, refl, ap, subst, ◌∙◌, eq-eqb, ne_eqb, arith, append_assoc, Bool, true, false, MatchBool}
use Rattle.std.specs.List.{All}
use Rattle.std.proofs.lemmas.List.{append-nil}
use Rattle.std.proofs.lemmas.List.Elements.{All-append, filter-append}
use Rattle.std.proofs.Math.Seq.{drop-append_seam, drop-length}
use Rattle.eco_turn.specs.Entries.{IsPass, entries_by, Adds, Grows}
use Rattle.eco_turn.proofs.Lists.{prefix_self, prefix_trans, prefix_rest}

module _ {E : Type 0} where
  -- of entries of the pass n all are by n, and none by another
  pub by_all : (n : ℕ) (xs : List (ℕ × E)) → All (λ (e : ℕ × E). e.0 ≡ n) xs → entries_by n xs ≡ xs
  by_all n [] all = refl
  by_all n (x ∷ xs) all =
      let h : x.0 ≡ n = all 0 x (omega arith) in let r : entries_by n xs ≡ xs = by_all n xs (λ k d l. all (suc k) d (omega arith)) in
      rw (eq-eqb x.0 n h) (ap (λ z. x ∷ z) r)

  pub by_none : (n m : ℕ) (xs : List (ℕ × E)) → All (λ (e : ℕ × E). e.0 ≡ n) xs → n ≢ m → entries_by m xs ≡ []
  by_none n m [] all other = refl
  by_none n m (x ∷ xs) all other =
      let h : x.0 ≡ n = all 0 x (omega arith) in let ne : x.0 ≢ m = λ e. other (sym h ∙ e) in
      rw (ne_eqb x.0 m ne) (by_none n m xs (λ k d l. all (suc k) d (omega arith)) other)

  -- the entries of a pass, after some of its own were added, or some of another
  pub by_mine : (n : ℕ) (xs ys : List (ℕ × E)) → Adds n xs ys → entries_by n ys ≡ entries_by n xs ++ drop (length xs) ys
  by_mine n xs ys adds = subst (λ (zs : List (ℕ × E)). entries_by n zs ≡ entries_by n xs ++ drop (length xs) ys) (prefix_rest xs ys adds.0)
      (filter-append (λ (e : ℕ × E). eqb e.0 n) xs (drop (length xs) ys) ∙ ap (λ z. entries_by n xs ++ z) (by_all n (drop (length xs) ys) adds.1))

  pub by_other : (n m : ℕ) (xs ys : List (ℕ × E)) → Adds n xs ys → n ≢ m → entries_by m ys ≡ entries_by m xs
  by_other n m xs ys adds other = subst (λ (zs : List (ℕ × E)). entries_by m zs ≡ entries_by m xs) (prefix_rest xs ys adds.0)
      (filter-append (λ (e : ℕ × E). eqb e.0 m) xs (drop (length xs) ys) ∙ (ap (λ z. entries_by m xs ++ z) (by_none n m (drop (length xs) ys) adds.1 other) ∙ append-nil (entries_by m xs)))

  -- a pass has no entries where there are none of passes
  pub by_strangers : (most n : ℕ) (xs : List (ℕ × E)) → All (λ (e : ℕ × E). ¬ IsPass most e.0) xs → IsPass most n → entries_by n xs ≡ []
  by_strangers most n [] all pass = refl
  by_strangers most n (x ∷ xs) all pass =
      let ne : x.0 ≢ n = λ e. all 0 x (omega arith) (subst (IsPass most) (sym e) pass) in
      rw (ne_eqb x.0 n ne) (by_strangers most n xs (λ k d l. all (suc k) d (omega arith)) pass)

  -- nothing was added
  pub adds_none : (n : ℕ) (xs ys : List (ℕ × E)) → xs ≡ ys → Adds n xs ys
  adds_none n xs ys e = subst (Adds n xs) e (prefix_self xs, λ k d l. let z = ap length (drop-length xs) in absurd (omega arith))

  -- and then its own are as before
  pub adds_no_more : (xs ys zs : List (ℕ × E)) → xs ≡ ys → zs ++ drop (length xs) ys ≡ zs
  adds_no_more xs ys zs e = subst (λ w. zs ++ drop (length xs) w ≡ zs) e (ap (λ z. zs ++ z) (drop-length xs) ∙ append-nil zs)

  pub added : (xs ys new : List (ℕ × E)) → ys ≡ xs ++ new → drop (length xs) ys ≡ new
  added xs ys new e = ap (drop (length xs)) e ∙ drop-append_seam xs new

  -- the entries new were added
  pub adds_list : (n : ℕ) (xs ys new : List (ℕ × E)) → ys ≡ xs ++ new → All (λ (e : ℕ × E). e.0 ≡ n) new → Adds n xs ys
  adds_list n xs ys new e all = ((new, sym e), subst (All (λ (e : ℕ × E). e.0 ≡ n)) (sym (added xs ys new e)) all)

  -- one entry was added, or none
  pub adds_or : (b : Bool) (n : ℕ) (xs ys : List (ℕ × E)) (x : ℕ × E) → x.0 ≡ n → MatchBool b (ys ≡ xs ++ x ∷ []) (ys ≡ xs) → Adds n xs ys
  adds_or true n xs ys x by_n e = adds_list n xs ys (x ∷ []) e (one x by_n)
    where
      one : (x : ℕ × E) → x.0 ≡ n → (k : ℕ) (d : ℕ × E) → k < 1 → (get_or (x ∷ []) k d).0 ≡ n
      one x h zero d l = h
      one x h (suc k) d l = absurd (omega arith)
  adds_or false n xs ys x by_n e = adds_none n xs ys (sym e)

  pub own_or : (b : Bool) (xs ys own : List (ℕ × E)) (x : ℕ × E) → MatchBool b (ys ≡ xs ++ x ∷ []) (ys ≡ xs) → MatchBool b (own ++ drop (length xs) ys ≡ own ++ x ∷ []) (own ++ drop (length xs) ys ≡ own)
  own_or true xs ys own x e = ap (λ z. own ++ z) (added xs ys (x ∷ []) e)
  own_or false xs ys own x e = adds_no_more xs ys own (sym e)

  pub grows_none : (most : ℕ) (xs : List (ℕ × E)) → Grows most xs xs
  grows_none most xs = (prefix_self xs, λ k d l. let z = ap length (drop-length xs) in absurd (omega arith))

  pub grows_on : (most n : ℕ) (xs ys zs : List (ℕ × E)) → IsPass most n → Grows most xs ys → Adds n ys zs → Grows most xs zs
  grows_on most n xs ys zs pass grown adds =
      let a = drop (length xs) ys in let b = drop (length ys) zs in
      let e : zs ≡ xs ++ (a ++ b) = sym (prefix_rest ys zs adds.0) ∙ (ap (λ w. w ++ b) (sym (prefix_rest xs ys grown.0)) ∙ append_assoc xs a b) in
      let more : All (λ (e : ℕ × E). IsPass most e.0) b = λ k d l. subst (IsPass most) (sym (adds.1 k d l)) pass in
      (prefix_trans xs ys zs grown.0 adds.0, subst (All (λ (e : ℕ × E). IsPass most e.0)) (sym (added xs zs (a ++ b) e)) (All-append (λ (e : ℕ × E). IsPass most e.0) a b grown.1 more))
