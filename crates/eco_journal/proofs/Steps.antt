-- What a crash makes of bytes of a journal's form, in each kind of call.
use Rattle.std.proofs.Common.{◌≡◌, ℕ, zero, suc, ◌+◌, ◌-◌, ◌≤◌, min, max, List, [], ◌∷◌, ◌++◌, length, take, drop, get_or, refl, sym, ap, ◌∙◌, arith, append_assoc, length-append, length-drop, take-append-drop}
use Rattle.std.proofs.lemmas.List.{take_at, drop_at, drop_all, drop_more, append-nil}
use Rattle.eco_disk.specs.Disk.{Torn, Cut, written}

-- a write after a byte leaves what stands up to it
pub torn_behind : (front : List ℕ) (gate n : ℕ) (rest c : List ℕ) → Torn (length front + 1) n (front ++ gate ∷ rest) c → (r : List ℕ) × (c ≡ front ++ gate ∷ r) × (length r ≤ max (length rest) n)
torn_behind front gate n rest c torn =
    let k = length front + 1 in
    let old = front ++ gate ∷ rest in
    let size : length old ≡ length front + 1 + length rest = omega (arith, length-append front (gate ∷ rest)) in
    let within : min k (length old) ≡ k = omega (arith, size) in
    let kept : take k c ≡ front ++ gate ∷ [] =
    ap (λ m. take m c) (sym within) ∙ torn.before
    ∙ ap (λ (l : List ℕ). take k l) (sym (append_assoc front (gate ∷ []) rest))
    ∙ take_at (front ++ gate ∷ []) rest k (omega (arith, length-append front (gate ∷ []))) in
    let whole : c ≡ front ++ gate ∷ drop k c =
    sym (take-append-drop k c) ∙ ap (λ (l : List ℕ). l ++ drop k c) kept ∙ append_assoc front (gate ∷ []) (drop k c) in
    (drop k c, whole, omega (arith, length-drop k c, torn.no_longer, size))

-- a write over one byte leaves the others
pub torn_gate : (front : List ℕ) (gate : ℕ) (rest c : List ℕ) → Torn (length front) 1 (front ++ gate ∷ rest) c → (g : ℕ) × (c ≡ front ++ g ∷ rest)
torn_gate front gate rest c torn =
    let k = length front in
    let old = front ++ gate ∷ rest in
    let size : length old ≡ k + 1 + length rest = omega (arith, length-append front (gate ∷ rest)) in
    let within : min k (length old) ≡ k = omega (arith, size) in
    let kept : take k c ≡ front = ap (λ m. take m c) (sym within) ∙ torn.before ∙ take_at front (gate ∷ rest) k refl in
    let after : drop (k + 1) c ≡ rest =
    torn.after ∙ ap (λ (l : List ℕ). drop (k + 1) l) (sym (append_assoc front (gate ∷ []) rest))
    ∙ drop_at (front ++ gate ∷ []) rest (k + 1) (omega (arith, length-append front (gate ∷ []))) in
    let g = get_or c k 0 in
    let split : drop k c ≡ g ∷ rest = drop_more c k 0 (omega (arith, torn.no_shorter, size)) ∙ ap (λ (l : List ℕ). g ∷ l) after in
    (g, sym (take-append-drop k c) ∙ ap (λ (l : List ℕ). l ++ drop k c) kept ∙ ap (λ (l : List ℕ). front ++ l) split)

take_past : (xs ys : List ℕ) (m n : ℕ) → m ≡ length xs + n → take m (xs ++ ys) ≡ xs ++ take n ys
take_past [] ys m n is = let same : m ≡ n = omega (arith, is) in ap (λ (k : ℕ). take k ys) same
take_past (x ∷ xs) ys zero n is = absurd (omega (arith, is))
take_past (x ∷ xs) ys (suc m) n is = ap (λ (l : List ℕ). x ∷ l) (take_past xs ys m n (omega (arith, is)))

-- a cut after a byte leaves what stands up to it
pub cut_behind : (front : List ℕ) (gate : ℕ) (rest c : List ℕ) → Cut (length front + 1) (front ++ gate ∷ rest) c → (r : List ℕ) × (c ≡ front ++ gate ∷ r)
cut_behind front gate rest c cut =
    let k = length front + 1 in
    let size : length (front ++ gate ∷ rest) ≡ k + length rest = omega (arith, length-append front (gate ∷ rest)) in
    let long : k ≤ length c = omega (arith, cut.no_shorter, size) in
    let n = length c - k in
    let whole : c ≡ (front ++ gate ∷ []) ++ take n rest =
    cut.front ∙ ap (λ (l : List ℕ). take (length c) l) (sym (append_assoc front (gate ∷ []) rest))
    ∙ take_past (front ++ gate ∷ []) rest (length c) n (omega (arith, long, length-append front (gate ∷ []))) in
    (take n rest, whole ∙ append_assoc front (gate ∷ []) (take n rest))

pub cut_done : (front : List ℕ) (gate : ℕ) (rest : List ℕ) → take (length front + 1) (front ++ gate ∷ rest) ≡ front ++ gate ∷ []
cut_done front gate rest =
    ap (λ (l : List ℕ). take (length front + 1) l) (sym (append_assoc front (gate ∷ []) rest))
    ∙ take_at (front ++ gate ∷ []) rest (length front + 1) (omega (arith, length-append front (gate ∷ [])))

-- a whole write after a byte that is at least as long as what stands there
pub written_behind : (front : List ℕ) (gate : ℕ) (rest piece : List ℕ) → length rest ≤ length piece → written (length front + 1) piece (front ++ gate ∷ rest) ≡ front ++ gate ∷ piece
written_behind front gate rest piece short =
    let past : drop (length front + 1 + length piece) (front ++ gate ∷ rest) ≡ [] =
    drop_all (length front + 1 + length piece) (front ++ gate ∷ rest) (omega (arith, short, length-append front (gate ∷ rest))) in
    (λ i. cut_done front gate rest i ++ piece ++ past i) ∙ append-nil (front ++ gate ∷ [] ++ piece) ∙ append_assoc front (gate ∷ []) piece

pub written_gate : (front : List ℕ) (gate byte : ℕ) (rest : List ℕ) → written (length front) (byte ∷ []) (front ++ gate ∷ rest) ≡ front ++ byte ∷ rest
written_gate front gate byte rest =
    let after : drop (length front + 1) (front ++ gate ∷ rest) ≡ rest =
    ap (λ (l : List ℕ). drop (length front + 1) l) (sym (append_assoc front (gate ∷ []) rest))
    ∙ drop_at (front ++ gate ∷ []) rest (length front + 1) (omega (arith, length-append front (gate ∷ []))) in
    (λ i. take_at front (gate ∷ rest) (length front) refl i ++ byte ∷ [] ++ after i) ∙ append_assoc front (byte ∷ []) rest
