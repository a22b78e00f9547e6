-- The words of a command line.
use Rattle.std.proofs.Common.{◌≡◌, ℕ, zero, suc, inl, inr, ◌-◌, ◌+◌, ◌%◌, ◌<◌, ◌≤◌, ◌⊎◌, Bool, true, false, not, ◌&&◌, ◌||◌, Some, List, [], ◌∷◌, map, take, drop, length, get_or, refl, ap, sym, arith}
use Rattle.std.proofs.lemmas.List.{take_all}
use Rattle.std.specs.List.{list_all, list_any}
use Rattle.std.specs.Str.{bytes_eq}
use Rattle.eco_cli.specs.CommandLine.{Listed, is_listed, options_in, is_value, suits, word_at, is_bad, is_complete, value_of, NoneBad, HasReading, IsFirstBad}
use Rattle.eco_common.specs.NameBytes.{is_among}
use Rattle.eco_cli.specs.Commands.{command_named, options_of, Asks, IsBadWord}
use Rattle.eco_cli.specs.declared.command.Command.{Command}

pub list_any-map : {A B : Type 0} (p : B → Bool) (g : A → B) (xs : List A) → list_any p (map g xs) ≡ list_any (λ x. p (g x)) xs
list_any-map p g [] = refl
list_any-map p g (x ∷ xs) = ap (λ b. p (g x) || b) (list_any-map p g xs)

pub list_all-map : {A B : Type 0} (p : B → Bool) (g : A → B) (xs : List A) → list_all p (map g xs) ≡ list_all (λ x. p (g x)) xs
list_all-map p g [] = refl
list_all-map p g (x ∷ xs) = ap (λ b. p (g x) && b) (list_all-map p g xs)

pub is_no_option : (a r x : Bool) → a ≡ r → r ≡ false → not r ≡ (not a || x)
is_no_option a r x same is = rw (same, is) refl

pub is_an_option : (a r x : Bool) → a ≡ r → r ≡ true → x ≡ (not a || x)
is_an_option a r x same is = rw (same, is) refl

pub unfit : (v s t : Bool) → v ≡ true → s ≡ t → not s ≡ (not v || not t)
unfit v s t is same = rw (same, is) refl

-- a word that stands for an option
pub bad_option : (table : List Listed) (ws before : List (List ℕ)) (k : ℕ) (w : List ℕ) → k % 2 ≡ 0 → w ≡ word_at ws k → before ≡ take k ws →
    (not (is_listed table w) || is_among (options_in before) w) ≡ is_bad table ws k
bad_option table ws before k w even is these = rw (even, sym is, sym these) refl

-- a word that stands for a value
pub bad_value : (table : List Listed) (ws : List (List ℕ)) (k : ℕ) (option w : List ℕ) → (k % 2 ≡ 0 → ⊥) → w ≡ word_at ws k → option ≡ word_at ws (k - 1) →
    (not (is_value w) || not (suits table option w)) ≡ is_bad table ws k
bad_value table ws k option w odd is behind = let one : k % 2 ≡ 1 = omega arith in rw (one, sym is, sym behind) refl

-- the words behind a pair that isn't the option's
pub value_behind : {A : Type 0} (g : A → List ℕ) (ws : List A) (option : List ℕ) (d : A) (name : List ℕ) → 2 ≤ length ws → name ≡ g (get_or ws 0 d) → bytes_eq name option ≡ false →
    value_of (map g (take (length ws - 2) (drop 2 ws))) option ≡ value_of (map g ws) option
value_behind g [] option d name long is other = absurd (omega arith)
value_behind g (x ∷ []) option d name long is other = absurd (omega arith)
value_behind g (x ∷ y ∷ ws) option d name long is other = rw (sym is, other) (ap (λ r. value_of (map g r) option) (take_all (length (x ∷ y ∷ ws) - 2) ws (omega arith)))

split : (n : ℕ) → (n ≡ 0) ⊎ (0 < n)
split zero = inl refl
split (suc n) = inr (omega arith)

up_to : (P : ℕ → Type 0) (k n : ℕ) → k < n + 1 → (k < n → P k) → P n → P k
up_to P k n lt before last = elim (split (n - k)) [ inl none ↦ let is : k ≡ n = omega arith in rw is last | inr some ↦ before (omega arith) ]

-- the last word that was looked at
pub none_bad_then : (table : List Listed) (ws : List (List ℕ)) (n : ℕ) → NoneBad table ws n → is_bad table ws n ≡ false → NoneBad table ws (n + 1)
none_bad_then table ws n none last k lt = up_to (λ i. is_bad table ws i ≡ false) k n lt (λ less. none k less) last

pub complete_where_even : (table : List Listed) (ws : List (List ℕ)) (all : Bool) → length ws % 2 ≡ 0 → all ≡ list_all (λ o. is_among (options_in ws) o.word) table → all ≡ is_complete table ws
complete_where_even table ws all even is = rw even is

-- a line is its first word and the others
pub line_is : {A : Type 0} (g : A → List ℕ) (ws : List A) (d : A) (w : List ℕ) → 1 ≤ length ws → w ≡ g (get_or ws 0 d) → map g ws ≡ w ∷ map g (take (length ws - 1) (drop 1 ws))
line_is g [] d w some is = absurd (omega arith)
line_is g (x ∷ ws) d w some is = rw is (ap (λ r. g x ∷ map g r) (sym (take_all (length (x ∷ ws) - 1) ws (omega arith))))

pub bad_behind : (w : List ℕ) (ws : List (List ℕ)) (c : Command) (k : ℕ) → command_named w ≡ Some c → IsFirstBad (options_of c) ws k → IsBadWord (w ∷ ws) (k + 1)
bad_behind w ws c k is bad = inr (c, is, (k, refl, bad))

pub asked_reads : (ws : List (List ℕ)) (c : Command) (behind : List (List ℕ)) → Asks ws c behind → HasReading (options_of c) behind
asked_reads [] c behind asks = absurd asks
asked_reads (w ∷ ws) c behind asks = rw asks.1 asks.2
