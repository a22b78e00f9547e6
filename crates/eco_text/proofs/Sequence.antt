-- One write after another.
use Rattle.std.proofs.Common.{◌≡◌, ℕ, suc, subst, ◌+◌, ◌<◌, min, List, [], ◌∷◌, ◌++◌, length, take, drop, get_or, Option, Some, None, Result, Ok, Err, refl, ap, sym, ◌∙◌, arith, append_assoc, append-nil}
use Rattle.std.specs.Io.KnownBytes.{append_known}
use Rattle.std.specs.Borrow.{Bor}
use Rattle.std.specs.List.{flat_map}
use Rattle.std.proofs.lemmas.List.Concat.{flat_map-append}
use Rattle.std.proofs.lemmas.List.{take-append-le, take_min, take-append-drop, drop_more}
use Rattle.eco_text.specs.Writing.{joined, AppendsFront, Writes}
use Rattle.eco_common.specs.declared.failed.Failed.{Failed}

pub appends_nothing : (known : Option (List ℕ)) → known ≡ append_known known []
appends_nothing None = refl
appends_nothing (Some xs) = ap Some (sym (append-nil xs))

append_known-twice : (a : Option (List ℕ)) (xs ys : List ℕ) → append_known (append_known a xs) ys ≡ append_known a (xs ++ ys)
append_known-twice None xs ys = refl
append_known-twice (Some before) xs ys = ap Some (append_assoc before xs ys)

pub appends_more : (a b c : Option (List ℕ)) (xs ys : List ℕ) → b ≡ append_known a xs → c ≡ append_known b ys → c ≡ append_known a (xs ++ ys)
appends_more a b c xs ys first second = second ∙ ap (λ k. append_known k ys) first ∙ append_known-twice a xs ys

take-behind : (xs ys : List ℕ) (n : ℕ) → take (length xs + n) (xs ++ ys) ≡ xs ++ take n ys
take-behind [] ys n = ap (λ k. take k ys) (omega arith)
take-behind (x ∷ xs) ys n = ap (λ k. take k ((x ∷ xs) ++ ys)) (let more : length (x ∷ xs) + n ≡ suc (length xs + n) = omega arith in more) ∙ ap (λ zs. x ∷ zs) (take-behind xs ys n)

pub front_behind : (a b c : Option (List ℕ)) (xs ys : List ℕ) → b ≡ append_known a xs → AppendsFront b c ys → AppendsFront a c (xs ++ ys)
front_behind a b c xs ys first front =
    (length xs + front.0, let P : List ℕ → Type 0 = λ zs. c ≡ append_known a zs in subst P (sym (take-behind xs ys front.0)) (appends_more a b c xs (take front.0 ys) first front.1))

take-min : (xs ys : List ℕ) (n : ℕ) → take (min n (length xs)) (xs ++ ys) ≡ take n xs
take-min xs ys n = take-append-le (min n (length xs)) xs ys (omega arith) ∙ take_min n xs

pub front_longer : (a b : Option (List ℕ)) (xs ys : List ℕ) → AppendsFront a b xs → AppendsFront a b (xs ++ ys)
front_longer a b xs ys front =
    (min front.0 (length xs), let P : List ℕ → Type 0 = λ zs. b ≡ append_known a zs in subst P (sym (take-min xs ys front.0)) front.1)

-- nothing was written yet
pub begun : {K T E : Type 0} (taken : K → Option (List ℕ)) (faults : K → ℕ) (k : K) (x : T) → Writes {E = E} taken faults k k (Ok x) []
begun taken faults k x = record { bytes_taken = appends_nothing (taken k); cause = record { later = omega arith; failed = tt } }

-- a write that went well, and one after it
pub then : {K : Type 0} {taken : K → Option (List ℕ)} {faults : K → ℕ} {old mid new : K} {r : Result (Unit {0}) Failed} {xs ys : List ℕ} →
    Writes {T = Unit {0}} {E = Failed} taken faults old mid (Ok (tt {0})) xs → Writes taken faults mid new r ys → Writes taken faults old new r (xs ++ ys)
then {taken} {faults} {old} {mid} {new} {r = Ok y} {xs} {ys} first second =
    record { bytes_taken = appends_more (taken old) (taken mid) (taken new) xs ys first.bytes_taken second.bytes_taken; cause = record { later = omega (arith, first.cause.later, second.cause.later); failed = tt } }
then {taken} {faults} {old} {mid} {new} {r = Err e} {xs} {ys} first second =
    record {
      bytes_taken = front_behind (taken old) (taken mid) (taken new) xs ys first.bytes_taken second.bytes_taken;
      cause = record { later = omega (arith, first.cause.later, second.cause.later); failed = omega (arith, first.cause.later, second.cause.failed) };
    }

-- a write that failed is one of more bytes too
pub longer : {K : Type 0} {taken : K → Option (List ℕ)} {faults : K → ℕ} {old new : K} {e : Failed} {xs : List ℕ} (ys : List ℕ) →
    Writes {T = Unit {0}} taken faults old new (Err e) xs → Writes {T = Unit {0}} taken faults old new (Err e) (xs ++ ys)
longer {taken} {faults} {old} {new} {e} {xs} ys failed = record { bytes_taken = front_longer (taken old) (taken new) xs ys failed.bytes_taken; cause = failed.cause }

-- the pieces before one, that one, and those after it
pub joined_split : (d : Bor (List ℕ)) (ps : List (Bor (List ℕ))) (i : ℕ) → i < length ps →
    joined ps ≡ (joined (take i ps) ++ (get_or ps i d).now) ++ joined (drop (i + 1) ps)
joined_split d ps i lt =
    sym (ap joined (take-append-drop i ps))
    ∙ flat_map-append (λ piece. piece.now) (take i ps) (drop i ps)
    ∙ ap (λ zs. joined (take i ps) ++ joined zs) (drop_more ps i d lt)
    ∙ sym (append_assoc (joined (take i ps)) (get_or ps i d).now (joined (drop (i + 1) ps)))

split_at : {X : Type 0} (f : X → List ℕ) (d : X) (xs : List X) (i : ℕ) → i < length xs →
    flat_map f xs ≡ (flat_map f (take i xs) ++ f (get_or xs i d)) ++ flat_map f (drop (i + 1) xs)
split_at f d xs i lt =
    sym (ap (flat_map f) (take-append-drop i xs))
    ∙ flat_map-append f (take i xs) (drop i xs)
    ∙ ap (λ zs. flat_map f (take i xs) ++ flat_map f zs) (drop_more xs i d lt)
    ∙ sym (append_assoc (flat_map f (take i xs)) (f (get_or xs i d)) (flat_map f (drop (i + 1) xs)))

-- a loop that writes one item after another, and fails at one
pub fails_at : {K X : Type 0} {taken : K → Option (List ℕ)} {faults : K → ℕ} {old mid new : K} {e : Failed} (f : X → List ℕ) (item : X) (xs : List X) (i : ℕ) →
    i < length xs → item ≡ get_or xs i item → Writes {T = Unit {0}} {E = Failed} taken faults old mid (Ok (tt {0})) (flat_map f (take i xs)) → Writes {T = Unit {0}} taken faults mid new (Err e) (f item) →
    Writes {T = Unit {0}} taken faults old new (Err e) (flat_map f xs)
fails_at f item xs i lt is before failed =
    rw (split_at f item xs i lt) (longer (flat_map f (drop (i + 1) xs)) (then before (rw is at failed)))

-- the same, with the item as the code reads it
pub fails_at_read : {K X : Type 0} {taken : K → Option (List ℕ)} {faults : K → ℕ} {old mid new : K} {e : Failed} (f : X → List ℕ) (d : X) (xs : List X) (i : ℕ) →
    i < length xs → Writes {T = Unit {0}} {E = Failed} taken faults old mid (Ok (tt {0})) (flat_map f (take i xs)) → Writes {T = Unit {0}} taken faults mid new (Err e) (f (get_or xs i d)) →
    Writes {T = Unit {0}} taken faults old new (Err e) (flat_map f xs)
fails_at_read f d xs i lt before failed =
    rw (split_at f d xs i lt) (longer (flat_map f (drop (i + 1) xs)) (then before failed))
