-- What follows from the answer of a command line.
use Rattle.std.proofs.Common.{◌<◌, ◌≡◌, ◌⊎◌, ℕ, Bool, true, false, inl, inr, ⊎_elim, List, [], ◌∷◌, Option, Some, None, Result, Ok, Err, refl, sym, subst, ◌∙◌, arith}
use Rattle.std.specs.Io.KnownBytes.{append_known}
use Rattle.eco_common.specs.Causes.{Rose}
use Rattle.eco_cli.specs.CommandLine.{Listed, is_bad, is_complete, HasReading, IsFirstBad}
use Rattle.eco_cli.specs.Commands.{options_of, job_of, Asks, IsBadWord}
use Rattle.eco_cli.specs.Opens.{Told}
use Rattle.eco_cli.specs.Ending.{Comes, IsRefusal}
use Rattle.eco_cli.specs.Returns.{ReturnsSome}
use Rattle.eco_cli.specs.Telling.{status_of, line_of, Tells}
use Rattle.eco_cli.specs.declared.command.Command.{Command}
use Rattle.eco_cli.specs.declared.done.Done.{Done}
use Rattle.eco_cli.specs.declared.failure.Failure.{Failure}
use Rattle.eco_cli.specs.declared.failure.Failure.TheVariants as failed
use Rattle.eco_cli.proofs.Returning.{returns_some}

one_bit : (b : Bool) → b ≡ false → b ≡ true → ⊥
one_bit true is other = cc
one_bit false is other = cc

none_some : (c : Command) → None ≡ Some c → ⊥
none_some c is = cc

some_same : (c d : Command) → Some c ≡ Some d → c ≡ d
some_same c d is = cc

-- an answer is one status alone
one_status : (answer a b : ℕ) → answer ≡ a → answer ≡ b → a < b → ⊥
one_status answer a b first second less = omega arith

done_ends : {T I O : Type 0} (h : Told T I O) (left : I → Option (List ℕ)) (taken : O → Option (List ℕ)) (old new : T) (words : List (List ℕ)) (before after : Option (List ℕ)) (r : Result Done Failure) → status_of r ≡ 0 → Comes h left taken old new words r → after ≡ append_known before (line_of r) →
    (d : Done) × Comes h left taken old new words (Ok d) × (after ≡ append_known before (line_of (Ok d)))
done_ends h left taken old new words before after (Ok d) is comes told = (d, comes, told)
done_ends h left taken old new words before after (Err (failed.Words n)) is comes told = cc
done_ends h left taken old new words before after (Err (failed.TooLong option)) is comes told = cc
done_ends h left taken old new words before after (Err (failed.Refused refusal)) is comes told = cc
done_ends h left taken old new words before after (Err failed.Read) is comes told = cc
done_ends h left taken old new words before after (Err failed.Write) is comes told = cc
done_ends h left taken old new words before after (Err failed.Memory) is comes told = cc

pub done_answers : {T I O : Type 0} (h : Told T I O) (left : I → Option (List ℕ)) (taken : O → Option (List ℕ)) (old new : T) (words : List (List ℕ)) (before after : Option (List ℕ)) (f f' : ℕ) (r : Result Done Failure) (answer : ℕ) →
    Comes h left taken old new words r → Tells before after f f' (line_of r) (status_of r) answer → answer ≡ 0 → (d : Done) × Comes h left taken old new words (Ok d) × (after ≡ append_known before (line_of (Ok d)))
done_answers h left taken old new words before after f f' r answer comes (inl t) is = done_ends h left taken old new words before after r (sym t.0 ∙ is) comes t.1
done_answers h left taken old new words before after f f' r answer comes (inr t) is = absurd (one_status answer 0 4 is t.0 (omega arith))

refused_ends : {T I O : Type 0} (h : Told T I O) (left : I → Option (List ℕ)) (taken : O → Option (List ℕ)) (old new : T) (words : List (List ℕ)) (before after : Option (List ℕ)) (r : Result Done Failure) → status_of r ≡ 1 → Comes h left taken old new words r → after ≡ append_known before (line_of r) →
    (e : Failure) × IsRefusal e × Comes h left taken old new words (Err e) × (after ≡ append_known before (line_of (Err e)))
refused_ends h left taken old new words before after (Ok d) is comes told = cc
refused_ends h left taken old new words before after (Err (failed.Words n)) is comes told = cc
refused_ends h left taken old new words before after (Err (failed.TooLong option)) is comes told = (failed.TooLong option, tt, comes, told)
refused_ends h left taken old new words before after (Err (failed.Refused refusal)) is comes told = (failed.Refused refusal, tt, comes, told)
refused_ends h left taken old new words before after (Err failed.Read) is comes told = cc
refused_ends h left taken old new words before after (Err failed.Write) is comes told = cc
refused_ends h left taken old new words before after (Err failed.Memory) is comes told = cc

pub refused_answers : {T I O : Type 0} (h : Told T I O) (left : I → Option (List ℕ)) (taken : O → Option (List ℕ)) (old new : T) (words : List (List ℕ)) (before after : Option (List ℕ)) (f f' : ℕ) (r : Result Done Failure) (answer : ℕ) →
    Comes h left taken old new words r → Tells before after f f' (line_of r) (status_of r) answer → answer ≡ 1 → (e : Failure) × IsRefusal e × Comes h left taken old new words (Err e) × (after ≡ append_known before (line_of (Err e)))
refused_answers h left taken old new words before after f f' r answer comes (inl t) is = refused_ends h left taken old new words before after r (sym t.0 ∙ is) comes t.1
refused_answers h left taken old new words before after f f' r answer comes (inr t) is = absurd (one_status answer 1 4 is t.0 (omega arith))

words_ends : {T I O : Type 0} (h : Told T I O) (left : I → Option (List ℕ)) (taken : O → Option (List ℕ)) (old new : T) (words : List (List ℕ)) (before after : Option (List ℕ)) (r : Result Done Failure) → status_of r ≡ 2 → Comes h left taken old new words r → after ≡ append_known before (line_of r) →
    (n : ℕ) × Comes h left taken old new words (Err (failed.Words n)) × (after ≡ append_known before (line_of (Err (failed.Words n))))
words_ends h left taken old new words before after (Ok d) is comes told = cc
words_ends h left taken old new words before after (Err (failed.Words n)) is comes told = (n, comes, told)
words_ends h left taken old new words before after (Err (failed.TooLong option)) is comes told = cc
words_ends h left taken old new words before after (Err (failed.Refused refusal)) is comes told = cc
words_ends h left taken old new words before after (Err failed.Read) is comes told = cc
words_ends h left taken old new words before after (Err failed.Write) is comes told = cc
words_ends h left taken old new words before after (Err failed.Memory) is comes told = cc

pub words_answers : {T I O : Type 0} (h : Told T I O) (left : I → Option (List ℕ)) (taken : O → Option (List ℕ)) (old new : T) (words : List (List ℕ)) (before after : Option (List ℕ)) (f f' : ℕ) (r : Result Done Failure) (answer : ℕ) →
    Comes h left taken old new words r → Tells before after f f' (line_of r) (status_of r) answer → answer ≡ 2 → (n : ℕ) × Comes h left taken old new words (Err (failed.Words n)) × (after ≡ append_known before (line_of (Err (failed.Words n))))
words_answers h left taken old new words before after f f' r answer comes (inl t) is = words_ends h left taken old new words before after r (sym t.0 ∙ is) comes t.1
words_answers h left taken old new words before after f f' r answer comes (inr t) is = absurd (one_status answer 2 4 is t.0 (omega arith))

-- ---- a failed read or write

read_ends : {T I O : Type 0} (h : Told T I O) (left : I → Option (List ℕ)) (taken : O → Option (List ℕ)) (old new : T) (words : List (List ℕ)) (r : Result Done Failure) → status_of r ≡ 3 → Comes h left taken old new words r → Rose (h.refused old) (h.refused new) ⊎ Rose (h.read_faults old) (h.read_faults new)
read_ends h left taken old new words (Ok d) is comes = cc
read_ends h left taken old new words (Err (failed.Words n)) is comes = cc
read_ends h left taken old new words (Err (failed.TooLong option)) is comes = cc
read_ends h left taken old new words (Err (failed.Refused refusal)) is comes = cc
read_ends h left taken old new words (Err failed.Read) is comes = ⊎_elim (λ s. s.3) (λ w. inl w.8) comes.3.1
read_ends h left taken old new words (Err failed.Write) is comes = cc
read_ends h left taken old new words (Err failed.Memory) is comes = cc

pub read_answers : {T I O : Type 0} (h : Told T I O) (left : I → Option (List ℕ)) (taken : O → Option (List ℕ)) (old new : T) (words : List (List ℕ)) (before after : Option (List ℕ)) (f f' : ℕ) (r : Result Done Failure) (answer : ℕ) →
    Comes h left taken old new words r → Tells before after f f' (line_of r) (status_of r) answer → answer ≡ 3 → Rose (h.refused old) (h.refused new) ⊎ Rose (h.read_faults old) (h.read_faults new)
read_answers h left taken old new words before after f f' r answer comes (inl t) is = read_ends h left taken old new words r (sym t.0 ∙ is) comes
read_answers h left taken old new words before after f f' r answer comes (inr t) is = absurd (one_status answer 3 4 is t.0 (omega arith))

write_ends : {T I O : Type 0} (h : Told T I O) (left : I → Option (List ℕ)) (taken : O → Option (List ℕ)) (old new : T) (words : List (List ℕ)) (r : Result Done Failure) → status_of r ≡ 4 → Comes h left taken old new words r → Rose (h.write_faults old) (h.write_faults new)
write_ends h left taken old new words (Ok d) is comes = cc
write_ends h left taken old new words (Err (failed.Words n)) is comes = cc
write_ends h left taken old new words (Err (failed.TooLong option)) is comes = cc
write_ends h left taken old new words (Err (failed.Refused refusal)) is comes = cc
write_ends h left taken old new words (Err failed.Read) is comes = cc
write_ends h left taken old new words (Err failed.Write) is comes = comes.3.9
write_ends h left taken old new words (Err failed.Memory) is comes = cc

pub write_answers : {T I O : Type 0} (h : Told T I O) (left : I → Option (List ℕ)) (taken : O → Option (List ℕ)) (old new : T) (words : List (List ℕ)) (before after : Option (List ℕ)) (f f' : ℕ) (r : Result Done Failure) (answer : ℕ) →
    Comes h left taken old new words r → Tells before after f f' (line_of r) (status_of r) answer → answer ≡ 4 → Rose (h.write_faults old) (h.write_faults new) ⊎ Rose f f'
write_answers h left taken old new words before after f f' r answer comes (inl t) is = inl (write_ends h left taken old new words r (sym t.0 ∙ is) comes)
write_answers h left taken old new words before after f f' r answer comes (inr t) is = inr t.2

-- ---- bad words

no_first : (table : List Listed) (ws : List (List ℕ)) (m : ℕ) → HasReading table ws → IsFirstBad table ws m → ⊥
no_first table ws m reads (inl bad) = one_bit (is_bad table ws m) (reads.0 m bad.0) bad.1
no_first table ws m reads (inr bad) = one_bit (is_complete table ws) bad.2 reads.1

-- a line that asks for a command has no bad word
none_bad : (words : List (List ℕ)) (c : Command) (behind : List (List ℕ)) (n : ℕ) → Asks words c behind → IsBadWord words n → ⊥
none_bad [] c behind n asks bad = asks
none_bad (w ∷ ws) c behind n asks (inl bad) = none_some c (sym bad.0 ∙ asks.0)
none_bad (w ∷ ws) c behind n asks (inr bad) =
    let same : bad.0 ≡ c = some_same bad.0 c (sym bad.1 ∙ asks.0) in
    no_first (options_of c) ws bad.2.0 asks.2 (subst (λ k. IsFirstBad (options_of k) ws bad.2.0) same bad.2.2)

bad_ends : {T I O : Type 0} (h : Told T I O) (left : I → Option (List ℕ)) (taken : O → Option (List ℕ)) (old new : T) (words : List (List ℕ)) (r : Result Done Failure) (n : ℕ) → Comes h left taken old new words r → IsBadWord words n → status_of r ≡ 2
bad_ends h left taken old new words (Ok d) n comes bad = absurd (none_bad words comes.0 comes.1 n comes.2 bad)
bad_ends h left taken old new words (Err (failed.Words k)) n comes bad = refl
bad_ends h left taken old new words (Err (failed.TooLong option)) n comes bad = absurd (none_bad words comes.0 comes.1 n comes.2 bad)
bad_ends h left taken old new words (Err (failed.Refused refusal)) n comes bad = absurd (none_bad words comes.0 comes.1 n comes.2 bad)
bad_ends h left taken old new words (Err failed.Read) n comes bad = absurd (none_bad words comes.0 comes.1 n comes.2 bad)
bad_ends h left taken old new words (Err failed.Write) n comes bad = absurd (none_bad words comes.0 comes.1 n comes.2 bad)
bad_ends h left taken old new words (Err failed.Memory) n comes bad = absurd (none_bad words comes.0 comes.1 n comes.2 bad)

pub bad_word_answers : {T I O : Type 0} (h : Told T I O) (left : I → Option (List ℕ)) (taken : O → Option (List ℕ)) (old new : T) (words : List (List ℕ)) (before after : Option (List ℕ)) (f f' : ℕ) (r : Result Done Failure) (answer n : ℕ) →
    Comes h left taken old new words r → Tells before after f f' (line_of r) (status_of r) answer → IsBadWord words n → (answer ≡ 2) ⊎ (answer ≡ 4)
bad_word_answers h left taken old new words before after f f' r answer n comes (inl t) bad = inl (t.0 ∙ bad_ends h left taken old new words r n comes bad)
bad_word_answers h left taken old new words before after f f' r answer n comes (inr t) bad = inr t.0

-- ---- what is given back

-- a line asks for one job alone
one_asked : {T I O : Type 0} (h : Told T I O) (left : I → Option (List ℕ)) (old new : T) (words : List (List ℕ)) (c d : Command) (these those : List (List ℕ)) → Asks words c these → Asks words d those →
    ReturnsSome h left old new (job_of d those).inputs → ReturnsSome h left old new (job_of c these).inputs
one_asked h left old new [] c d these those one other back = absurd one
one_asked h left old new (w ∷ ws) c d these those one other back =
    let same : d ≡ c = some_same d c (sym other.0 ∙ one.0) in
    let after : those ≡ these = other.1 ∙ sym one.1 in
    subst (λ k. ReturnsSome h left old new (job_of k these).inputs) same (subst (λ ws. ReturnsSome h left old new (job_of d ws).inputs) after back)

pub returned_answers : {T I O : Type 0} (h : Told T I O) (left : I → Option (List ℕ)) (taken : O → Option (List ℕ)) (old new : T) (words : List (List ℕ)) (r : Result Done Failure) (c : Command) (after : List (List ℕ)) →
    Comes h left taken old new words r → Asks words c after → ReturnsSome h left old new (job_of c after).inputs
returned_answers h left taken old new words (Ok d) c after comes asks =
    one_asked h left old new words c comes.0 after comes.1 asks comes.2 (returns_some h left old new (job_of comes.0 comes.1).inputs (Ok d) comes.4)
returned_answers h left taken old new words (Err (failed.TooLong option)) c after comes asks =
    one_asked h left old new words c comes.0 after comes.1 asks comes.2 (returns_some {V = Done} h left old new (job_of comes.0 comes.1).inputs (Err (failed.TooLong option)) comes.4)
returned_answers h left taken old new words (Err (failed.Refused refusal)) c after comes asks =
    one_asked h left old new words c comes.0 after comes.1 asks comes.2 (returns_some {V = Done} h left old new (job_of comes.0 comes.1).inputs (Err (failed.Refused refusal)) comes.4)
returned_answers h left taken old new words (Err failed.Read) c after comes asks =
    one_asked h left old new words c comes.0 after comes.1 asks comes.2 (returns_some {V = Done} h left old new (job_of comes.0 comes.1).inputs (Err failed.Read) comes.4)
returned_answers h left taken old new words (Err failed.Write) c after comes asks =
    one_asked h left old new words c comes.0 after comes.1 asks comes.2 (returns_some {V = Done} h left old new (job_of comes.0 comes.1).inputs (Err failed.Write) comes.4)
returned_answers h left taken old new words (Err failed.Memory) c after comes asks =
    one_asked h left old new words c comes.0 after comes.1 asks comes.2 (returns_some {V = Done} h left old new (job_of comes.0 comes.1).inputs (Err failed.Memory) comes.4)
returned_answers h left taken old new words (Err (failed.Words n)) c after comes asks = absurd (none_bad words c after n asks comes.0)
