-- What a limit on the number of macros leaves as it is.
use Rattle.std.proofs.Common.{◌≡◌, ℕ, zero, suc, ◌+◌, ◌<◌, ◌≤◌, nat_le, ◌⊎◌, inl, inr, Bool, true, false, List, [], ◌∷◌, ◌++◌, length, Option, Some, None, Result, Ok, Err, IfOk, refl, ap, sym, subst, ◌∙◌, arith, length-append, codes, if◌then◌else◌}
use Rattle.std.proofs.lemmas.Bool.Decides.{nat_tests}
use Rattle.eco_common.specs.declared.limits.TheConstants.{MAX_MASTERS}
use Rattle.eco_text.specs.Words.{Token, Walk, finished, open_quote, word_then, walk_of}
use Rattle.eco_lef.specs.declared.fault.LefFault.{LefFault}
use Rattle.eco_lef.specs.declared.fault.LefFault.TheVariants.{TwiceNamed, TooManyMasters, ArrayBlock, BadStatement}
use Rattle.eco_lef.specs.declared.master.Master.{Master}
use Rattle.eco_lef.specs.declared.statement.LibraryStatement.{LibraryStatement}
use Rattle.eco_lef.specs.declared.statement.LibraryStatement.TheVariants.{Defined, Other}
use Rattle.eco_lef.specs.declared.macro_statements.MacroBody.{MacroBody}
use Rattle.eco_lef.specs.Known.{names_of}
use Rattle.eco_lef.specs.Parsing.{Parser, ◌>>=◌, any, then_read, then_more, give, refuse, begins, name, pass_to, many, many_for, word_count}
use Rattle.eco_text.specs.Tokens.{is_word, is_one_of, is_name}
use Rattle.eco_common.specs.NameBytes.{is_among}
use Rattle.eco_lef.specs.Grammar.{unless_ended, block_ends, pass_block, master_of, macro_body, defined, named_blocks, plain_blocks, named_block, plain_block, passed_in_library, library_end, statement_under, library_statement_new, library_statement, masters_of, masters, value_read}
use Rattle.eco_lef.specs.Limits.{LimitsKeep, IsLibraryOf}
use Rattle.eco_lef.specs.Reading.{Reading, left, Gives, as_is}
use Rattle.eco_lef.proofs.Saying.{masters_more}

-- the fault of a macro for which there is no room
abbrev TooMany : {A : Type 0} → Result A LefFault → Type 0
TooMany x = (place : ℕ) × (x ≡ Err (TooManyMasters place))

-- a statement leaves the count of masters within the limit, or exceeds it
abbrev Fits : ℕ → ℕ → Result (Option LibraryStatement × Walk) LefFault → Type 0
Fits most count (Err e) = Unit {0}
Fits most count (Ok (None, v)) = Unit {0}
Fits most count (Ok (Some s, v)) = count + length (masters_of (s ∷ [])) ≤ most

abbrev Exceeds : ℕ → ℕ → Result (Option LibraryStatement × Walk) LefFault → Type 0
Exceeds most count (Err e) = Unit {0}
Exceeds most count (Ok (None, v)) = ⊥
Exceeds most count (Ok (Some s, v)) = most < count + length (masters_of (s ∷ []))

-- what a statement is read as with the limit, and without it
abbrev Near : ℕ → ℕ → Result (Option LibraryStatement × Walk) LefFault → Result (Option LibraryStatement × Walk) LefFault → Type 0
Near most count x y = ((x ≡ y) × Fits most count y) ⊎ (TooMany x × Exceeds most count y)

-- a statement that defines no macro
abbrev Plain : Result (Option LibraryStatement × Walk) LefFault → Type 0
Plain (Err e) = Unit {0}
Plain (Ok (None, v)) = Unit {0}
Plain (Ok (Some (Defined m), v)) = ⊥
Plain (Ok (Some Other, v)) = Unit {0}

plain_last : (r : Result (Token × Walk) LefFault) → Plain (then_read r (λ end. give (Some Other)))
plain_last (Err e) = tt
plain_last (Ok x) = tt

plain_passed : (heading keyword : List ℕ) (u : Walk) → Plain (passed_in_library heading keyword u)
unfolding passed_in_library
plain_passed heading keyword u = plain_last (pass_to heading (is_word keyword) u)

plain_plain : (heading : List ℕ) (u : Walk) → Plain (plain_block heading u)
unfolding plain_block
plain_plain heading u = go (any heading u)
  where
    go : (r : Result (Token × Walk) LefFault) → Plain (then_read r (λ h. pass_block heading >>= λ end. give (Some Other)))
    go (Err e) = tt
    go (Ok x) = plain_last (pass_block heading x.1)

plain_named : (heading : List ℕ) (u : Walk) → Plain (named_block heading u)
unfolding named_block
plain_named heading u = go (any heading u)
  where
    behind : (r : Result (Token × Walk) LefFault) → Plain (then_read r (λ n. pass_block n.bytes >>= λ end. give (Some Other)))
    behind (Err e) = tt
    behind (Ok x) = plain_last (pass_block x.0.bytes x.1)

    go : (r : Result (Token × Walk) LefFault) → Plain (then_read r (λ h. name heading >>= λ n. pass_block n.bytes >>= λ end. give (Some Other)))
    go (Err e) = tt
    go (Ok x) = behind (name heading x.1)

plain_end : (heading : List ℕ) (u : Walk) → Plain (library_end heading u)
unfolding library_end
plain_end heading u = go (block_ends heading (codes "LIBRARY") u)
  where
    go : (r : Result (Bool × Walk) LefFault) → Plain (then_read r (λ ended. give (unless_ended Other ended)))
    go (Err e) = tt
    go (Ok (true, v)) = tt
    go (Ok (false, v)) = tt

near_plain : (most count : ℕ) (y : Result (Option LibraryStatement × Walk) LefFault) → count ≤ most → Plain y → Near most count y y
near_plain most count (Err e) le plain = inl (refl, tt)
near_plain most count (Ok (None, v)) le plain = inl (refl, tt)
near_plain most count (Ok (Some (Defined m), v)) le plain = absurd plain
near_plain most count (Ok (Some Other, v)) le plain = inl (refl, omega (arith, le))

near_if : (most count : ℕ) (t : Bool) {x y z w : Result (Option LibraryStatement × Walk) LefFault} → Near most count x y → Near most count z w → Near most count (if t then x else z) (if t then y else w)
near_if most count true first second = first
near_if most count false first second = second

exceeds_defined : (most count : ℕ) (n : List ℕ) (r : Result (MacroBody × Walk) LefFault) → most ≤ count → Exceeds most count (then_read r (λ body. give (Some (Defined (master_of n body)))))
exceeds_defined most count n (Err e) full = tt
exceeds_defined most count n (Ok x) full = omega (arith, full)

-- a macro where there is no room
near_defined : (most count : ℕ) (heading : List ℕ) (known : List ℕ → Bool) (u : Walk) → most ≤ count → Near most count (defined heading known true u) (defined heading known false u)
unfolding defined
near_defined most count heading known (finished place) full = inl (refl, tt)
near_defined most count heading known (open_quote place) full = inl (refl, tt)
near_defined most count heading known (word_then w (finished place)) full = inl (refl, tt)
near_defined most count heading known (word_then w (open_quote place)) full = inl (refl, tt)
near_defined most count heading known (word_then w (word_then n z)) full = go (is_name n) (known n.bytes)
  where
    named : Bool → Bool → Bool → Parser Token
    named i k full' = λ v. if i then (if k then refuse heading TwiceNamed else if full' then refuse heading TooManyMasters else any heading) v else refuse heading BadStatement v

    go : (i k : Bool) →
        Near most count (then_read (named i k true (word_then n z)) (λ n. macro_body n.bytes >>= λ body. give (Some (Defined (master_of n.bytes body)))))
        (then_read (named i k false (word_then n z)) (λ n. macro_body n.bytes >>= λ body. give (Some (Defined (master_of n.bytes body)))))
    go false k = inl (refl, tt)
    go true true = inl (refl, tt)
    go true false = inr ((n.start, refl), exceeds_defined most count n.bytes (macro_body n.bytes z) full)

near_under : (most count : ℕ) (heading : List ℕ) (known : List ℕ → Bool) (u : Walk) → count ≡ most → Near most count (statement_under heading known true u) (statement_under heading known false u)
unfolding statement_under
near_under most count heading known u at =
    let le : count ≤ most = omega (arith, at) in
    near_if most count (begins (is_word (codes "END")) u) (near_plain most count (library_end heading u) le (plain_end heading u))
    (near_if most count (begins (is_word (codes "MACRO")) u) (near_defined most count heading known u (omega (arith, at)))
    (near_if most count (begins (is_one_of named_blocks) u) (near_plain most count (named_block heading u) le (plain_named heading u))
    (near_if most count (begins (is_one_of plain_blocks) u) (near_plain most count (plain_block heading u) le (plain_plain heading u))
    (near_if most count (begins (is_word (codes "BEGINEXT")) u) (near_plain most count (passed_in_library heading (codes "ENDEXT") u) le (plain_passed heading (codes "ENDEXT") u))
    (near_if most count (begins (is_word (codes "ARRAY")) u) (near_plain most count (refuse heading ArrayBlock u) le tt)
    (near_plain most count (passed_in_library heading (codes ";") u) le (plain_passed heading (codes ";") u)))))))

near_new : (most count : ℕ) (known : List ℕ → Bool) (u : Walk) → count ≡ most → Near most count (library_statement_new known true u) (library_statement_new known false u)
near_new most count known (finished place) at = inl (refl, tt)
near_new most count known (open_quote place) at = inl (refl, tt)
near_new most count known (word_then w v) at = near_under most count w.bytes known (word_then w v) at

fits_any : (most count : ℕ) (y : Result (Option LibraryStatement × Walk) LefFault) → count < most → Fits most count y
fits_any most count (Err e) lt = tt
fits_any most count (Ok (None, v)) lt = tt
fits_any most count (Ok (Some (Defined m), v)) lt = omega (arith, lt)
fits_any most count (Ok (Some Other, v)) lt = omega (arith, lt)

near : (most : ℕ) (front : List LibraryStatement) (u : Walk) → length (masters_of front) ≤ most → Near most (length (masters_of front)) (library_statement (nat_le most) front u) (library_statement (λ n. false) front u)
near most front u le = go (nat_le most (length (masters_of front))) refl
  where
    go : (b : Bool) → nat_le most (length (masters_of front)) ≡ b → Near most (length (masters_of front)) (library_statement_new (is_among (names_of (masters_of front))) b u) (library_statement_new (is_among (names_of (masters_of front))) false u)
    go false is = inl (refl, fits_any most (length (masters_of front)) (library_statement_new (is_among (names_of (masters_of front))) false u) (let lt : length (masters_of front) < most = grind (arith, nat_tests) in lt))
    go true is = near_new most (length (masters_of front)) (is_among (names_of (masters_of front))) u (let at : length (masters_of front) ≡ most = grind (arith, nat_tests) in at)

-- ---- all statements

abbrev FitsAll : ℕ → Result (List LibraryStatement × Walk) LefFault → Type 0
FitsAll most (Err e) = Unit {0}
FitsAll most (Ok x) = length (masters_of x.0) ≤ most

abbrev ExceedsAll : ℕ → Result (List LibraryStatement × Walk) LefFault → Type 0
ExceedsAll most (Err e) = Unit {0}
ExceedsAll most (Ok x) = most < length (masters_of x.0)

abbrev NearAll : ℕ → Result (List LibraryStatement × Walk) LefFault → Result (List LibraryStatement × Walk) LefFault → Type 0
NearAll most x y = ((x ≡ y) × FitsAll most y) ⊎ (TooMany x × ExceedsAll most y)

count_more : (front : List LibraryStatement) (s : LibraryStatement) → length (masters_of (front ++ s ∷ [])) ≡ length (masters_of front) + length (masters_of (s ∷ []))
count_more front s = ap length (masters_more front s) ∙ length-append (masters_of front) (masters_of (s ∷ []))

abbrev Grows : List LibraryStatement → Result (List LibraryStatement × Walk) LefFault → Type 0
Grows front (Err e) = Unit {0}
Grows front (Ok x) = length (masters_of front) ≤ length (masters_of x.0)

grows_from : (front more : List LibraryStatement) (r : Result (List LibraryStatement × Walk) LefFault) → length (masters_of front) ≤ length (masters_of more) → Grows more r → Grows front r
grows_from front more (Err e) le grows = tt
grows_from front more (Ok x) le grows = omega (arith, le, grows)

module _ (item : List LibraryStatement → Parser (Option LibraryStatement)) where
  -- the masters that were read stay
  grows : (n : ℕ) (front : List LibraryStatement) (u : Walk) → Grows front (many_for n [] item front u)
  grows zero front u = tt
  grows (suc n) front u = go (item front u) (λ s v. grows n (front ++ s ∷ []) v)
    where
      go : (r : Result (Option LibraryStatement × Walk) LefFault) → ((s : LibraryStatement) (v : Walk) → Grows (front ++ s ∷ []) (many_for n [] item (front ++ s ∷ []) v)) → Grows front (then_read r (then_more (many_for n [] item) front))
      go (Err e) rec = tt
      go (Ok (None, v)) rec = omega arith
      go (Ok (Some s, v)) rec = grows_from front (front ++ s ∷ []) (many_for n [] item (front ++ s ∷ []) v) (let more = count_more front s in omega (arith, more)) (rec s v)

exceeds_later : (most : ℕ) (front : List LibraryStatement) (r : Result (List LibraryStatement × Walk) LefFault) → most < length (masters_of front) → Grows front r → ExceedsAll most r
exceeds_later most front (Err e) lt grows = tt
exceeds_later most front (Ok x) lt grows = omega (arith, lt, grows)

module _ (most : ℕ) where
  abbrev limited : List LibraryStatement → Parser (Option LibraryStatement)
  limited = library_statement (nat_le most)

  abbrev free : List LibraryStatement → Parser (Option LibraryStatement)
  free = library_statement (λ n. false)

  abbrev goes_on : ℕ → List LibraryStatement → (List LibraryStatement → Parser (Option LibraryStatement)) → Result (Option LibraryStatement × Walk) LefFault → Result (List LibraryStatement × Walk) LefFault
  goes_on n front item r = then_read r (then_more (many_for n [] item) front)

  all_near : (n : ℕ) (front : List LibraryStatement) (u : Walk) → length (masters_of front) ≤ most → NearAll most (many_for n [] limited front u) (many_for n [] free front u)
  all_near zero front u le = inl (refl, tt)
  all_near (suc n) front u le = go (limited front u) (free front u) (near most front u le) (λ s v. all_near n (front ++ s ∷ []) v) (λ s v. grows free n (front ++ s ∷ []) v)
    where
      same : (y : Result (Option LibraryStatement × Walk) LefFault) → Fits most (length (masters_of front)) y →
          ((s : LibraryStatement) (v : Walk) → length (masters_of (front ++ s ∷ [])) ≤ most → NearAll most (many_for n [] limited (front ++ s ∷ []) v) (many_for n [] free (front ++ s ∷ []) v)) →
          NearAll most (goes_on n front limited y) (goes_on n front free y)
      same (Err e) fits rec = inl (refl, tt)
      same (Ok (None, v)) fits rec = inl (refl, le)
      same (Ok (Some s, v)) fits rec = rec s v (let more = count_more front s in omega (arith, more, fits))

      over : (y : Result (Option LibraryStatement × Walk) LefFault) → Exceeds most (length (masters_of front)) y →
          ((s : LibraryStatement) (v : Walk) → Grows (front ++ s ∷ []) (many_for n [] free (front ++ s ∷ []) v)) → ExceedsAll most (goes_on n front free y)
      over (Err e) exceeds rec = tt
      over (Ok (None, v)) exceeds rec = absurd exceeds
      over (Ok (Some s, v)) exceeds rec = exceeds_later most (front ++ s ∷ []) (many_for n [] free (front ++ s ∷ []) v) (let more = count_more front s in omega (arith, more, exceeds)) (rec s v)

      go : (x y : Result (Option LibraryStatement × Walk) LefFault) → Near most (length (masters_of front)) x y →
          ((s : LibraryStatement) (v : Walk) → length (masters_of (front ++ s ∷ [])) ≤ most → NearAll most (many_for n [] limited (front ++ s ∷ []) v) (many_for n [] free (front ++ s ∷ []) v)) →
          ((s : LibraryStatement) (v : Walk) → Grows (front ++ s ∷ []) (many_for n [] free (front ++ s ∷ []) v)) → NearAll most (goes_on n front limited x) (goes_on n front free y)
      go x y (inl h) rec later = subst (λ k. NearAll most (goes_on n front limited k) (goes_on n front free y)) (sym h.0) (same y h.1 rec)
      go x y (inr h) rec later = inr ((h.0.0, ap (goes_on n front limited) h.0.1), over y h.1 later)

-- ---- the masters of a text

abbrev said : Result (List LibraryStatement × Walk) LefFault → Result (List Master) LefFault
said r = value_read (then_read r (λ ss. give (masters_of ss)))

few_said : (most : ℕ) (x y : Result (List LibraryStatement × Walk) LefFault) (ms : List Master) → NearAll most x y → said x ≡ Ok ms → (said y ≡ Ok ms) × (length ms ≤ most)
few_said most x (Ok r) ms (inl h) is = let read : said (Ok r) ≡ Ok ms = sym (ap said h.0) ∙ is in (read, let same : masters_of r.0 ≡ ms = cc in subst (λ k. length k ≤ most) same h.1)
few_said most x (Err e) ms (inl h) is = let read : said (Err e) ≡ Ok ms = sym (ap said h.0) ∙ is in absurd (cc)
few_said most x y ms (inr h) is = let read : said (Err (TooManyMasters h.0.0)) ≡ Ok ms = sym (ap said h.0.1) ∙ is in absurd (cc)

each_said : (most : ℕ) (x y : Result (List LibraryStatement × Walk) LefFault) (ms : List Master) → NearAll most x y → said y ≡ Ok ms → length ms ≤ most → said x ≡ Ok ms
each_said most x y ms (inl h) is le = ap said h.0 ∙ is
each_said most x (Ok r) ms (inr h) is le = let same : masters_of r.0 ≡ ms = cc in absurd (omega (arith, h.1, ap length same, le))
each_said most x (Err e) ms (inr h) is le = absurd (cc)

faults_said : (most : ℕ) (x y : Result (List LibraryStatement × Walk) LefFault) (e : LefFault) → NearAll most x y → said x ≡ Err e → ((place : ℕ) × (e ≡ TooManyMasters place)) ⊎ (said y ≡ Err e)
faults_said most x y e (inl h) is = inr (sym (ap said h.0) ∙ is)
faults_said most x y e (inr h) is = let read : said (Err (TooManyMasters h.0.0)) ≡ Err e = sym (ap said h.0.1) ∙ is in inl (h.0.0, let same : e ≡ TooManyMasters h.0.0 = cc in same)

near_text : (most : ℕ) (text : List ℕ) → NearAll most (many [] (library_statement (nat_le most)) (walk_of text)) (many [] (library_statement (λ n. false)) (walk_of text))
near_text most text = all_near most (suc (word_count (walk_of text))) [] (walk_of text) (omega arith)

pub limits_keep : LimitsKeep
limits_keep = record {
  few = λ most text masters is. few_said most (many [] (library_statement (nat_le most)) (walk_of text)) (many [] (library_statement (λ n. false)) (walk_of text)) masters (near_text most text) is;
  each = λ most text masters is le. each_said most (many [] (library_statement (nat_le most)) (walk_of text)) (many [] (library_statement (λ n. false)) (walk_of text)) masters (near_text most text) is le;
  faults = λ most text e is. faults_said most (many [] (library_statement (nat_le most)) (walk_of text)) (many [] (library_statement (λ n. false)) (walk_of text)) e (near_text most text) is;
}

pub library_is : (text : List ℕ) (old new : Reading) (r : Result (List Master) LefFault) → left old ≡ walk_of text → Gives (as_is text) (masters (nat_le MAX_MASTERS) (left old)) r (left new) → IfOk r (IsLibraryOf MAX_MASTERS text)
library_is text old new (Err e) start value = tt
library_is text old new (Ok ms) start value = limits_keep.few MAX_MASTERS text ms (ap (λ u. value_read (masters (nat_le MAX_MASTERS) u)) (sym start) ∙ ap value_read value)
