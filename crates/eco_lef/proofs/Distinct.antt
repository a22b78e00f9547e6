-- The names of a library stand once.
use Rattle.std.specs.Str.{bytes_eq}
use Rattle.std.proofs.Common.{◌≡◌, ℕ, zero, suc, Bool, true, false, ◌||◌, List, [], ◌∷◌, ◌++◌, Option, Some, None, Result, Ok, Err, refl, ap, sym, subst, ◌∙◌, codes, if◌then◌else◌}
use Rattle.std.proofs.lemmas.List.Folds.{list_any-append}
use Rattle.std.proofs.lemmas.Slice.Eq.{bytes_eq-Decides}
use Rattle.eco_text.specs.Words.{Token, Walk, finished, open_quote, word_then, walk_of}
use Rattle.eco_lef.specs.declared.fault.LefFault.{LefFault}
use Rattle.eco_lef.specs.declared.fault.LefFault.TheVariants.{TwiceNamed, ArrayBlock, BadStatement}
use Rattle.eco_lef.specs.declared.master.Master.{Master}
use Rattle.eco_lef.specs.declared.pin_statements.PinBody.{PinBody}
use Rattle.eco_lef.specs.declared.macro_statements.MacroBody.{MacroBody}
use Rattle.eco_lef.specs.declared.statement.MacroStatement.{MacroStatement}
use Rattle.eco_lef.specs.declared.statement.MacroStatement.TheVariants.{Sized, Pinned, Other as OtherInMacro}
use Rattle.eco_lef.specs.declared.statement.LibraryStatement.{LibraryStatement}
use Rattle.eco_lef.specs.declared.statement.LibraryStatement.TheVariants.{Defined, Other}
use Rattle.eco_lef.specs.Known.{names_of, pin_names}
use Rattle.eco_lef.specs.Parsing.{Parser, ◌>>=◌, then_read, then_more, give, refuse, any, begins, word, valued, pass_to, name, many, many_for, word_count}
use Rattle.eco_text.specs.Tokens.{is_word, is_one_of, is_name}
use Rattle.eco_common.specs.NameBytes.{is_among}
use Rattle.eco_text.specs.Numbers.{microns_of}
use Rattle.eco_lef.specs.Grammar.{block_ends, unless_ended, pin_body, pin_of, pin, size, passed_in_macro, macro_end, macro_statement_new, macro_statement, pins_of, macro_said, macro_body, master_of, defined, pass_block, named_blocks, plain_blocks, named_block, plain_block, passed_in_library, library_end, statement_under, library_statement_new, library_statement, masters_of, value_read}
use Rattle.eco_lef.specs.Names.{AreDistinct, HaveDistinctPins, NamesDiffer}
use Rattle.eco_lef.proofs.Naming.{map_push}
use Rattle.eco_lef.proofs.Saying.{pins_more, masters_more}

-- ---- one more name

or_false : (a b : Bool) → (a || b) ≡ false → (a ≡ false) × (b ≡ false)
or_false true b is = cc
or_false false b is = (refl, is)

turned : (a b : List ℕ) → bytes_eq a b ≡ false → bytes_eq b a ≡ false
turned a b ne = go (bytes_eq b a) refl
  where
    go : (t : Bool) → bytes_eq b a ≡ t → t ≡ false
    go false is = refl
    go true is =
        let same : b ≡ a = (bytes_eq-Decides b a).0 is in
        let yes' : bytes_eq a b ≡ true = (bytes_eq-Decides a b).1 (sym same) in
        let clash : true ≡ false = sym yes' ∙ ne in
        cc

pub distinct_push : (ns : List (List ℕ)) (n : List ℕ) → AreDistinct ns → is_among ns n ≡ false → AreDistinct (ns ++ n ∷ [])
distinct_push [] n distinct new = (refl, tt)
distinct_push (m ∷ ns) n distinct new =
    let apart = or_false (bytes_eq m n) (is_among ns n) new in
    let joined : is_among (ns ++ n ∷ []) m ≡ (is_among ns m || (bytes_eq n m || false)) = list_any-append (λ k. bytes_eq k m) ns (n ∷ []) in
    (joined ∙ ap (λ b. b || (bytes_eq n m || false)) distinct.0 ∙ ap (λ b. b || false) (turned m n apart.0), distinct_push ns n distinct.1 apart.1)

pub pins_push : (ms : List Master) (m : Master) → HaveDistinctPins ms → AreDistinct (pin_names m.pins) → HaveDistinctPins (ms ++ m ∷ [])
pins_push [] m distinct one = (one, tt)
pins_push (k ∷ ms) m distinct one = (distinct.0, pins_push ms m distinct.1 one)

-- ---- what holds of statements, one by one, holds of all

module _ {A : Type 0} (inside : List ℕ) (item : List A → Parser (Option A)) (P : List A → Type 0) where
  kept : ((front : List A) (u : Walk) (s : A) (v : Walk) → P front → item front u ≡ Ok (Some s, v) → P (front ++ s ∷ [])) →
      (n : ℕ) (front : List A) (u : Walk) (r : List A × Walk) → P front → many_for n inside item front u ≡ Ok r → P r.0
  kept keeps zero front u r holds is = absurd (cc)
  kept keeps (suc n) front u r holds is = go (item front u) refl is (λ s v. kept keeps n (front ++ s ∷ []) v r)
    where
      go : (x : Result (Option A × Walk) LefFault) → item front u ≡ x → then_read x (then_more (many_for n inside item) front) ≡ Ok r →
          ((s : A) (v : Walk) → P (front ++ s ∷ []) → many_for n inside item (front ++ s ∷ []) v ≡ Ok r → P r.0) → P r.0
      go (Err e) at is rec = absurd (cc)
      go (Ok (None, v)) at is rec = let same : front ≡ r.0 = ap (λ k. front_of k front) is in subst P same holds
        where
          front_of : Result (List A × Walk) LefFault → List A → List A
          front_of (Ok k) d = k.0
          front_of (Err e) d = d
      go (Ok (Some s, v)) at is rec = rec s v (keeps front u s v holds at) is

-- ---- in a macro

-- a pin that was read has a new name
abbrev NewPin : (List ℕ → Bool) → Result (Option MacroStatement × Walk) LefFault → Type 0
NewPin known (Err e) = Unit {0}
NewPin known (Ok (None, v)) = Unit {0}
NewPin known (Ok (Some (Sized z), v)) = Unit {0}
NewPin known (Ok (Some (Pinned p), v)) = known p.name ≡ false
NewPin known (Ok (Some OtherInMacro, v)) = Unit {0}

new_pin : (known : List ℕ → Bool) (inside : List ℕ) (u : Walk) → NewPin known (pin inside known u)
unfolding pin
new_pin known inside (finished place) = tt
new_pin known inside (open_quote place) = tt
new_pin known inside (word_then w (finished place)) = tt
new_pin known inside (word_then w (open_quote place)) = tt
new_pin known inside (word_then w (word_then n z)) = go (is_name n) (known n.bytes) refl
  where
    body : (r : Result (PinBody × Walk) LefFault) → known n.bytes ≡ false → NewPin known (then_read r (λ b. give (Some (Pinned (pin_of n.bytes b)))))
    body (Err e) new = tt
    body (Ok x) new = new

    named : Bool → Bool → Parser Token
    named i k = λ v. if i then (if k then refuse inside TwiceNamed else any inside) v else refuse inside BadStatement v

    go : (i k : Bool) → known n.bytes ≡ k → NewPin known (then_read (named i k (word_then n z)) (λ n. pin_body n.bytes >>= λ b. give (Some (Pinned (pin_of n.bytes b)))))
    go false k is = tt
    go true true is = tt
    go true false is = body (pin_body n.bytes z) is

no_pin_passed : (known : List ℕ → Bool) (inside keyword : List ℕ) (u : Walk) → NewPin known (passed_in_macro inside keyword u)
unfolding passed_in_macro
no_pin_passed known inside keyword u = go (pass_to inside (is_word keyword) u)
  where
    go : (r : Result (Token × Walk) LefFault) → NewPin known (then_read r (λ end. give (Some OtherInMacro)))
    go (Err e) = tt
    go (Ok x) = tt

no_pin_end : (known : List ℕ → Bool) (inside : List ℕ) (u : Walk) → NewPin known (macro_end inside u)
unfolding macro_end
no_pin_end known inside u = go (block_ends inside inside u)
  where
    go : (r : Result (Bool × Walk) LefFault) → NewPin known (then_read r (λ ended. give (unless_ended OtherInMacro ended)))
    go (Err e) = tt
    go (Ok (true, v)) = tt
    go (Ok (false, v)) = tt

new_pin_then : {A : Type 0} (known : List ℕ → Bool) (r : Result (A × Walk) LefFault) (f : A → Parser (Option MacroStatement)) → ((a : A) (v : Walk) → NewPin known (f a v)) → NewPin known (then_read r f)
new_pin_then known (Err e) f each = tt
new_pin_then known (Ok x) f each = each x.0 x.1

no_pin_size : (known : List ℕ → Bool) (inside : List ℕ) (u : Walk) → NewPin known (size inside u)
unfolding size
no_pin_size known inside u = new_pin_then known (any inside u) _ (λ h a. new_pin_then known (valued inside microns_of a) _ (λ w b. new_pin_then known (word inside (codes "BY") b) _ (λ k c. new_pin_then known (valued inside microns_of c) _ (λ x d. new_pin_then known (word inside (codes ";") d) _ (λ e f. tt)))))

record PinIsNew (known : List ℕ → Bool) (r : Result (Option MacroStatement × Walk) LefFault) : Type 0 where
  holds : NewPin known r

pin_is : (known : List ℕ → Bool) (r : Result (Option MacroStatement × Walk) LefFault) → NewPin known r → PinIsNew known r
pin_is known r h = record { holds = h }

new_pin_if : (known : List ℕ → Bool) (t : Bool) {x y : Result (Option MacroStatement × Walk) LefFault} → PinIsNew known x → PinIsNew known y → PinIsNew known (if t then x else y)
new_pin_if known true first second = first
new_pin_if known false first second = second

new_pin_read : (known : List ℕ → Bool) (inside : List ℕ) (u : Walk) → NewPin known (macro_statement_new inside known u)
unfolding macro_statement_new
new_pin_read known inside u =
    let h : PinIsNew known (macro_statement_new inside known u) =
    new_pin_if known (begins (is_word (codes "END")) u) (pin_is known (macro_end inside u) (no_pin_end known inside u))
    (new_pin_if known (begins (is_word (codes "SIZE")) u) (pin_is known (size inside u) (no_pin_size known inside u))
    (new_pin_if known (begins (is_word (codes "PIN")) u) (pin_is known (pin inside known u) (new_pin known inside u))
    (new_pin_if known (begins (is_one_of (codes "OBS" ∷ codes "DENSITY" ∷ [])) u) (pin_is known (passed_in_macro inside (codes "END") u) (no_pin_passed known inside (codes "END") u))
    (pin_is known (passed_in_macro inside (codes ";") u) (no_pin_passed known inside (codes ";") u))))) in
    h.holds

abbrev DistinctSaid : List MacroStatement → Type 0
DistinctSaid ss = AreDistinct (pin_names (pins_of ss))

none_more : (xs : List (List ℕ)) → xs ++ [] ≡ xs
none_more [] = refl
none_more (x ∷ xs) = ap (λ k. x ∷ k) (none_more xs)

names_more : (front : List MacroStatement) (s : MacroStatement) → pin_names (pins_of (front ++ s ∷ [])) ≡ pin_names (pins_of front) ++ pin_names (pins_of (s ∷ []))
names_more front s = ap pin_names (pins_more front s) ∙ joined (pins_of front) (pins_of (s ∷ []))
  where
    joined : (ps qs : List _) → pin_names (ps ++ qs) ≡ pin_names ps ++ pin_names qs
    joined [] qs = refl
    joined (p ∷ ps) qs = ap (λ k. p.name ∷ k) (joined ps qs)

pin_step : (inside : List ℕ) (front : List MacroStatement) (u : Walk) (s : MacroStatement) (v : Walk) → DistinctSaid front → macro_statement inside front u ≡ Ok (Some s, v) → DistinctSaid (front ++ s ∷ [])
pin_step inside front u s v distinct is =
    go s (subst (NewPin (is_among (pin_names (pins_of front)))) is (new_pin_read (is_among (pin_names (pins_of front))) inside u))
  where
    go : (s : MacroStatement) → NewPin (is_among (pin_names (pins_of front))) (Ok (Some s, v)) → DistinctSaid (front ++ s ∷ [])
    go (Sized z) new = subst AreDistinct (sym (names_more front (Sized z) ∙ none_more (pin_names (pins_of front)))) distinct
    go (Pinned p) new = subst AreDistinct (sym (names_more front (Pinned p))) (distinct_push (pin_names (pins_of front)) p.name distinct new)
    go OtherInMacro new = subst AreDistinct (sym (names_more front OtherInMacro ∙ none_more (pin_names (pins_of front)))) distinct

-- the pins of a macro that was read
body_distinct : (inside : List ℕ) (u : Walk) (r : Result (List MacroStatement × Walk) LefFault) (x : MacroBody × Walk) → many inside (macro_statement inside) u ≡ r → then_read r (λ ss. give (macro_said ss)) ≡ Ok x → AreDistinct (pin_names x.0.pins)
body_distinct inside u (Err e) x at is = absurd (cc)
body_distinct inside u (Ok r) x at is =
    let distinct = kept inside (macro_statement inside) DistinctSaid (pin_step inside) (suc (word_count u)) [] u r tt at in
    subst (λ (b : MacroBody). AreDistinct (pin_names b.pins)) (ap (λ k. body_of k x.0) is) distinct
  where
    body_of : Result (MacroBody × Walk) LefFault → MacroBody → MacroBody
    body_of (Ok k) d = k.0
    body_of (Err e) d = d

-- ---- at the library level

-- a master that was read has a new name, and distinct pins
abbrev NewMaster : (List ℕ → Bool) → Result (Option LibraryStatement × Walk) LefFault → Type 0
NewMaster known (Err e) = Unit {0}
NewMaster known (Ok (None, v)) = Unit {0}
NewMaster known (Ok (Some (Defined m), v)) = (known m.name ≡ false) × AreDistinct (pin_names m.pins)
NewMaster known (Ok (Some Other, v)) = Unit {0}

new_master : (known : List ℕ → Bool) (heading : List ℕ) (u : Walk) → NewMaster known (defined heading known false u)
unfolding defined
new_master known heading (finished place) = tt
new_master known heading (open_quote place) = tt
new_master known heading (word_then w (finished place)) = tt
new_master known heading (word_then w (open_quote place)) = tt
new_master known heading (word_then w (word_then n z)) = go (is_name n) (known n.bytes) refl
  where
    body : (r : Result (MacroBody × Walk) LefFault) → macro_body n.bytes z ≡ r → known n.bytes ≡ false → NewMaster known (then_read r (λ b. give (Some (Defined (master_of n.bytes b)))))
    body (Err e) at new = tt
    body (Ok x) at new = (new, body_distinct n.bytes z (many n.bytes (macro_statement n.bytes) z) x refl at)

    named : Bool → Bool → Parser Token
    named i k = λ v. if i then (if k then refuse heading TwiceNamed else any heading) v else refuse heading BadStatement v

    go : (i k : Bool) → known n.bytes ≡ k → NewMaster known (then_read (named i k (word_then n z)) (λ n. macro_body n.bytes >>= λ b. give (Some (Defined (master_of n.bytes b)))))
    go false k is = tt
    go true true is = tt
    go true false is = body (macro_body n.bytes z) refl is

new_master_then : {A : Type 0} (known : List ℕ → Bool) (r : Result (A × Walk) LefFault) (f : A → Parser (Option LibraryStatement)) → ((a : A) (v : Walk) → NewMaster known (f a v)) → NewMaster known (then_read r f)
new_master_then known (Err e) f each = tt
new_master_then known (Ok x) f each = each x.0 x.1

record MasterIsNew (known : List ℕ → Bool) (r : Result (Option LibraryStatement × Walk) LefFault) : Type 0 where
  holds : NewMaster known r

master_is : (known : List ℕ → Bool) (r : Result (Option LibraryStatement × Walk) LefFault) → NewMaster known r → MasterIsNew known r
master_is known r h = record { holds = h }

new_master_if : (known : List ℕ → Bool) (t : Bool) {x y : Result (Option LibraryStatement × Walk) LefFault} → MasterIsNew known x → MasterIsNew known y → MasterIsNew known (if t then x else y)
new_master_if known true first second = first
new_master_if known false first second = second

no_master_passed : (known : List ℕ → Bool) (heading keyword : List ℕ) (u : Walk) → NewMaster known (passed_in_library heading keyword u)
unfolding passed_in_library
no_master_passed known heading keyword u = new_master_then known (pass_to heading (is_word keyword) u) _ (λ end v. tt)

no_master_plain : (known : List ℕ → Bool) (heading : List ℕ) (u : Walk) → NewMaster known (plain_block heading u)
unfolding plain_block
no_master_plain known heading u = new_master_then known (any heading u) _ (λ h a. new_master_then known (pass_block heading a) _ (λ end v. tt))

no_master_named : (known : List ℕ → Bool) (heading : List ℕ) (u : Walk) → NewMaster known (named_block heading u)
unfolding named_block
no_master_named known heading u = new_master_then known (any heading u) _ (λ h a. new_master_then known (name heading a) _ (λ n b. new_master_then known (pass_block n.bytes b) _ (λ end v. tt)))

no_master_end : (known : List ℕ → Bool) (heading : List ℕ) (u : Walk) → NewMaster known (library_end heading u)
unfolding library_end
no_master_end known heading u = go (block_ends heading (codes "LIBRARY") u)
  where
    go : (r : Result (Bool × Walk) LefFault) → NewMaster known (then_read r (λ ended. give (unless_ended Other ended)))
    go (Err e) = tt
    go (Ok (true, v)) = tt
    go (Ok (false, v)) = tt

new_master_under : (known : List ℕ → Bool) (heading : List ℕ) (u : Walk) → NewMaster known (statement_under heading known false u)
unfolding statement_under
new_master_under known heading u =
    let h : MasterIsNew known (statement_under heading known false u) =
    new_master_if known (begins (is_word (codes "END")) u) (master_is known (library_end heading u) (no_master_end known heading u))
    (new_master_if known (begins (is_word (codes "MACRO")) u) (master_is known (defined heading known false u) (new_master known heading u))
    (new_master_if known (begins (is_one_of named_blocks) u) (master_is known (named_block heading u) (no_master_named known heading u))
    (new_master_if known (begins (is_one_of plain_blocks) u) (master_is known (plain_block heading u) (no_master_plain known heading u))
    (new_master_if known (begins (is_word (codes "BEGINEXT")) u) (master_is known (passed_in_library heading (codes "ENDEXT") u) (no_master_passed known heading (codes "ENDEXT") u))
    (new_master_if known (begins (is_word (codes "ARRAY")) u) (master_is known (refuse heading ArrayBlock u) tt)
    (master_is known (passed_in_library heading (codes ";") u) (no_master_passed known heading (codes ";") u))))))) in
    h.holds

new_master_read : (known : List ℕ → Bool) (u : Walk) → NewMaster known (library_statement_new known false u)
new_master_read known (finished place) = tt
new_master_read known (open_quote place) = tt
new_master_read known (word_then w v) = new_master_under known w.bytes (word_then w v)

abbrev DistinctDefined : List LibraryStatement → Type 0
DistinctDefined ss = AreDistinct (names_of (masters_of ss)) × HaveDistinctPins (masters_of ss)

masters_push : (front : List LibraryStatement) (m : Master) → masters_of (front ++ Defined m ∷ []) ≡ masters_of front ++ m ∷ []
masters_push front m = masters_more front (Defined m)

masters_same : (front : List LibraryStatement) → masters_of (front ++ Other ∷ []) ≡ masters_of front
masters_same [] = refl
masters_same (Defined m ∷ ss) = ap (λ k. m ∷ k) (masters_same ss)
masters_same (Other ∷ ss) = masters_same ss

abbrev DistinctMasters : List Master → Type 0
DistinctMasters ms = AreDistinct (names_of ms) × HaveDistinctPins ms

master_step : (front : List LibraryStatement) (u : Walk) (s : LibraryStatement) (v : Walk) → DistinctDefined front → library_statement (λ n. false) front u ≡ Ok (Some s, v) → DistinctDefined (front ++ s ∷ [])
master_step front u s v distinct is =
    go s (subst (NewMaster (is_among (names_of (masters_of front)))) is (new_master_read (is_among (names_of (masters_of front))) u))
  where
    go : (s : LibraryStatement) → NewMaster (is_among (names_of (masters_of front))) (Ok (Some s, v)) → DistinctDefined (front ++ s ∷ [])
    go (Defined m) new =
        let named : AreDistinct (names_of (masters_of front ++ m ∷ [])) =
        subst AreDistinct (sym (map_push (λ k. k.name) (masters_of front) m)) (distinct_push (names_of (masters_of front)) m.name distinct.0 new.0) in
        let pins : HaveDistinctPins (masters_of front ++ m ∷ []) = pins_push (masters_of front) m distinct.1 new.1 in
        subst DistinctMasters (sym (masters_push front m)) (named, pins)
    go Other new = subst DistinctMasters (sym (masters_same front)) distinct

read_distinct : (text : List ℕ) (r : Result (List LibraryStatement × Walk) LefFault) (ms : List Master) → many [] (library_statement (λ n. false)) (walk_of text) ≡ r → value_read (then_read r (λ ss. give (masters_of ss))) ≡ Ok ms → DistinctMasters ms
read_distinct text (Err e) ms at is = absurd (cc)
read_distinct text (Ok r) ms at is =
    let distinct = kept [] (library_statement (λ n. false)) DistinctDefined master_step (suc (word_count (walk_of text))) [] (walk_of text) r (tt, tt) at in
    let same : masters_of r.0 ≡ ms = cc in
    subst DistinctMasters same distinct

pub names_differ : NamesDiffer
names_differ text masters is = read_distinct text (many [] (library_statement (λ n. false)) (walk_of text)) masters refl is
