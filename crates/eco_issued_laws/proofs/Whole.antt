-- The whole of the issued text.
use Rattle.std.proofs.Common.{◌≡◌, ℕ, suc, ◌≤◌, Bool, true, false, not, List, [], ◌∷◌, ◌++◌, map, Result, Ok, Err, Option, Some, None, refl, ap, sym, ◌∙◌, subst, arith, if◌then◌else◌, append-nil, codes, ◌||◌}
use Rattle.std.proofs.Math.Path.{fun_ext}
use Rattle.std.specs.List.{AllByRecursion, flat_map, list_any}
use Rattle.std.specs.Option.{option_or}
use Rattle.eco_text.specs.Words.{Token, Walk, finished, open_quote, word_then, walk_of}
use Rattle.eco_def.specs.Parsing.{Parser, then_read, ◌>>=◌, give, refuse, begins, any, choose, next, many, many_until, size}
use Rattle.eco_text.specs.Tokens.{is_word, is_one_of}
use Rattle.eco_common.specs.Options.{first_some}
use Rattle.eco_def.specs.Design.{Comp, NetSection, Part, Passed, Units, Comps, Pins, Special, Nets, Design}
use Rattle.eco_def.specs.Named.{comp_names, pin_names, net_names, names_of}
use Rattle.eco_def.specs.Grammar.{net, units, comp_section, pin_section, special_section_within, special_section, net_section_within, net_section, passed_section, passed_up_to, passed_sections, passed_statements, Kind, CompKind, PinKind, SpecialKind, NetKind, kind_of, same_kind, have, once, part_new_within, part_new, part, end_design, parts_within, parts, units_of, comps_of, pins_of, special_of, nets_of, last_some, or_none, design_from, design_read, design_of}
use Rattle.eco_issued_laws.specs.Changes.{Changes}
use Rattle.eco_issued_laws.specs.Issued.{issued_net, fresh_net, issued_design}
use Rattle.eco_issued_laws.proofs.PartEdits.{part_edits, issued_parts}
use Rattle.eco_issued_laws.proofs.Faults.{Fault, twice_named, unknown_heading, bad_statement}
use Rattle.eco_issued_laws.proofs.Allowed.{IsWord, AllJointsOk, Allows, ChangesOk}
use Rattle.eco_issued_laws.proofs.Keeping.{Same, SameNext, Always, Reread, Keeps, Tests, begins_again, not_Ok, Ok_is, split, size_join, keeps_then, keeps_as, keeps_choose, keeps_refuse, keeps_next}
use Rattle.eco_issued_laws.proofs.Repeating.{Beside, beside_map, keeps_many}
use Rattle.eco_issued_laws.proofs.Rules.{tests_word, tests_one_of, tests_not, keeps_fewer, keeps_net}
use Rattle.eco_issued_laws.proofs.Editing.{At}
use Rattle.eco_issued_laws.proofs.Ending.{Ends, next_is, chosen, refused, plain_word_is}
use Rattle.eco_issued_laws.proofs.Along.{now, Along, Issues, chosen_along, loop, issues_keeps, issues_none}
use Rattle.eco_issued_laws.proofs.Passing.{IssuedPart, more_words, keeps_head, keeps_end, keeps_comp_section, ends_comp_section, keeps_pin_section, ends_pin_section, keeps_units, ends_units, keeps_passed_section, ends_passed_section, keeps_passed, ends_passed}
use Rattle.eco_issued_laws.proofs.Sections.{special_along, net_along, stop_many}

-- ---- parts that say the same

abbrev pub OptBeside : {A B : Type 0} → (A → B → Type 0) → Option A → Option B → Type 0
OptBeside V None None = Unit {0}
OptBeside V None (Some y) = ⊥
OptBeside V (Some x) None = ⊥
OptBeside V (Some x) (Some y) = V x y

abbrev pub PartSame : Changes → Part → Part → Type 0
PartSame o x y =
    (kind_of y ≡ kind_of x) × OptBeside (λ n m. m ≡ n) (units_of x) (units_of y) × OptBeside (λ cs ds. map comp_names ds ≡ map comp_names cs) (comps_of x) (comps_of y)
    × OptBeside (λ ps qs. map pin_names qs ≡ map pin_names ps) (pins_of x) (pins_of y)
    × OptBeside (λ ss ts. map net_names ts ≡ map (issued_net o true) (map net_names ss)) (special_of x) (special_of y)
    × OptBeside (λ s t. map net_names t.nets ≡ map (issued_net o false) (map net_names s.nets) ++ map fresh_net o.fresh) (nets_of x) (nets_of y)

part_same : (o : Changes) (x y : Part) → IssuedPart o x y → PartSame o x y
part_same o Passed Passed b = (refl, tt, tt, tt, tt, tt)
part_same o Passed (Units m) b = absurd b
part_same o Passed (Comps ds) b = absurd b
part_same o Passed (Pins qs) b = absurd b
part_same o Passed (Special ts) b = absurd b
part_same o Passed (Nets t) b = absurd b
part_same o (Units n) Passed b = absurd b
part_same o (Units n) (Units m) b = (refl, b, tt, tt, tt, tt)
part_same o (Units n) (Comps ds) b = absurd b
part_same o (Units n) (Pins qs) b = absurd b
part_same o (Units n) (Special ts) b = absurd b
part_same o (Units n) (Nets t) b = absurd b
part_same o (Comps cs) Passed b = absurd b
part_same o (Comps cs) (Units m) b = absurd b
part_same o (Comps cs) (Comps ds) b = (refl, tt, b, tt, tt, tt)
part_same o (Comps cs) (Pins qs) b = absurd b
part_same o (Comps cs) (Special ts) b = absurd b
part_same o (Comps cs) (Nets t) b = absurd b
part_same o (Pins ps) Passed b = absurd b
part_same o (Pins ps) (Units m) b = absurd b
part_same o (Pins ps) (Comps ds) b = absurd b
part_same o (Pins ps) (Pins qs) b = (refl, tt, tt, b, tt, tt)
part_same o (Pins ps) (Special ts) b = absurd b
part_same o (Pins ps) (Nets t) b = absurd b
part_same o (Special ss) Passed b = absurd b
part_same o (Special ss) (Units m) b = absurd b
part_same o (Special ss) (Comps ds) b = absurd b
part_same o (Special ss) (Pins qs) b = absurd b
part_same o (Special ss) (Special ts) b = (refl, tt, tt, tt, b, tt)
part_same o (Special ss) (Nets t) b = absurd b
part_same o (Nets s) Passed b = absurd b
part_same o (Nets s) (Units m) b = absurd b
part_same o (Nets s) (Comps ds) b = absurd b
part_same o (Nets s) (Pins qs) b = absurd b
part_same o (Nets s) (Special ts) b = absurd b
part_same o (Nets s) (Nets t) b = (refl, tt, tt, tt, tt, b)

first_beside : {A B P Q : Type 0} (V : A → B → Type 0) (W : P → Q → Type 0) (f : P → Option A) (g : Q → Option B) → ((x : P) (y : Q) → W x y → OptBeside V (f x) (g y)) → (xs : List P) (ys : List Q) → Beside W xs ys → OptBeside V (first_some (map f xs)) (first_some (map g ys))
first_beside V W f g each [] [] b = tt
first_beside V W f g each [] (y ∷ ys) b = absurd b
first_beside V W f g each (x ∷ xs) [] b = absurd b
first_beside V W f g each (x ∷ xs) (y ∷ ys) b = go (f x) (g y) (each x y b.0) (first_beside V W f g each xs ys b.1)
  where
    go : (o : Option _) (p : Option _) → OptBeside V o p → OptBeside V (first_some (map f xs)) (first_some (map g ys)) → OptBeside V (first_some (o ∷ map f xs)) (first_some (p ∷ map g ys))
    go None None v rest = rest
    go None (Some k) v rest = absurd v
    go (Some k) None v rest = absurd v
    go (Some k) (Some l) v rest = v

last_beside : {P Q : Type 0} (W : P → Q → Type 0) (f : P → Option ℕ) (g : Q → Option ℕ) → ((x : P) (y : Q) → W x y → OptBeside (λ n m. m ≡ n) (f x) (g y)) → (xs : List P) (ys : List Q) → Beside W xs ys → last_some (map g ys) ≡ last_some (map f xs)
last_beside W f g each [] [] b = refl
last_beside W f g each [] (y ∷ ys) b = absurd b
last_beside W f g each (x ∷ xs) [] b = absurd b
last_beside W f g each (x ∷ xs) (y ∷ ys) b = go (f x) (g y) (each x y b.0) (last_beside W f g each xs ys b.1)
  where
    go : (o p : Option ℕ) → OptBeside (λ n m. m ≡ n) o p → last_some (map g ys) ≡ last_some (map f xs) → option_or (last_some (map g ys)) p ≡ option_or (last_some (map f xs)) o
    go None None v rest = ap (λ k. option_or k None) rest
    go None (Some k) v rest = absurd v
    go (Some k) None v rest = absurd v
    go (Some k) (Some l) v rest = rw (v, rest) refl

-- parts that say the same have the same kinds
kinds_in : (xs : List Part) (k : Kind) → have xs k ≡ list_any (same_kind k) (map kind_of xs)
kinds_in [] k = refl
kinds_in (x ∷ xs) k = ap (λ b. same_kind k (kind_of x) || b) (kinds_in xs k)

have_same : (o : Changes) (xs ys : List Part) → Beside (IssuedPart o) xs ys → have ys ≡ have xs
have_same o xs ys b = fun_ext (λ k. kinds_in ys k ∙ ap (list_any (same_kind k)) (beside_map kind_of kind_of (λ x y v. (part_same o x y v).0) xs ys b) ∙ sym (kinds_in xs k))

-- ---- a part takes words

pub keeps_nets : Keeps 0 (Beside (λ x y. net_names y ≡ net_names x)) SameNext (many (is_word (codes "-")) net) (many (is_word (codes "-")) net)
keeps_nets = keeps_many (λ x y. net_names y ≡ net_names x) net net (tests_word (codes "-")) (λ xs ys b. keeps_fewer 1 (omega arith) (keeps_net xs ys (beside_map (λ k. k.name.bytes) (λ k. k.name.bytes) (λ x y v. ap (λ k. k.name) v) xs ys b)))

keeps_special : {H : Walk → Walk → Type 0} → Keeps 1 (λ (x y : Part). Unit {0}) H special_section special_section
unfolding special_section_within
keeps_special {H} = keeps_fewer 1 (omega arith) (keeps_then (keeps_head (codes "SPECIALNETS")) (λ c d sc. keeps_then keeps_nets (λ x y s. keeps_as _ _ (keeps_end (codes "SPECIALNETS")) (λ e f se. tt))))

keeps_section : {H : Walk → Walk → Type 0} → Keeps 1 (λ (x y : Part). Unit {0}) H net_section net_section
unfolding net_section_within
keeps_section {H} = keeps_fewer 1 (omega arith) (keeps_then (keeps_head (codes "NETS")) (λ c d sc. keeps_then keeps_nets (λ x y s. keeps_as _ _ (keeps_end (codes "NETS")) (λ e f se. tt))))

keeps_loosely : {A B : Type 0} {n : ℕ} {V : A → B → Type 0} {H : Walk → Walk → Type 0} {p : Parser A} {q : Parser B} → Keeps n V H p q → Keeps n (λ (x : A) (y : B). Unit {0}) H p q
keeps_loosely keeps u x r e = let one = keeps u x r e in record { front = one.front; is = one.is; taken = one.taken; ahead = one.ahead; again = λ fs s all h. let y = one.again fs s all h in (y.0, y.1, tt) }

keeps_once : {H : Walk → Walk → Type 0} (seen : Kind → Bool) (k : Kind) (p : Parser Part) → Keeps 1 (λ (x y : Part). Unit {0}) H p p → Keeps 1 (λ (x y : Part). Unit {0}) H (once seen k p) (once seen k p)
keeps_once {H} seen k p keeps = go (seen k)
  where
    go : (b : Bool) → Keeps 1 (λ (x y : Part). Unit {0}) H (λ u. if b then refuse twice_named u else p u) (λ u. if b then refuse twice_named u else p u)
    go true = keeps_refuse twice_named
    go false = keeps

keeps_part : (o : Changes) (seen : Kind → Bool) → Keeps 1 (λ (x y : Part). Unit {0}) Always (part_new seen) (part_new seen)
unfolding part_new_within
keeps_part o seen =
    keeps_choose (tests_word (codes "UNITS")) (keeps_loosely (keeps_units o))
    (keeps_choose (tests_word (codes "COMPONENTS")) (keeps_once seen CompKind comp_section (keeps_loosely (keeps_comp_section o)))
    (keeps_choose (tests_word (codes "PINS")) (keeps_once seen PinKind pin_section (keeps_loosely (keeps_pin_section o)))
    (keeps_choose (tests_word (codes "SPECIALNETS")) (keeps_once seen SpecialKind special_section keeps_special)
    (keeps_choose (tests_word (codes "NETS")) (keeps_once seen NetKind net_section keeps_section)
    (keeps_choose (tests_one_of passed_sections) (keeps_loosely (keeps_passed_section o))
    (keeps_choose (tests_one_of passed_statements) (keeps_loosely (keeps_passed o (codes ";")))
    (keeps_choose (tests_word (codes "BEGINEXT")) (keeps_loosely (keeps_passed o (codes "ENDEXT")))
    (keeps_refuse unknown_heading))))))))

part_shrinks : (o : Changes) (ys : List Part) (u : Walk) (y : Part) (r : Walk) → part ys u ≡ Ok (y, r) → suc (size r) ≤ size u
part_shrinks o ys u y r e = let one = keeps_part o (have ys) u y r e in omega (arith, one.taken, ap size one.is, size_join one.front r)

-- ---- a part in the edited text

module _ (text : List ℕ) (o : Changes) (ok : (special : Bool) (n : List ℕ) → AllJointsOk (o.added special n)) (digits : (n : ℕ) → IsWord (o.numeral n)) where
  abbrev pub Follows : Parser Part → Type 0
  Follows p = (q : ℕ) (u : Walk) (x : Part) (r : Walk) → At text q u → p u ≡ Ok (x, r) → Allows o x → Along text (IssuedPart o) (part_edits text o) (λ i. Unit {0}) (λ (i : Unit {0}). p) q x u r

  follows : {p : Parser Part} → Issues text (IssuedPart o) (part_edits text o) (λ i. Unit {0}) p (λ (i : Unit {0}). p) → Follows p
  follows issues q u x r at e allows = issues q u x r at e

  follows_refuse : (fault : ℕ → Fault) → Follows (refuse fault)
  follows_refuse fault q u x r at e allows = absurd (refused fault u x r e)

  follows_choose : (f : Token → Bool) (p p' : Parser Part) → Tests f f → Follows p → Follows p' → Follows (choose f p p')
  follows_choose f p p' test yes' no' q u x r at e allows =
      chosen f p p' u x r e (Along text (IssuedPart o) (part_edits text o) (λ i. Unit {0}) (λ (i : Unit {0}). choose f p p') q x u r)
      (λ is e. chosen_along text (IssuedPart o) (part_edits text o) (λ (i : Unit {0}). Unit {0}) f true (λ i. p) (λ i. p') test q x u r is (yes' q u x r at e allows))
      (λ is e. chosen_along text (IssuedPart o) (part_edits text o) (λ (i : Unit {0}). Unit {0}) f false (λ i. p) (λ i. p') test q x u r is (no' q u x r at e allows))

  follows_once : (seen : Kind → Bool) (k : Kind) (p : Parser Part) → Follows p → Follows (once seen k p)
  follows_once seen k p f = go (seen k)
    where
      go : (b : Bool) → Follows (λ u. if b then refuse twice_named u else p u)
      go true = follows_refuse twice_named
      go false = f

  follows_part : (seen : Kind → Bool) → Follows (part_new seen)
  unfolding part_new_within
  follows_part seen =
      follows_choose (is_word (codes "UNITS")) units _ (tests_word (codes "UNITS")) (follows (issues_none text (IssuedPart o) (part_edits text o) units units (keeps_units o) (ends_units text o)))
      (follows_choose (is_word (codes "COMPONENTS")) (once seen CompKind comp_section) _ (tests_word (codes "COMPONENTS")) (follows_once seen CompKind comp_section (follows (issues_none text (IssuedPart o) (part_edits text o) comp_section comp_section (keeps_comp_section o) (ends_comp_section text o))))
      (follows_choose (is_word (codes "PINS")) (once seen PinKind pin_section) _ (tests_word (codes "PINS")) (follows_once seen PinKind pin_section (follows (issues_none text (IssuedPart o) (part_edits text o) pin_section pin_section (keeps_pin_section o) (ends_pin_section text o))))
      (follows_choose (is_word (codes "SPECIALNETS")) (once seen SpecialKind special_section) _ (tests_word (codes "SPECIALNETS")) (follows_once seen SpecialKind special_section (follows (special_along text o ok)))
      (follows_choose (is_word (codes "NETS")) (once seen NetKind net_section) _ (tests_word (codes "NETS")) (follows_once seen NetKind net_section (net_along text o ok digits))
      (follows_choose (is_one_of passed_sections) passed_section _ (tests_one_of passed_sections) (follows (issues_none text (IssuedPart o) (part_edits text o) passed_section passed_section (keeps_passed_section o) (ends_passed_section text o)))
      (follows_choose (is_one_of passed_statements) (passed_up_to (codes ";")) _ (tests_one_of passed_statements) (follows (issues_none text (IssuedPart o) (part_edits text o) (passed_up_to (codes ";")) (passed_up_to (codes ";")) (keeps_passed o (codes ";")) (ends_passed text o (codes ";"))))
      (follows_choose (is_word (codes "BEGINEXT")) (passed_up_to (codes "ENDEXT")) (refuse unknown_heading) (tests_word (codes "BEGINEXT")) (follows (issues_none text (IssuedPart o) (part_edits text o) (passed_up_to (codes "ENDEXT")) (passed_up_to (codes "ENDEXT")) (keeps_passed o (codes "ENDEXT")) (ends_passed text o (codes "ENDEXT"))))
      (follows_refuse unknown_heading))))))))

  part_along : (xs : List Part) (q : ℕ) (u : Walk) (x : Part) (r : Walk) → At text q u → part xs u ≡ Ok (x, r) → Allows o x → Along text (IssuedPart o) (part_edits text o) (λ ys. Beside (IssuedPart o) xs ys) part q x u r
  part_along xs q u x r at e allows =
      let a = follows_part (have xs) q u x r at e allows in
      record {
        place = a.place;
        at = a.at;
        closed = a.closed;
        later = a.later;
        ahead = a.ahead;
        first = a.first;
        reads = λ ys b k es h.
            let y = a.reads tt tt k es h in
            (y.0, y.1, ap (λ l. part_new l (now text k q (part_edits text o x ++ es))) (have_same o xs ys b) ∙ y.2, y.3);
      }

-- ---- the end of the design

chooses : (v : Walk) (y : Token) (s : Walk) (p : Parser Token) → next (is_word (codes "DESIGN")) v ≡ Ok (y, s) → choose (is_word (codes "DESIGN")) any p v ≡ Ok (y, s)
chooses v y s p e = let n = next_is (is_word (codes "DESIGN")) v y s e in ap (choose (is_word (codes "DESIGN")) any p) n.is ∙ rw n.passes refl

only : (v : Walk) (y : Token) (s : Walk) (fault : ℕ → Fault) → choose (is_word (codes "DESIGN")) any (refuse fault) v ≡ Ok (y, s) → next (is_word (codes "DESIGN")) v ≡ Ok (y, s)
only v y s fault e =
    chosen (is_word (codes "DESIGN")) any (refuse fault) v y s e (next (is_word (codes "DESIGN")) v ≡ Ok (y, s))
    (λ i e. ap (λ b. if b then any v else refuse bad_statement v) i ∙ e) (λ i e. absurd (refused fault v y s e))

loosely : {H : Walk → Walk → Type 0} {q : Parser Token} {k r : Walk} {x : Token} → Reread 1 Same H q k x r → Reread 1 (λ (x y : Token). Unit {0}) H q k x r
loosely one = record { front = one.front; is = one.is; taken = one.taken; ahead = one.ahead; again = λ fs s all h. let y = one.again fs s all h in (y.0, y.1, tt) }

pub keeps_end_design : {H : Walk → Walk → Type 0} → Keeps 1 (λ (x y : Token). Unit {0}) H end_design end_design
keeps_end_design (finished p) x r e = absurd (not_Ok e)
keeps_end_design (open_quote p) x r e = absurd (not_Ok e)
keeps_end_design {H} (word_then w u) x r e =
    loosely (more_words (next (is_word (codes "DESIGN"))) end_design w u x r (keeps_next {H = H} (tests_word (codes "DESIGN")) u x r (only u x r (λ place. unknown_heading w.start) e))
    (λ t v y s same ahead e. chooses v y s (λ k. refuse (λ place. unknown_heading t.start) k) e))

ends_end_design : Ends (λ x k. Unit {0}) end_design
ends_end_design (finished p) x r e = absurd (not_Ok e)
ends_end_design (open_quote p) x r e = absurd (not_Ok e)
ends_end_design (word_then w u) x r e =
    let n = next_is (is_word (codes "DESIGN")) u x r (only u x r (λ place. unknown_heading w.start) e) in
    record { init = w ∷ []; last = x; is = ap (word_then w) n.is; plain = plain_word_is (codes "DESIGN") x n.passes; end = tt }

-- ---- all parts

pub parts_read : (text : List ℕ) (o : Changes) → ChangesOk o → (ps : List Part) (r : Walk) → parts (walk_of text) ≡ Ok (ps, r) → AllByRecursion (Allows o) ps →
    (ys : List Part) × (s : Walk) × (parts (walk_of (issued_parts text o ps)) ≡ Ok (ys, s)) × Beside (IssuedPart o) ps ys
unfolding parts_within
parts_read text o fine ps r e allows =
    let a = split (many_until (is_word (codes "END")) part) (λ ps. end_design >>= λ end. give ps) (walk_of text) ps r e in
    let b = split end_design (λ end. give a.first) a.middle ps r a.then_is in
    let same : a.first ≡ ps = ap (λ k. k.0) (Ok_is b.then_is) in
    let l = loop text (IssuedPart o) (part_edits text o) (Allows o) (λ w. not (is_word (codes "END") w)) (tests_not (tests_word (codes "END"))) part part (part_along text o fine.added fine.numeral) (part_shrinks o)
    (suc (size (walk_of text))) [] a.first 0 (walk_of text) a.middle (subst (λ k. AllByRecursion (Allows o) k) (sym same) allows) (record { is = refl; within = omega arith }) a.first_is in
    let z = issues_keeps text (λ (x y : Token). Unit {0}) (λ x k. Unit {0}) end_design end_design keeps_end_design ends_end_design l.place a.middle b.first b.middle l.at b.first_is in
    let begun : walk_of (issued_parts text o ps) ≡ now text 0 0 (flat_map (part_edits text o) l.rest ++ []) =
    ap (λ k. now text 0 0 k) (ap (flat_map (part_edits text o)) (sym same ∙ l.is) ∙ sym (append-nil (flat_map (part_edits text o) l.rest))) in
    let ll = l.reads (suc (size (now text 0 0 (flat_map (part_edits text o) l.rest ++ [])))) 0 [] [] tt tt (omega arith) in
    let zz = z.reads tt tt ll.2 [] tt in
    let off : begins (λ w. not (is_word (codes "END") w)) (now text ll.2 l.place []) ≡ false = begins_again (tests_not (tests_word (codes "END"))) a.middle (now text ll.2 l.place []) (z.first ll.2 [] tt) ∙ l.stops in
    let ended : many_until (is_word (codes "END")) part (now text 0 0 (flat_map (part_edits text o) l.rest ++ [])) ≡ Ok (ll.0, now text ll.2 l.place []) = ll.3 ∙ stop_many (λ w. not (is_word (codes "END") w)) part ll.1 ll.0 (now text ll.2 l.place []) ll.4 off in (
      ll.0,
      now text zz.1 z.place [],
      ap (λ k. (many_until (is_word (codes "END")) part >>= λ ps. end_design >>= λ end. give ps) k) begun
          ∙ ap (λ k. then_read k (λ ps. end_design >>= λ end. give ps)) ended
          ∙ ap (λ k. then_read k (λ end. give ll.0)) zz.2,
      subst (λ k. Beside (IssuedPart o) k ll.0) same ll.5,
    )

-- ---- the design

or_none_same : {A B C : Type 0} (f : A → C) (g : B → C) (change : List C → List C) (o : Option (List A)) (p : Option (List B)) → change [] ≡ [] → OptBeside (λ xs ys. map g ys ≡ change (map f xs)) o p → map g (or_none p) ≡ change (map f (or_none o))
or_none_same f g change None None e v = sym e
or_none_same f g change None (Some y) e v = absurd v
or_none_same f g change (Some x) None e v = absurd v
or_none_same f g change (Some x) (Some y) e v = v

made : (o : Changes) (ps ys : List Part) → Beside (IssuedPart o) ps ys → (d : Design) (n m : Option ℕ) (cs ds : Option (List Comp)) (s t : Option NetSection) →
    m ≡ n → OptBeside (λ cs ds. map comp_names ds ≡ map comp_names cs) cs ds → OptBeside (λ s t. map net_names t.nets ≡ map (issued_net o false) (map net_names s.nets) ++ map fresh_net o.fresh) s t →
    design_from ps n cs s ≡ Ok d → (e : Design) × (design_from ys m ds t ≡ Ok e) × (names_of e ≡ issued_design o (names_of d))
made o ps ys b d None m cs ds s t en ec es is = absurd (no_design is)
  where
    no_design : {k : Fault} → (◌≡◌ {A = Result Design Fault} (Err k) (Ok d)) → ⊥
    no_design e = cc
made o ps ys b d (Some n) m None ds s t en ec es is = absurd (no_design is)
  where
    no_design : {k : Fault} → (◌≡◌ {A = Result Design Fault} (Err k) (Ok d)) → ⊥
    no_design e = cc
made o ps ys b d (Some n) m (Some cs) ds None t en ec es is = absurd (no_design is)
  where
    no_design : {k : Fault} → (◌≡◌ {A = Result Design Fault} (Err k) (Ok d)) → ⊥
    no_design e = cc
made o ps ys b d (Some n) m (Some cs) None (Some s) t en ec es is = absurd ec
made o ps ys b d (Some n) m (Some cs) (Some ds) (Some s) None en ec es is = absurd es
made o ps ys b d (Some n) m (Some cs) (Some ds) (Some s) (Some t) en ec es is =
    let pins = or_none_same pin_names pin_names (λ k. k) (first_some (map pins_of ps)) (first_some (map pins_of ys)) refl (first_beside _ (IssuedPart o) pins_of pins_of (λ x y v. (part_same o x y v).3) ps ys b) in
    let special = or_none_same net_names net_names (map (issued_net o true)) (first_some (map special_of ps)) (first_some (map special_of ys)) refl (first_beside _ (IssuedPart o) special_of special_of (λ x y v. (part_same o x y v).4) ps ys b) in
    let before : Design = record { units = n; comps = cs; pins = or_none (first_some (map pins_of ps)); special = or_none (first_some (map special_of ps)); nets = s } in
    let after : Design = record { units = n; comps = ds; pins = or_none (first_some (map pins_of ys)); special = or_none (first_some (map special_of ys)); nets = t } in
    let d_is : before ≡ d = ok_is is in
    let names : names_of after ≡ issued_design o (names_of before) = λ i. record { units = n; comps = ec i; pins = pins i; special = special i; nets = es i } in
    (after, ap (λ k. design_from ys k (Some ds) (Some t)) en, names ∙ ap (λ k. issued_design o (names_of k)) d_is)
  where
    ok_is : {k : Design} → (◌≡◌ {A = Result Design Fault} (Ok k) (Ok d)) → k ≡ d
    ok_is e = cc

pub reads_back_parts : (text : List ℕ) (o : Changes) → ChangesOk o → (ps : List Part) (r : Walk) → parts (walk_of text) ≡ Ok (ps, r) → AllByRecursion (Allows o) ps → (d : Design) → design_of text ≡ Ok d →
    (e : Design) × (design_of (issued_parts text o ps) ≡ Ok e) × (names_of e ≡ issued_design o (names_of d))
reads_back_parts text o fine ps r e allows d is =
    let y = parts_read text o fine ps r e allows in
    let whole : design_from ps (last_some (map units_of ps)) (first_some (map comps_of ps)) (first_some (map nets_of ps)) ≡ Ok d = ap design_read (sym e) ∙ is in
    let m = made o ps y.0 y.3 d (last_some (map units_of ps)) (last_some (map units_of y.0)) (first_some (map comps_of ps)) (first_some (map comps_of y.0)) (first_some (map nets_of ps)) (first_some (map nets_of y.0))
    (last_beside (IssuedPart o) units_of units_of (λ x z v. (part_same o x z v).1) ps y.0 y.3)
    (first_beside _ (IssuedPart o) comps_of comps_of (λ x z v. (part_same o x z v).2) ps y.0 y.3)
    (first_beside _ (IssuedPart o) nets_of nets_of (λ x z v. (part_same o x z v).5) ps y.0 y.3)
    whole in
    (m.0, ap design_read y.2 ∙ m.1, m.2)
