-- NETS stands once.
use Rattle.std.proofs.Common.{◌≡◌, ℕ, zero, suc, Bool, true, false, not, List, [], ◌∷◌, ◌++◌, map, Ok, Option, Some, None, refl, ap, sym, ◌∙◌, subst, true≢false, if◌then◌else◌, codes}
use Rattle.std.specs.List.{AllByRecursion}
use Rattle.eco_text.specs.Words.{Token, Walk, walk_of}
use Rattle.eco_def.specs.Parsing.{Parser, then_read, ◌>>=◌, give, refuse, begins, choose, many, many_until, many_for, size}
use Rattle.eco_text.specs.Tokens.{is_word, is_one_of}
use Rattle.eco_common.specs.Options.{first_some}
use Rattle.eco_def.specs.Design.{NetSection, Part, Passed, Units, Comps, Pins, Special, Nets}
use Rattle.eco_def.specs.Grammar.{net, units, comp_section, pin_section, section_head, section_end, special_section_within, special_section, net_section, passed_section, passed_up_to, passed_sections, passed_statements, Kind, CompKind, PinKind, SpecialKind, NetKind, have, once, part_new_within, part_new, part, end_design, parts_within, parts, nets_of}
use Rattle.eco_issued_laws.specs.Changes.{Changes}
use Rattle.eco_issued_laws.proofs.PartEdits.{part_edits}
use Rattle.eco_issued_laws.proofs.Faults.{twice_named, unknown_heading, bad_statement}
use Rattle.eco_issued_laws.proofs.Allowed.{Allows}
use Rattle.eco_issued_laws.proofs.Keeping.{Ok_is, split}
use Rattle.eco_issued_laws.proofs.Ending.{Ends, chosen, refused}
use Rattle.eco_issued_laws.proofs.Passing.{ends_comp_section, ends_pin_section, ends_units, ends_passed_section, ends_passed}

abbrev pub NoneNets : (Kind → Bool) → Type 0
NoneNets seen = seen NetKind ≡ false

-- where the part is a section of nets, there was none before
abbrev pub First : (Kind → Bool) → Part → Type 0
First seen (Nets s) = NoneNets seen
First seen _ = Unit {0}

abbrev Yields : (Kind → Bool) → Parser Part → Type 0
Yields seen p = (u : Walk) (x : Part) (r : Walk) → p u ≡ Ok (x, r) → First seen x

not_empty : {A : Type 0} {x : A} {xs : List A} → x ∷ xs ≡ [] → ⊥
not_empty e = cc

no_nets : (text : List ℕ) (o : Changes) (seen : Kind → Bool) (x : Part) → part_edits text o x ≡ [] → First seen x
no_nets text o seen Passed e = tt
no_nets text o seen (Units n) e = tt
no_nets text o seen (Comps cs) e = tt
no_nets text o seen (Pins ps) e = tt
no_nets text o seen (Special ss) e = tt
no_nets text o seen (Nets s) e = absurd (not_empty e)

yields_ends : (text : List ℕ) (o : Changes) (seen : Kind → Bool) (p : Parser Part) → Ends (λ x k. part_edits text o x ≡ []) p → Yields seen p
yields_ends text o seen p ends u x r e = no_nets text o seen x (ends u x r e).end

yields_choose : (seen : Kind → Bool) (f : Token → Bool) (p q : Parser Part) → Yields seen p → Yields seen q → Yields seen (choose f p q)
yields_choose seen f p q a b u x r e = chosen f p q u x r e (First seen x) (λ i. a u x r) (λ i. b u x r)

yields_once : (seen : Kind → Bool) (k : Kind) (p : Parser Part) → (seen k ≡ false → Yields seen p) → Yields seen (once seen k p)
yields_once seen k p f = go (seen k) refl
  where
    go : (b : Bool) → seen k ≡ b → Yields seen (λ u. if b then refuse twice_named u else p u)
    go true i u x r e = absurd (refused twice_named u x r e)
    go false i u x r e = f i u x r e

yields_special : (seen : Kind → Bool) → Yields seen special_section
unfolding special_section_within
yields_special seen u x r e =
    let a = split (section_head (codes "SPECIALNETS")) (λ c. many (is_word (codes "-")) net >>= λ nets. section_end (codes "SPECIALNETS") >>= λ end. give (Special nets)) u x r e in
    let b = split (many (is_word (codes "-")) net) (λ nets. section_end (codes "SPECIALNETS") >>= λ end. give (Special nets)) a.middle x r a.then_is in
    let c = split (section_end (codes "SPECIALNETS")) (λ end. give (Special b.first)) b.middle x r b.then_is in
    subst (λ k. First seen k) (ap (λ k. k.0) (Ok_is c.then_is)) tt

always : (seen : Kind → Bool) → NoneNets seen → (x : Part) → First seen x
always seen none Passed = tt
always seen none (Units n) = tt
always seen none (Comps cs) = tt
always seen none (Pins ps) = tt
always seen none (Special ss) = tt
always seen none (Nets s) = none

part_first : (text : List ℕ) (o : Changes) (seen : Kind → Bool) → Yields seen (part_new seen)
unfolding part_new_within
part_first text o seen =
    yields_choose seen (is_word (codes "UNITS")) units _ (yields_ends text o seen units (ends_units text o))
    (yields_choose seen (is_word (codes "COMPONENTS")) (once seen CompKind comp_section) _ (yields_once seen CompKind comp_section (λ i. yields_ends text o seen comp_section (ends_comp_section text o)))
    (yields_choose seen (is_word (codes "PINS")) (once seen PinKind pin_section) _ (yields_once seen PinKind pin_section (λ i. yields_ends text o seen pin_section (ends_pin_section text o)))
    (yields_choose seen (is_word (codes "SPECIALNETS")) (once seen SpecialKind special_section) _ (yields_once seen SpecialKind special_section (λ i. yields_special seen))
    (yields_choose seen (is_word (codes "NETS")) (once seen NetKind net_section) _ (yields_once seen NetKind net_section (λ i u x r e. always seen i x))
    (yields_choose seen (is_one_of passed_sections) passed_section _ (yields_ends text o seen passed_section (ends_passed_section text o))
    (yields_choose seen (is_one_of passed_statements) (passed_up_to (codes ";")) _ (yields_ends text o seen (passed_up_to (codes ";")) (ends_passed text o (codes ";")))
    (yields_choose seen (is_word (codes "BEGINEXT")) (passed_up_to (codes "ENDEXT")) (refuse unknown_heading) (yields_ends text o seen (passed_up_to (codes "ENDEXT")) (ends_passed text o (codes "ENDEXT")))
    (λ u x r e. absurd (refused unknown_heading u x r e)))))))))

-- each section of nets among these is that one
abbrev pub AllAre : NetSection → List Part → Type 0
AllAre s [] = Unit {0}
AllAre s (Nets t ∷ xs) = (t ≡ s) × AllAre s xs
AllAre s (_ ∷ xs) = AllAre s xs

none_all : (s : NetSection) (xs : List Part) → NoneNets (have xs) → AllAre s xs
none_all s [] e = tt
none_all s (Passed ∷ xs) e = none_all s xs e
none_all s ((Units n) ∷ xs) e = none_all s xs e
none_all s ((Comps cs) ∷ xs) e = none_all s xs e
none_all s ((Pins ps) ∷ xs) e = none_all s xs e
none_all s ((Special ss) ∷ xs) e = none_all s xs e
none_all s (Nets t ∷ xs) e = absurd (true≢false e)

all_push : (s : NetSection) (xs : List Part) (x : Part) → AllAre s xs → AllAre s (x ∷ []) → AllAre s (xs ++ x ∷ [])
all_push s [] x a b = b
all_push s (Passed ∷ xs) x a b = all_push s xs x a b
all_push s ((Units n) ∷ xs) x a b = all_push s xs x a b
all_push s ((Comps cs) ∷ xs) x a b = all_push s xs x a b
all_push s ((Pins ps) ∷ xs) x a b = all_push s xs x a b
all_push s ((Special ss) ∷ xs) x a b = all_push s xs x a b
all_push s (Nets t ∷ xs) x a b = (a.0, all_push s xs x a.1 b)

first_same : (xs : List Part) (x : Part) → nets_of x ≡ None → first_some (map nets_of (xs ++ x ∷ [])) ≡ first_some (map nets_of xs)
first_same [] x e = go (nets_of x) e
  where
    go : (o : Option NetSection) → o ≡ None → first_some (o ∷ []) ≡ None
    go None e = refl
    go (Some k) e = e
first_same (Passed ∷ xs) x e = first_same xs x e
first_same ((Units n) ∷ xs) x e = first_same xs x e
first_same ((Comps cs) ∷ xs) x e = first_same xs x e
first_same ((Pins ps) ∷ xs) x e = first_same xs x e
first_same ((Special ss) ∷ xs) x e = first_same xs x e
first_same (Nets t ∷ xs) x e = refl

first_new : (xs : List Part) (t : NetSection) → NoneNets (have xs) → first_some (map nets_of (xs ++ Nets t ∷ [])) ≡ Some t
first_new [] t e = refl
first_new (Passed ∷ xs) t e = first_new xs t e
first_new ((Units n) ∷ xs) t e = first_new xs t e
first_new ((Comps cs) ∷ xs) t e = first_new xs t e
first_new ((Pins ps) ∷ xs) t e = first_new xs t e
first_new ((Special ss) ∷ xs) t e = first_new xs t e
first_new (Nets k ∷ xs) t e = absurd (true≢false e)

abbrev pub OnlyFirst : List Part → Type 0
OnlyFirst xs = (s : NetSection) → first_some (map nets_of xs) ≡ Some s → AllAre s xs

only_push : (xs : List Part) (x : Part) → OnlyFirst xs → First (have xs) x → OnlyFirst (xs ++ x ∷ [])
only_push xs Passed only first s e = all_push s xs Passed (only s (sym (first_same xs Passed refl) ∙ e)) tt
only_push xs (Units n) only first s e = all_push s xs (Units n) (only s (sym (first_same xs (Units n) refl) ∙ e)) tt
only_push xs (Comps cs) only first s e = all_push s xs (Comps cs) (only s (sym (first_same xs (Comps cs) refl) ∙ e)) tt
only_push xs (Pins ps) only first s e = all_push s xs (Pins ps) (only s (sym (first_same xs (Pins ps) refl) ∙ e)) tt
only_push xs (Special ss) only first s e = all_push s xs (Special ss) (only s (sym (first_same xs (Special ss) refl) ∙ e)) tt
only_push xs (Nets t) only first s e = all_push s xs (Nets t) (none_all s xs first) (some_is (sym (first_new xs t first) ∙ e), tt)
  where
    some_is : {a b : NetSection} → Some a ≡ Some b → a ≡ b
    some_is e = cc

only_loop : (text : List ℕ) (o : Changes) (n : ℕ) (f : Token → Bool) (xs zs : List Part) (u r : Walk) → OnlyFirst xs → many_for n f part xs u ≡ Ok (zs, r) → OnlyFirst zs
only_loop text o zero f xs zs u r only e = absurd (refused bad_statement u zs r e)
only_loop text o (suc n) f xs zs u r only e = go (begins f u) e (λ x k. only_loop text o n f (xs ++ x ∷ []) zs k r)
  where
    go : (b : Bool) → (if b then then_read (part xs u) (λ x. many_for n f part (xs ++ x ∷ [])) else Ok (xs, u)) ≡ Ok (zs, r) → ((x : Part) (k : Walk) → OnlyFirst (xs ++ x ∷ []) → many_for n f part (xs ++ x ∷ []) k ≡ Ok (zs, r) → OnlyFirst zs) → OnlyFirst zs
    go true e rec =
        let s = split (part xs) (λ x. many_for n f part (xs ++ x ∷ [])) u zs r e in
        rec s.first s.middle (only_push xs s.first only (part_first text o (have xs) u s.first s.middle s.first_is)) s.then_is
    go false e rec = subst (λ k. OnlyFirst k) (ap (λ k. k.0) (Ok_is e)) only

allows_all : (o : Changes) (s : NetSection) (xs : List Part) → Allows o (Nets s) → AllAre s xs → AllByRecursion (Allows o) xs
allows_all o s [] a all = tt
allows_all o s (Passed ∷ xs) a all = (tt, allows_all o s xs a all)
allows_all o s ((Units n) ∷ xs) a all = (tt, allows_all o s xs a all)
allows_all o s ((Comps cs) ∷ xs) a all = (tt, allows_all o s xs a all)
allows_all o s ((Pins ps) ∷ xs) a all = (tt, allows_all o s xs a all)
allows_all o s ((Special ss) ∷ xs) a all = (tt, allows_all o s xs a all)
allows_all o s (Nets t ∷ xs) a all = (subst (λ k. Allows o (Nets k)) (sym all.0) a, allows_all o s xs a all.1)

-- what is wanted of the one section of nets is wanted of all
pub allows_parts : (text : List ℕ) (o : Changes) (ps : List Part) (r : Walk) → parts (walk_of text) ≡ Ok (ps, r) → (s : NetSection) → first_some (map nets_of ps) ≡ Some s → Allows o (Nets s) → AllByRecursion (Allows o) ps
unfolding parts_within
allows_parts text o ps r e s is a =
    let b = split (many_until (is_word (codes "END")) part) (λ ps. end_design >>= λ end. give ps) (walk_of text) ps r e in
    let c = split end_design (λ end. give b.first) b.middle ps r b.then_is in
    let same : b.first ≡ ps = ap (λ k. k.0) (Ok_is c.then_is) in
    let only = only_loop text o (suc (size (walk_of text))) (λ w. not (is_word (codes "END") w)) [] b.first (walk_of text) b.middle (λ s e. tt) b.first_is in
    allows_all o s ps a (subst (λ k. OnlyFirst k) same only s is)
