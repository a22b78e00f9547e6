-- The edits of all parts are those of the design.
use Rattle.std.proofs.Common.{◌≡◌, ℕ, zero, suc, ◌<◌, ◌≤◌, nat_lt, Bool, true, false, not, List, [], ◌∷◌, ◌++◌, map, Ok, Option, Some, None, refl, ap, sym, ◌∙◌, subst, arith, true≢false, if◌then◌else◌, codes, append-nil, append_assoc}
use Rattle.std.specs.List.{flat_map}
use Rattle.std.proofs.lemmas.Grind.{common_steps}
use Rattle.eco_text.specs.Words.{Token, Walk, walk_of}
use Rattle.eco_def.specs.Parsing.{Parser, then_read, ◌>>=◌, give, refuse, begins, choose, many, many_until, many_for, size}
use Rattle.eco_text.specs.Tokens.{is_word, is_one_of}
use Rattle.eco_common.specs.Options.{first_some}
use Rattle.eco_def.specs.Design.{Net, NetSection, Part, Passed, Units, Comps, Pins, Special, Nets}
use Rattle.eco_def.specs.Grammar.{net, section_head, section_end, units, comp_section, pin_section, special_section_within, special_section, net_section_within, net_section, passed_section, passed_up_to, passed_sections, passed_statements, Kind, CompKind, PinKind, SpecialKind, NetKind, have, once, part_new_within, part_new, part, end_design, parts_within, parts, special_of, nets_of, or_none}
use Rattle.eco_issued_laws.specs.Changes.{Changes}
use Rattle.eco_issued_laws.specs.Issued.{Edit, net_edit}
use Rattle.eco_issued_laws.proofs.PartEdits.{part_edits, both_edits}
use Rattle.eco_issued_laws.proofs.Faults.{Fault, twice_named, unknown_heading, bad_statement}
use Rattle.eco_issued_laws.proofs.Keeping.{Ok_is, split}
use Rattle.eco_issued_laws.proofs.Editing.{At}
use Rattle.eco_issued_laws.proofs.Ending.{Ends, chosen, refused}
use Rattle.eco_issued_laws.proofs.Others.{IsOther, other_comp_section, other_pin_section, other_units, other_passed_section, other_passed}
use Rattle.eco_issued_laws.proofs.Order.{Place, place_of, FirstIn, PartIn, special_in, nets_part_in}

abbrev pub NotYet : (Kind → Bool) → Part → Type 0
NotYet seen (Special ss) = seen SpecialKind ≡ false
NotYet seen (Nets s) = seen NetKind ≡ false
NotYet seen _ = Unit {0}

record PartAt (text : List ℕ) (seen : Kind → Bool) (q : ℕ) (x : Part) (r : Walk) : Type 0 where
  behind : Place text q r
  inside : PartIn q x behind.place
  not_yet : NotYet seen x

abbrev Stands : List ℕ → (Kind → Bool) → Parser Part → Type 0
Stands text seen p = (q : ℕ) (u : Walk) (x : Part) (r : Walk) → At text q u → p u ≡ Ok (x, r) → PartAt text seen q x r

other : (text : List ℕ) (seen : Kind → Bool) (p : Parser Part) → Ends (λ x k. IsOther x) p → Stands text seen p
other text seen p ends q u x r at e = go x (ends u x r e).end (place_of text p ends q u x r at e)
  where
    go : (x : Part) → IsOther x → Place text q r → PartAt text seen q x r
    go Passed o p = record { behind = p; inside = tt; not_yet = tt }
    go (Units n) o p = record { behind = p; inside = tt; not_yet = tt }
    go (Comps cs) o p = record { behind = p; inside = tt; not_yet = tt }
    go (Pins ps) o p = record { behind = p; inside = tt; not_yet = tt }
    go (Special ss) o p = absurd o
    go (Nets s) o p = absurd o

either : (text : List ℕ) (seen : Kind → Bool) (f : Token → Bool) (p p' : Parser Part) → Stands text seen p → Stands text seen p' → Stands text seen (choose f p p')
either text seen f p p' a b q u x r at e = chosen f p p' u x r e (PartAt text seen q x r) (λ i. a q u x r at) (λ i. b q u x r at)

refusing : (text : List ℕ) (seen : Kind → Bool) (fault : ℕ → Fault) → Stands text seen (refuse fault)
refusing text seen fault q u x r at e = absurd (refused fault u x r e)

at_once : (text : List ℕ) (seen : Kind → Bool) (k : Kind) (p : Parser Part) → (seen k ≡ false → Stands text seen p) → Stands text seen (once seen k p)
at_once text seen k p f = go (seen k) refl
  where
    go : (b : Bool) → seen k ≡ b → Stands text seen (λ u. if b then refuse twice_named u else p u)
    go true i q u x r at e = absurd (refused twice_named u x r e)
    go false i q u x r at e = f i q u x r at e

-- a section of special nets gives one, and of nets the other
special_is : (u : Walk) (x : Part) (r : Walk) → special_section u ≡ Ok (x, r) → (ss : List Net) × (x ≡ Special ss)
unfolding special_section_within
special_is u x r e =
    let a = split (section_head (codes "SPECIALNETS")) (λ c. many (is_word (codes "-")) net >>= λ nets. section_end (codes "SPECIALNETS") >>= λ end. give (Special nets)) u x r e in
    let b = split (many (is_word (codes "-")) net) (λ nets. section_end (codes "SPECIALNETS") >>= λ end. give (Special nets)) a.middle x r a.then_is in
    let c = split (section_end (codes "SPECIALNETS")) (λ end. give (Special b.first)) b.middle x r b.then_is in
    (b.first, sym (ap (λ k. k.0) (Ok_is c.then_is)))

nets_is : (u : Walk) (x : Part) (r : Walk) → net_section u ≡ Ok (x, r) → (s : NetSection) × (x ≡ Nets s)
unfolding net_section_within
nets_is u x r e =
    let a = split (section_head (codes "NETS")) (λ c. many (is_word (codes "-")) net >>= λ nets. section_end (codes "NETS") >>= λ end. give (Nets (record { count = c; nets = nets; end = end }))) u x r e in
    let b = split (many (is_word (codes "-")) net) (λ nets. section_end (codes "NETS") >>= λ end. give (Nets (record { count = a.first; nets = nets; end = end }))) a.middle x r a.then_is in
    let c = split (section_end (codes "NETS")) (λ end. give (Nets (record { count = a.first; nets = b.first; end = end }))) b.middle x r b.then_is in
    (record { count = a.first; nets = b.first; end = c.first }, sym (ap (λ k. k.0) (Ok_is c.then_is)))

stands_part : (text : List ℕ) (seen : Kind → Bool) → Stands text seen (part_new seen)
unfolding part_new_within
stands_part text seen =
    either text seen (is_word (codes "UNITS")) units _ (other text seen units other_units)
    (either text seen (is_word (codes "COMPONENTS")) (once seen CompKind comp_section) _ (at_once text seen CompKind comp_section (λ i. other text seen comp_section other_comp_section))
    (either text seen (is_word (codes "PINS")) (once seen PinKind pin_section) _ (at_once text seen PinKind pin_section (λ i. other text seen pin_section other_pin_section))
    (either text seen (is_word (codes "SPECIALNETS")) (once seen SpecialKind special_section) _ (at_once text seen SpecialKind special_section (λ i q u x r at e. let p = special_in text q u x r at e in let is = special_is u x r e in record { behind = p.0; inside = p.1; not_yet = subst (λ k. NotYet seen k) (sym is.1) i }))
    (either text seen (is_word (codes "NETS")) (once seen NetKind net_section) _ (at_once text seen NetKind net_section (λ i q u x r at e. let p = nets_part_in text q u x r at e in let is = nets_is u x r e in record { behind = p.0; inside = p.1; not_yet = subst (λ k. NotYet seen k) (sym is.1) i }))
    (either text seen (is_one_of passed_sections) passed_section _ (other text seen passed_section other_passed_section)
    (either text seen (is_one_of passed_statements) (passed_up_to (codes ";")) _ (other text seen (passed_up_to (codes ";")) (other_passed (codes ";")))
    (either text seen (is_word (codes "BEGINEXT")) (passed_up_to (codes "ENDEXT")) (refuse unknown_heading) (other text seen (passed_up_to (codes "ENDEXT")) (other_passed (codes "ENDEXT")))
    (refusing text seen unknown_heading))))))))

-- ---- what the parts so far have

abbrev FirstBy : List Net → ℕ → Type 0
FirstBy [] q = Unit {0}
FirstBy (t ∷ ts) q = t.start ≤ q

abbrev Sofar : List ℕ → Changes → List Edit → Option (List Net) → Option NetSection → ℕ → Type 0
Sofar text o es None None q = es ≡ []
Sofar text o es (Some ss) None q = (es ≡ map (net_edit text o true) ss) × FirstBy ss q
Sofar text o es None (Some s) q = (es ≡ part_edits text o (Nets s)) × (s.count.start ≤ q)
Sofar text o es (Some ss) (Some s) q = es ≡ both_edits text o ss s

first_by : (ss : List Net) (q k : ℕ) → q ≤ k → FirstBy ss q → FirstBy ss k
first_by [] q k le f = tt
first_by (t ∷ ts) q k le f = omega (arith, le, f)

by_in : (ss : List Net) (q k : ℕ) → FirstIn q ss k → FirstBy ss k
by_in [] q k f = tt
by_in (t ∷ ts) q k f = f.1

later : (text : List ℕ) (o : Changes) (es : List Edit) (S : Option (List Net)) (N : Option NetSection) (q k : ℕ) → q ≤ k → Sofar text o es S N q → Sofar text o es S N k
later text o es None None q k le i = i
later text o es (Some ss) None q k le i = (i.0, first_by ss q k le i.1)
later text o es None (Some s) q k le i = (i.0, omega (arith, le, i.1))
later text o es (Some ss) (Some s) q k le i = i

less : (a b : ℕ) → a < b → nat_lt a b ≡ true
less a b lt = grind (arith, common_steps)

not_less : (a b : ℕ) → b ≤ a → nat_lt a b ≡ false
not_less a b le = grind (arith, common_steps)

special_step : (text : List ℕ) (o : Changes) (es : List Edit) (N : Option NetSection) (ss : List Net) (q k : ℕ) → Sofar text o es None N q → q ≤ k → FirstIn q ss k → Sofar text o (es ++ map (net_edit text o true) ss) (Some ss) N k
special_step text o es None ss q k i le f = (ap (λ l. l ++ map (net_edit text o true) ss) i, by_in ss q k f)
special_step text o es (Some s) [] q k i le f = append-nil es ∙ i.0
special_step text o es (Some s) (t ∷ ts) q k i le f =
    let lt : nat_lt s.count.start t.start ≡ true = less s.count.start t.start (omega (arith, i.1, f.0)) in
    ap (λ l. l ++ map (net_edit text o true) (t ∷ ts)) i.0
    ∙ sym (ap (λ b. if b then part_edits text o (Nets s) ++ map (net_edit text o true) (t ∷ ts) else map (net_edit text o true) (t ∷ ts) ++ part_edits text o (Nets s)) lt)

nets_step : (text : List ℕ) (o : Changes) (es : List Edit) (S : Option (List Net)) (s : NetSection) (q k : ℕ) → Sofar text o es S None q → (q < s.count.start) × (s.count.start ≤ k) → Sofar text o (es ++ part_edits text o (Nets s)) S (Some s) k
nets_step text o es None s q k i f = (ap (λ l. l ++ part_edits text o (Nets s)) i, f.1)
nets_step text o es (Some []) s q k i f = ap (λ l. l ++ part_edits text o (Nets s)) i.0
nets_step text o es (Some (t ∷ ts)) s q k i f =
    let lt : nat_lt s.count.start t.start ≡ false = not_less s.count.start t.start (omega (arith, i.1, f.0)) in
    ap (λ l. l ++ part_edits text o (Nets s)) i.0
    ∙ sym (ap (λ b. if b then part_edits text o (Nets s) ++ map (net_edit text o true) (t ∷ ts) else map (net_edit text o true) (t ∷ ts) ++ part_edits text o (Nets s)) lt)

or_else : {A : Type 0} → Option A → Option A → Option A
or_else None o = o
or_else (Some x) o = Some x

first_push : {A : Type 0} (f : Part → Option A) (xs : List Part) (x : Part) → first_some (map f (xs ++ x ∷ [])) ≡ or_else (first_some (map f xs)) (f x)
unfolding or_else
first_push {A} f [] x = go (f x)
  where
    go : (o : Option A) → first_some (o ∷ []) ≡ o
    go None = refl
    go (Some k) = refl
first_push {A} f (y ∷ xs) x = go (f y) (first_push f xs x)
  where
    go : (o : Option A) → first_some (map f (xs ++ x ∷ [])) ≡ or_else (first_some (map f xs)) (f x) → first_some (o ∷ map f (xs ++ x ∷ [])) ≡ or_else (first_some (o ∷ map f xs)) (f x)
    go None e = e
    go (Some k) e = refl

or_none_is : {A : Type 0} (o : Option A) → or_else o None ≡ o
unfolding or_else
or_none_is None = refl
or_none_is (Some x) = refl

edits_push : (text : List ℕ) (o : Changes) (xs : List Part) (x : Part) → flat_map (part_edits text o) (xs ++ x ∷ []) ≡ flat_map (part_edits text o) xs ++ part_edits text o x
edits_push text o [] x = append-nil (part_edits text o x)
edits_push text o (y ∷ xs) x = ap (λ k. part_edits text o y ++ k) (edits_push text o xs x) ∙ sym (append_assoc (part_edits text o y) (flat_map (part_edits text o) xs) (part_edits text o x))

no_special : (xs : List Part) → have xs SpecialKind ≡ false → first_some (map special_of xs) ≡ None
no_special [] e = refl
no_special (Passed ∷ xs) e = no_special xs e
no_special ((Units n) ∷ xs) e = no_special xs e
no_special ((Comps cs) ∷ xs) e = no_special xs e
no_special ((Pins ps) ∷ xs) e = no_special xs e
no_special ((Nets s) ∷ xs) e = no_special xs e
no_special (Special ss ∷ xs) e = absurd (true≢false e)

no_nets_yet : (xs : List Part) → have xs NetKind ≡ false → first_some (map nets_of xs) ≡ None
no_nets_yet [] e = refl
no_nets_yet (Passed ∷ xs) e = no_nets_yet xs e
no_nets_yet ((Units n) ∷ xs) e = no_nets_yet xs e
no_nets_yet ((Comps cs) ∷ xs) e = no_nets_yet xs e
no_nets_yet ((Pins ps) ∷ xs) e = no_nets_yet xs e
no_nets_yet ((Special ss) ∷ xs) e = no_nets_yet xs e
no_nets_yet (Nets s ∷ xs) e = absurd (true≢false e)

abbrev Have : List ℕ → Changes → List Part → ℕ → Type 0
Have text o xs q = Sofar text o (flat_map (part_edits text o) xs) (first_some (map special_of xs)) (first_some (map nets_of xs)) q

put : (text : List ℕ) (o : Changes) (xs : List Part) (x : Part) (S S' : Option (List Net)) (N N' : Option NetSection) (k : ℕ) → or_else S (special_of x) ≡ S' → or_else N (nets_of x) ≡ N' → first_some (map special_of xs) ≡ S → first_some (map nets_of xs) ≡ N →
    Sofar text o (flat_map (part_edits text o) xs ++ part_edits text o x) S' N' k → Have text o (xs ++ x ∷ []) k
put text o xs x S S' N N' k eS eN iS iN i =
    subst (λ z. Sofar text o z (first_some (map special_of (xs ++ x ∷ []))) (first_some (map nets_of (xs ++ x ∷ []))) k) (sym (edits_push text o xs x))
    (subst (λ z. Sofar text o (flat_map (part_edits text o) xs ++ part_edits text o x) z (first_some (map nets_of (xs ++ x ∷ []))) k) (sym (first_push special_of xs x ∙ ap (λ z. or_else z (special_of x)) iS ∙ eS))
    (subst (λ z. Sofar text o (flat_map (part_edits text o) xs ++ part_edits text o x) S' z k) (sym (first_push nets_of xs x ∙ ap (λ z. or_else z (nets_of x)) iN ∙ eN)) i))

quiet : (text : List ℕ) (o : Changes) (xs : List Part) (x : Part) (q k : ℕ) → q ≤ k → special_of x ≡ None → nets_of x ≡ None → part_edits text o x ≡ [] → Have text o xs q → Have text o (xs ++ x ∷ []) k
quiet text o xs x q k le nS nN nE i =
    put text o xs x (first_some (map special_of xs)) (first_some (map special_of xs)) (first_some (map nets_of xs)) (first_some (map nets_of xs)) k
    (ap (or_else (first_some (map special_of xs))) nS ∙ or_none_is (first_some (map special_of xs))) (ap (or_else (first_some (map nets_of xs))) nN ∙ or_none_is (first_some (map nets_of xs))) refl refl
    (subst (λ z. Sofar text o z (first_some (map special_of xs)) (first_some (map nets_of xs)) k) (sym (ap (λ z. flat_map (part_edits text o) xs ++ z) nE ∙ append-nil (flat_map (part_edits text o) xs)))
    (later text o (flat_map (part_edits text o) xs) (first_some (map special_of xs)) (first_some (map nets_of xs)) q k le i))

have_push : (text : List ℕ) (o : Changes) (xs : List Part) (x : Part) (q k : ℕ) → q ≤ k → NotYet (have xs) x → PartIn q x k → Have text o xs q → Have text o (xs ++ x ∷ []) k
unfolding or_else
have_push text o xs Passed q k le not_yet inside i = quiet text o xs Passed q k le refl refl refl i
have_push text o xs (Units n) q k le not_yet inside i = quiet text o xs (Units n) q k le refl refl refl i
have_push text o xs (Comps cs) q k le not_yet inside i = quiet text o xs (Comps cs) q k le refl refl refl i
have_push text o xs (Pins ps) q k le not_yet inside i = quiet text o xs (Pins ps) q k le refl refl refl i
have_push text o xs (Special ss) q k le not_yet inside i =
    let none = no_special xs not_yet in
    put text o xs (Special ss) None (Some ss) (first_some (map nets_of xs)) (first_some (map nets_of xs)) k refl (or_none_is (first_some (map nets_of xs))) none refl
    (special_step text o (flat_map (part_edits text o) xs) (first_some (map nets_of xs)) ss q k (subst (λ z. Sofar text o (flat_map (part_edits text o) xs) z (first_some (map nets_of xs)) q) none i) le inside)
have_push text o xs (Nets s) q k le not_yet inside i =
    let none = no_nets_yet xs not_yet in
    put text o xs (Nets s) (first_some (map special_of xs)) (first_some (map special_of xs)) None (Some s) k (or_none_is (first_some (map special_of xs))) refl refl none
    (nets_step text o (flat_map (part_edits text o) xs) (first_some (map special_of xs)) s q k (subst (λ z. Sofar text o (flat_map (part_edits text o) xs) (first_some (map special_of xs)) z q) none i) inside)

have_loop : (text : List ℕ) (o : Changes) (n : ℕ) (f : Token → Bool) (q : ℕ) (xs zs : List Part) (u r : Walk) → At text q u → Have text o xs q → many_for n f part xs u ≡ Ok (zs, r) → (k : ℕ) × Have text o zs k
have_loop text o zero f q xs zs u r at i e = absurd (refused bad_statement u zs r e)
have_loop text o (suc n) f q xs zs u r at i e = go (begins f u) e (λ k x m. have_loop text o n f k (xs ++ x ∷ []) zs m r)
  where
    go : (b : Bool) → (if b then then_read (part xs u) (λ x. many_for n f part (xs ++ x ∷ [])) else Ok (xs, u)) ≡ Ok (zs, r) →
        ((k : ℕ) (x : Part) (m : Walk) → At text k m → Have text o (xs ++ x ∷ []) k → many_for n f part (xs ++ x ∷ []) m ≡ Ok (zs, r) → (j : ℕ) × Have text o zs j) → (j : ℕ) × Have text o zs j
    go true e rec =
        let s = split (part xs) (λ x. many_for n f part (xs ++ x ∷ [])) u zs r e in
        let p = stands_part text (have xs) q u s.first s.middle at s.first_is in
        rec p.behind.place s.first s.middle p.behind.at (have_push text o xs s.first q p.behind.place p.behind.later p.not_yet p.inside i) s.then_is
    go false e rec = (q, subst (λ k. Have text o k q) (ap (λ k. k.0) (Ok_is e)) i)

at_last : (text : List ℕ) (o : Changes) (es : List Edit) (S : Option (List Net)) (N : Option NetSection) (s : NetSection) (q : ℕ) → N ≡ Some s → Sofar text o es S N q → es ≡ both_edits text o (or_none S) s
at_last text o es S None s q e i = absurd (none_some e)
  where
    none_some : {m : NetSection} → None ≡ Some m → ⊥
    none_some e = cc
at_last text o es None (Some t) s q e i = i.0 ∙ ap (λ k. part_edits text o (Nets k)) (some_is e)
  where
    some_is : {m k : NetSection} → Some m ≡ Some k → m ≡ k
    some_is e = cc
at_last text o es (Some ss) (Some t) s q e i = i ∙ ap (λ k. both_edits text o ss k) (some_is e)
  where
    some_is : {m k : NetSection} → Some m ≡ Some k → m ≡ k
    some_is e = cc

-- the edits of the parts, by the sections
pub edits_of_parts : (text : List ℕ) (o : Changes) (ps : List Part) (r : Walk) → parts (walk_of text) ≡ Ok (ps, r) → (s : NetSection) → first_some (map nets_of ps) ≡ Some s →
    flat_map (part_edits text o) ps ≡ both_edits text o (or_none (first_some (map special_of ps))) s
unfolding parts_within
edits_of_parts text o ps r e s is =
    let b = split (many_until (is_word (codes "END")) part) (λ ps. end_design >>= λ end. give ps) (walk_of text) ps r e in
    let c = split end_design (λ end. give b.first) b.middle ps r b.then_is in
    let same : b.first ≡ ps = ap (λ k. k.0) (Ok_is c.then_is) in
    let have = have_loop text o (suc (size (walk_of text))) (λ w. not (is_word (codes "END") w)) 0 [] b.first (walk_of text) b.middle (record { is = refl; within = omega arith }) refl b.first_is in
    at_last text o (flat_map (part_edits text o) ps) (first_some (map special_of ps)) (first_some (map nets_of ps)) s have.0 is (subst (λ k. Have text o k have.0) same have.1)
