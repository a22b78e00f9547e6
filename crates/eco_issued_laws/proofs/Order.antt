-- Where the sections of nets stand.
use Rattle.std.proofs.Common.{◌≡◌, ℕ, zero, suc, ◌<◌, ◌≤◌, Bool, true, false, List, [], ◌∷◌, ◌++◌, drop, Ok, ap, sym, subst, arith, if◌then◌else◌, codes}
use Rattle.eco_text.specs.Words.{Walk, word_then}
use Rattle.eco_def.specs.Parsing.{Parser, then_read, ◌>>=◌, give, begins, many, many_for, size}
use Rattle.eco_text.specs.Tokens.{is_word}
use Rattle.eco_def.specs.Design.{Net, Part, Special, Nets}
use Rattle.eco_def.specs.Grammar.{net, section_head, section_end, special_section_within, special_section, net_section_within, net_section}
use Rattle.eco_text.proofs.Stepping.{Closes}
use Rattle.eco_issued_laws.proofs.Faults.{bad_statement}
use Rattle.eco_issued_laws.proofs.Keeping.{Ok_is, split}
use Rattle.eco_issued_laws.proofs.Editing.{At, behind, before}
use Rattle.eco_issued_laws.proofs.Ending.{Ends, refused, plain_word_is}
use Rattle.eco_issued_laws.proofs.Along.{longer}
use Rattle.eco_issued_laws.proofs.Nets.{net_read, ends_net}
use Rattle.eco_issued_laws.proofs.Passing.{ends_head, ends_end}
use Rattle.eco_issued_laws.proofs.Sections.{head_read}

-- a place after another, with the walk from there
pub record Place (text : List ℕ) (q : ℕ) (r : Walk) : Type 0 where
  pub place : ℕ
  pub at : At text place r
  pub closed : Closes (drop place text)
  pub later : q ≤ place

pub place_of : {A : Type 0} {E : A → ℕ → Type 0} (text : List ℕ) (p : Parser A) → Ends E p → (q : ℕ) (u : Walk) (x : A) (r : Walk) → At text q u → p u ≡ Ok (x, r) → Place text q r
place_of text p ends q u x r at e =
    let ed = ends u x r e in
    let b = behind text q u ed.init ed.last r at ed.is ed.plain in
    record { place = ed.last.end; at = b.at; closed = b.closed; later = b.later }

-- the first statement lies between two places
abbrev pub FirstIn : ℕ → List Net → ℕ → Type 0
FirstIn q [] k = Unit {0}
FirstIn q (s ∷ ss) k = (q < s.start) × (s.start ≤ k)

places : (text : List ℕ) (n q : ℕ) (xs zs : List Net) (u r : Walk) → At text q u → Closes (drop q text) → many_for n (is_word (codes "-")) net xs u ≡ Ok (zs, r) → Place text q r
places text zero q xs zs u r at closed e = absurd (refused bad_statement u zs r e)
places text (suc n) q xs zs u r at closed e = go (begins (is_word (codes "-")) u) e (λ k x m. places text n k (xs ++ x ∷ []) zs m r)
  where
    go : (b : Bool) → (if b then then_read (net xs u) (λ x. many_for n (is_word (codes "-")) net (xs ++ x ∷ [])) else Ok (xs, u)) ≡ Ok (zs, r) →
        ((k : ℕ) (x : Net) (m : Walk) → At text k m → Closes (drop k text) → many_for n (is_word (codes "-")) net (xs ++ x ∷ []) m ≡ Ok (zs, r) → Place text k r) → Place text q r
    go true e rec =
        let s = split (net xs) (λ x. many_for n (is_word (codes "-")) net (xs ++ x ∷ [])) u zs r e in
        let p = place_of text (net xs) (ends_net xs) q u s.first s.middle at s.first_is in
        let z = rec p.place s.first s.middle p.at p.closed s.then_is in
        record { place = z.place; at = z.at; closed = z.closed; later = omega (arith, p.later, z.later) }
    go false e rec = record { place = q; at = subst (λ k. At text q k) (ap (λ k. k.1) (Ok_is e)) at; closed = closed; later = omega arith }

pub first_place : (text : List ℕ) (n q : ℕ) (zs : List Net) (u r : Walk) → At text q u → Closes (drop q text) → many_for n (is_word (codes "-")) net [] u ≡ Ok (zs, r) → (p : Place text q r) × FirstIn q zs p.place
first_place text zero q zs u r at closed e = absurd (refused bad_statement u zs r e)
first_place text (suc n) q zs u r at closed e = go (begins (is_word (codes "-")) u) e
  where
    go : (b : Bool) → (if b then then_read (net [] u) (λ x. many_for n (is_word (codes "-")) net (x ∷ [])) else Ok ([], u)) ≡ Ok (zs, r) → (p : Place text q r) × FirstIn q zs p.place
    go true e =
        let s = split (net []) (λ x. many_for n (is_word (codes "-")) net (x ∷ [])) u zs r e in
        let nr = net_read [] u s.first s.middle s.first_is in
        let bf = before text q nr.dash nr.u1 (subst (λ k. At text q k) nr.dash_is at) in
        let ed = ends_net [] u s.first s.middle s.first_is in
        let at_start : At text nr.dash.start u = subst (λ k. At text nr.dash.start k) (sym nr.dash_is) bf.at in
        let b = behind text nr.dash.start u ed.init ed.last s.middle at_start ed.is ed.plain in
        let z = places text n ed.last.end (s.first ∷ []) zs s.middle r b.at b.closed s.then_is in
        let l = longer n (is_word (codes "-")) net (s.first ∷ []) zs s.middle r s.then_is in
        let bounds : FirstIn q (s.first ∷ l.0) z.place = (subst (λ k. q < k) (sym nr.start) (bf.beyond closed), omega (arith, nr.start, b.later, z.later)) in
        (record { place = z.place; at = z.at; closed = z.closed; later = omega (arith, bf.later, b.later, z.later) }, subst (λ k. FirstIn q k z.place) (sym l.1) bounds)
    go false e =
        (record { place = q; at = subst (λ k. At text q k) (ap (λ k. k.1) (Ok_is e)) at; closed = closed; later = omega arith }, subst (λ k. FirstIn q k q) (ap (λ k. k.0) (Ok_is e)) tt)

-- what a part of nets says of its places
abbrev pub PartIn : ℕ → Part → ℕ → Type 0
PartIn q (Special ss) k = FirstIn q ss k
PartIn q (Nets s) k = (q < s.count.start) × (s.count.start ≤ k)
PartIn q _ k = Unit {0}

pub special_in : (text : List ℕ) (q : ℕ) (u : Walk) (x : Part) (r : Walk) → At text q u → special_section u ≡ Ok (x, r) → (p : Place text q r) × PartIn q x p.place
unfolding special_section_within
special_in text q u x r at e =
    let a = split (section_head (codes "SPECIALNETS")) (λ c. many (is_word (codes "-")) net >>= λ nets. section_end (codes "SPECIALNETS") >>= λ end. give (Special nets)) u x r e in
    let b = split (many (is_word (codes "-")) net) (λ nets. section_end (codes "SPECIALNETS") >>= λ end. give (Special nets)) a.middle x r a.then_is in
    let c = split (section_end (codes "SPECIALNETS")) (λ end. give (Special b.first)) b.middle x r b.then_is in
    let h = place_of text (section_head (codes "SPECIALNETS")) (ends_head (codes "SPECIALNETS")) q u a.first a.middle at a.first_is in
    let l = first_place text (suc (size a.middle)) h.place b.first a.middle b.middle h.at h.closed b.first_is in
    let z = place_of text (section_end (codes "SPECIALNETS")) (ends_end (codes "SPECIALNETS")) l.0.place b.middle c.first c.middle l.0.at c.first_is in
    subst (λ k. (p : Place text q k.1) × PartIn q k.0 p.place) (Ok_is c.then_is)
    (record { place = z.place; at = z.at; closed = z.closed; later = omega (arith, h.later, l.0.later, z.later) }, wider q h.place l.0.place z.place b.first h.later z.later l.1)
  where
    wider : (q h k z : ℕ) (ss : List Net) → q ≤ h → k ≤ z → FirstIn h ss k → FirstIn q ss z
    wider q h k z [] a b f = tt
    wider q h k z (s ∷ ss) a b f = (omega (arith, a, f.0), omega (arith, b, f.1))

pub nets_part_in : (text : List ℕ) (q : ℕ) (u : Walk) (x : Part) (r : Walk) → At text q u → net_section u ≡ Ok (x, r) → (p : Place text q r) × PartIn q x p.place
unfolding net_section_within
nets_part_in text q u x r at e =
    let a = split (section_head (codes "NETS")) (λ c. many (is_word (codes "-")) net >>= λ nets. section_end (codes "NETS") >>= λ end. give (Nets (record { count = c; nets = nets; end = end }))) u x r e in
    let b = split (many (is_word (codes "-")) net) (λ nets. section_end (codes "NETS") >>= λ end. give (Nets (record { count = a.first; nets = nets; end = end }))) a.middle x r a.then_is in
    let c = split (section_end (codes "NETS")) (λ end. give (Nets (record { count = a.first; nets = b.first; end = end }))) b.middle x r b.then_is in
    let h = head_read (codes "NETS") u a.first a.middle a.first_is in
    let b1 = behind text q u [] h.heading h.v1 at h.heading_is (plain_word_is (codes "NETS") h.heading h.headed) in
    let bf = before text h.heading.end a.first h.v2 (subst (λ k. At text h.heading.end k) h.count_is b1.at) in
    let b2 = behind text a.first.start (word_then a.first h.v2) (a.first ∷ []) h.last a.middle bf.at (ap (word_then a.first) h.last_is) (plain_word_is (codes ";") h.last h.ended) in
    let l = first_place text (suc (size a.middle)) h.last.end b.first a.middle b.middle b2.at b2.closed b.first_is in
    let z = place_of text (section_end (codes "NETS")) (ends_end (codes "NETS")) l.0.place b.middle c.first c.middle l.0.at c.first_is in
    let low : q < a.first.start = omega (arith, b1.later, bf.beyond b1.closed) in
    let high : a.first.start ≤ z.place = omega (arith, b2.later, l.0.later, z.later) in
    subst (λ k. (p : Place text q k.1) × PartIn q k.0 p.place) (Ok_is c.then_is)
    (record { place = z.place; at = z.at; closed = z.closed; later = omega (arith, low, high) }, (low, high))
