-- Sections of nets in the edited text.
use Rattle.std.proofs.Common.{◌≡◌, ℕ, zero, suc, ◌+◌, ◌<◌, ◌≤◌, Bool, true, false, List, [], ◌∷◌, ◌++◌, length, map, slice_range, Ok, refl, ap, sym, ◌∙◌, subst, arith, if◌then◌else◌, append_assoc, codes}
use Rattle.std.specs.List.{AllByRecursion, flat_map}
use Rattle.eco_text.specs.Words.{Token, Walk, word_then, between, walk, ◌+++◌}
use Rattle.eco_def.specs.Parsing.{Parser, then_read, ◌>>=◌, give, begins, any, word, many, many_for, size}
use Rattle.eco_text.specs.Tokens.{is_word}
use Rattle.eco_def.specs.Design.{Net, NetSection, Part, Special, Nets}
use Rattle.eco_def.specs.Named.{net_names}
use Rattle.eco_def.specs.Grammar.{section_head, section_end, net, special_section_within, special_section, net_section_within, net_section}
use Rattle.eco_issued_laws.specs.Changes.{Changes, Fresh}
use Rattle.eco_issued_laws.specs.Issued.{Edit, edited, net_edit, issued_net, fresh_net, fresh_text, count_text}
use Rattle.eco_issued_laws.proofs.PartEdits.{part_edits}
use Rattle.eco_issued_laws.proofs.Allowed.{IsWord, bare, AllJointsOk, FreshOk, Allows}
use Rattle.eco_issued_laws.proofs.Keeping.{Same, SameAll, SameNext, begins_again, Ok_is, split}
use Rattle.eco_issued_laws.proofs.Repeating.{Beside}
use Rattle.eco_issued_laws.proofs.Rules.{tests_word}
use Rattle.eco_issued_laws.proofs.Pieces.{IsPiece, piece_word}
use Rattle.eco_issued_laws.proofs.Editing.{At, Ahead, Behind, behind, Before, before, closes_edited}
use Rattle.eco_issued_laws.proofs.Ending.{next_is, any_is, plain_word_is}
use Rattle.eco_issued_laws.proofs.Along.{now, Along, Loop, loop, issues_keeps, ahead_before}
use Rattle.eco_issued_laws.proofs.Fresh.{net_issues, net_shrinks, fresh_reads}
use Rattle.eco_issued_laws.proofs.Passing.{IssuedPart, keeps_head, ends_head, keeps_end, ends_end}

pub stop_many : {A : Type 0} (f : Token → Bool) (item : List A → Parser A) (j : ℕ) (ws : List A) (v : Walk) → size v < j → begins f v ≡ false → many_for j f item ws v ≡ Ok (ws, v)
stop_many f item zero ws v lt off = absurd (omega (arith, lt))
stop_many f item (suc j) ws v lt off = ap (λ b. if b then then_read (item ws v) (λ x. many_for j f item (ws ++ x ∷ [])) else Ok (ws, v)) off

pub every_unit : {A : Type 0} (xs : List A) → AllByRecursion (λ x. Unit {0}) xs
every_unit [] = tt
every_unit (x ∷ xs) = (tt, every_unit xs)

flat_one : (text : List ℕ) (o : Changes) (special : Bool) (ss : List Net) → flat_map (λ s. net_edit text o special s ∷ []) ss ≡ map (net_edit text o special) ss
flat_one text o special [] = refl
flat_one text o special (s ∷ ss) = ap (λ k. net_edit text o special s ∷ k) (flat_one text o special ss)

issued_all : (o : Changes) (special : Bool) (ss ts : List Net) → Beside (λ s y. net_names y ≡ issued_net o special (net_names s)) ss ts → map net_names ts ≡ map (issued_net o special) (map net_names ss)
issued_all o special [] [] b = refl
issued_all o special [] (t ∷ ts) b = absurd b
issued_all o special (s ∷ ss) [] b = absurd b
issued_all o special (s ∷ ss) (t ∷ ts) b = let first : net_names t ≡ issued_net o special (net_names s) = b.0 in let rest : map net_names ts ≡ map (issued_net o special) (map net_names ss) = issued_all o special ss ts b.1 in cc

same_names : (o : Changes) (special : Bool) (ss ts : List Net) → Beside (λ s y. net_names y ≡ issued_net o special (net_names s)) ss ts → map (λ k. k.name.bytes) ts ≡ map (λ k. k.name.bytes) ss
same_names o special [] [] b = refl
same_names o special [] (t ∷ ts) b = absurd b
same_names o special (s ∷ ss) [] b = absurd b
same_names o special (s ∷ ss) (t ∷ ts) b = let first : t.name.bytes ≡ s.name.bytes = ap (λ k. k.name) b.0 in let rest : map (λ k. k.name.bytes) ts ≡ map (λ k. k.name.bytes) ss = same_names o special ss ts b.1 in cc

module _ (text : List ℕ) (o : Changes) (ok : (special : Bool) (n : List ℕ) → AllJointsOk (o.added special n)) where
  nets_loop : (special : Bool) (q : ℕ) (u r : Walk) (ss : List Net) → At text q u → many (is_word (codes "-")) net u ≡ Ok (ss, r) →
      Loop text (λ s y. net_names y ≡ issued_net o special (net_names s)) (λ s. net_edit text o special s ∷ []) (is_word (codes "-")) net [] ss q u r
  nets_loop special q u r ss at e =
      loop text (λ s y. net_names y ≡ issued_net o special (net_names s)) (λ s. net_edit text o special s ∷ []) (λ s. Unit {0}) (is_word (codes "-")) (tests_word (codes "-")) net net
      (λ xs q u x r at e g. net_issues text o special (ok special) xs q u x r at e) net_shrinks (suc (size u)) [] ss q u r (every_unit ss) at e

  special_made : (q : ℕ) (u r : Walk) (ss : List Net) (count : Token) (u1 u2 : Walk) (place : ℕ) → At text q u → section_head (codes "SPECIALNETS") u ≡ Ok (count, u1) → many (is_word (codes "-")) net u1 ≡ Ok (ss, u2) → section_end (codes "SPECIALNETS") u2 ≡ Ok (place, r) →
      Along text (IssuedPart o) (part_edits text o) (λ i. Unit {0}) (λ (i : Unit {0}). special_section) q (Special ss) u r
  unfolding special_section_within
  special_made q u r ss count u1 u2 place at head_is nets_is end_is = record {
    place = z.place;
    at = z.at;
    closed = z.closed;
    later = omega (arith, h.later, l.later, z.later);
    ahead = λ c es a. subst (λ k. Ahead text q k) (sym (edits es)) (h.ahead c (flat es) (inner es a));
    first = λ p es a. subst (λ k. SameNext u (now text p q k)) (sym (edits es)) (h.first p (flat es) (inner es a));
    reads = found;
  }
    where
      h : Along text Same (λ x. []) (λ i. Unit {0}) (λ (i : Unit {0}). section_head (codes "SPECIALNETS")) q count u u1
      h = issues_keeps text Same (λ x k. Unit {0}) (section_head (codes "SPECIALNETS")) (section_head (codes "SPECIALNETS")) (keeps_head (codes "SPECIALNETS")) (ends_head (codes "SPECIALNETS")) q u count u1 at head_is

      l : Loop text (λ s y. net_names y ≡ issued_net o true (net_names s)) (λ s. net_edit text o true s ∷ []) (is_word (codes "-")) net [] ss h.place u1 u2
      l = nets_loop true h.place u1 u2 ss h.at nets_is

      z : Along text (λ (x y : ℕ). Unit {0}) (λ x. []) (λ i. Unit {0}) (λ (i : Unit {0}). section_end (codes "SPECIALNETS")) l.place place u2 r
      z = issues_keeps text (λ x y. Unit {0}) (λ x k. Unit {0}) (section_end (codes "SPECIALNETS")) (section_end (codes "SPECIALNETS")) (keeps_end (codes "SPECIALNETS")) (ends_end (codes "SPECIALNETS")) l.place u2 place r l.at end_is

      flat : List Edit → List Edit
      flat es = flat_map (λ s. net_edit text o true s ∷ []) l.rest ++ es

      edits : (es : List Edit) → map (net_edit text o true) ss ++ es ≡ flat es
      edits es = ap (λ k. map (net_edit text o true) k ++ es) l.is ∙ ap (λ k. k ++ es) (sym (flat_one text o true l.rest))

      last_edit : (es : List Edit) → Ahead text z.place es → Ahead text l.place es
      last_edit es a = z.ahead (l.closed h.closed) es a

      inner : (es : List Edit) → Ahead text z.place es → Ahead text h.place (flat es)
      inner es a = l.ahead h.closed es (last_edit es a)

      found : (i : Unit {0}) → Unit {0} → (p : ℕ) (es : List Edit) → Ahead text z.place es → (y : Part) × (k : ℕ) × (special_section (now text p q (map (net_edit text o true) ss ++ es)) ≡ Ok (y, now text k z.place es)) × IssuedPart o (Special ss) y
      found i w p es a =
          let hh = h.reads tt tt p (flat es) (inner es a) in
          let ll = l.reads (suc (size (now text hh.1 h.place (flat es)))) hh.1 [] es tt (last_edit es a) (omega arith) in
          let zz = z.reads tt tt ll.2 es a in
          let off : begins (is_word (codes "-")) (now text ll.2 l.place es) ≡ false = begins_again (tests_word (codes "-")) u2 (now text ll.2 l.place es) (z.first ll.2 es a) ∙ l.stops in
          let nets : many (is_word (codes "-")) net (now text hh.1 h.place (flat es)) ≡ Ok (ll.0, now text ll.2 l.place es) = ll.3 ∙ stop_many (is_word (codes "-")) net ll.1 ll.0 (now text ll.2 l.place es) ll.4 off in (
            Special ll.0,
            zz.1,
            ap (λ k. special_section (now text p q k)) (edits es)
                ∙ ap (λ k. then_read k (λ c. many (is_word (codes "-")) net >>= λ nets. section_end (codes "SPECIALNETS") >>= λ end. give (Special nets))) hh.2
                ∙ ap (λ k. then_read k (λ nets. section_end (codes "SPECIALNETS") >>= λ end. give (Special nets))) nets
                ∙ ap (λ k. then_read k (λ end. give (Special ll.0))) zz.2,
            issued_all o true ss ll.0 ll.5,
          )

  pub special_along : (q : ℕ) (u : Walk) (x : Part) (r : Walk) → At text q u → special_section u ≡ Ok (x, r) → Along text (IssuedPart o) (part_edits text o) (λ i. Unit {0}) (λ (i : Unit {0}). special_section) q x u r
  unfolding special_section_within
  special_along q u x r at e =
      let a = split (section_head (codes "SPECIALNETS")) (λ c. many (is_word (codes "-")) net >>= λ nets. section_end (codes "SPECIALNETS") >>= λ end. give (Special nets)) u x r e in
      let b = split (many (is_word (codes "-")) net) (λ nets. section_end (codes "SPECIALNETS") >>= λ end. give (Special nets)) a.middle x r a.then_is in
      let c = split (section_end (codes "SPECIALNETS")) (λ end. give (Special b.first)) b.middle x r b.then_is in
      subst (λ k. Along text (IssuedPart o) (part_edits text o) (λ i. Unit {0}) (λ (i : Unit {0}). special_section) q k.0 u k.1) (Ok_is c.then_is)
      (special_made q u c.middle b.first a.first a.middle b.middle c.first at a.first_is b.first_is c.first_is)

-- ---- NETS

-- what a section begins with
pub record HeadRead (keyword : List ℕ) (u : Walk) (count : Token) (r : Walk) : Type 0 where
  pub heading : Token
  pub v1 : Walk
  pub heading_is : u ≡ word_then heading v1
  pub headed : is_word keyword heading ≡ true
  pub v2 : Walk
  pub count_is : v1 ≡ word_then count v2
  pub last : Token
  pub last_is : v2 ≡ word_then last r
  pub ended : is_word (codes ";") last ≡ true

pub head_read : (keyword : List ℕ) (u : Walk) (count : Token) (r : Walk) → section_head keyword u ≡ Ok (count, r) → HeadRead keyword u count r
unfolding section_head
head_read keyword u count r e =
    let a = split (word keyword) (λ heading. any >>= λ c. word (codes ";") >>= λ begin. give c) u count r e in
    let b = split any (λ c. word (codes ";") >>= λ begin. give c) a.middle count r a.then_is in
    let c = split (word (codes ";")) (λ begin. give b.first) b.middle count r b.then_is in
    let h = next_is (is_word keyword) u a.first a.middle a.first_is in
    let l = next_is (is_word (codes ";")) b.middle c.first c.middle c.first_is in
    record {
      heading = a.first;
      v1 = a.middle;
      heading_is = h.is;
      headed = h.passes;
      v2 = b.middle;
      count_is = any_is a.middle b.first b.middle b.first_is ∙ ap (λ k. word_then k b.middle) (ap (λ k. k.0) (Ok_is c.then_is));
      last = c.first;
      last_is = l.is ∙ ap (word_then c.first) (ap (λ k. k.1) (Ok_is c.then_is));
      ended = l.passes;
    }

-- a section's end
record EndRead (keyword : List ℕ) (u : Walk) (place : ℕ) : Type 0 where
  end : Token
  v1 : Walk
  end_is : u ≡ word_then end v1
  place_is : place ≡ end.start

end_read : (keyword : List ℕ) (u : Walk) (place : ℕ) (r : Walk) → section_end keyword u ≡ Ok (place, r) → EndRead keyword u place
unfolding section_end
end_read keyword u place r e =
    let a = split (word (codes "END")) (λ end. word keyword >>= λ again. give end.start) u place r e in
    let b = split (word keyword) (λ again. give a.first.start) a.middle place r a.then_is in
    record { end = a.first; v1 = a.middle; end_is = (next_is (is_word (codes "END")) u a.first a.middle a.first_is).is; place_is = sym (ap (λ k. k.0) (Ok_is b.then_is)) }

one_same : (t : Token) (ss : List Token) → SameAll (t ∷ []) ss → (s : Token) × (ss ≡ s ∷ []) × Same t s
one_same t [] all = absurd all
one_same t (s ∷ []) all = (s, refl, all.0)
one_same t (s ∷ k ∷ ss) all = absurd all.1

head_again : (keyword : List ℕ) (a c b : Token) (v : Walk) → is_word keyword a ≡ true → is_word (codes ";") b ≡ true → section_head keyword (word_then a (word_then c (word_then b v))) ≡ Ok (c, v)
unfolding section_head
head_again keyword a c b v x y = rw (x, y) refl

module _ (text : List ℕ) (o : Changes) (ok : (special : Bool) (n : List ℕ) → AllJointsOk (o.added special n)) (digits : (n : ℕ) → IsWord (o.numeral n)) where
  net_made : (q : ℕ) (u r : Walk) (ss : List Net) (count : Token) (u1 u2 : Walk) (place : ℕ) → count.quoted ≡ false → FreshOk (map (λ k. k.name.bytes) ss) o.fresh → At text q u →
      section_head (codes "NETS") u ≡ Ok (count, u1) → many (is_word (codes "-")) net u1 ≡ Ok (ss, u2) → section_end (codes "NETS") u2 ≡ Ok (place, r) →
      Along text (IssuedPart o) (part_edits text o) (λ i. Unit {0}) (λ (i : Unit {0}). net_section) q (Nets (record { count = count; nets = ss; end = place })) u r
  unfolding net_section_within
  net_made q u r ss count u1 u2 place plain fresh at head_is nets_is end_is = record {
    place = z.place;
    at = z.at;
    closed = z.closed;
    later = omega (arith, b1.later, b2.later, b3.later, l.later, be.later, end'.place_is, z.later);
    ahead = λ c es a. ahead_before text q h.heading.end ((count_edit ∷ (map (net_edit text o false) ss ++ new_edit ∷ [])) ++ es) b1.later (bf.beyond b1.closed, bf_within);
    first = first_of;
    reads = found;
  }
    where
      section : NetSection
      section = record { count = count; nets = ss; end = place }

      count_edit : Edit
      count_edit = record { start = count.start; end = count.end; bytes = count_text text o section o.fresh }

      new_edit : Edit
      new_edit = record { start = place; end = place; bytes = flat_map fresh_text o.fresh }

      h : HeadRead (codes "NETS") u count u1
      h = head_read (codes "NETS") u count u1 head_is

      b1 : Behind text q (h.heading ∷ []) h.heading.end h.v1
      b1 = behind text q u [] h.heading h.v1 at h.heading_is (plain_word_is (codes "NETS") h.heading h.headed)

      bf : Before text h.heading.end count.start (word_then count h.v2)
      bf = before text h.heading.end count h.v2 (subst (λ k. At text h.heading.end k) h.count_is b1.at)

      bf_within : count.start ≤ length text
      bf_within = omega (arith, bf.inside)

      b2 : Behind text h.heading.end (count ∷ []) count.end h.v2
      b2 = behind text h.heading.end h.v1 [] count h.v2 b1.at h.count_is plain

      b3 : Behind text count.end (h.last ∷ []) h.last.end u1
      b3 = behind text count.end h.v2 [] h.last u1 b2.at h.last_is (plain_word_is (codes ";") h.last h.ended)

      l : Loop text (λ s y. net_names y ≡ issued_net o false (net_names s)) (λ s. net_edit text o false s ∷ []) (is_word (codes "-")) net [] ss h.last.end u1 u2
      l = nets_loop text o ok false h.last.end u1 u2 ss b3.at nets_is

      end' : EndRead (codes "NETS") u2 place
      end' = end_read (codes "NETS") u2 place r end_is

      be : Before text l.place end'.end.start (word_then end'.end end'.v1)
      be = before text l.place end'.end end'.v1 (subst (λ k. At text l.place k) end'.end_is l.at)

      at_end : At text place u2
      at_end = subst (λ k. At text k u2) (sym end'.place_is) (subst (λ k. At text end'.end.start k) (sym end'.end_is) be.at)

      z : Along text (λ (x y : ℕ). Unit {0}) (λ x. []) (λ i. Unit {0}) (λ (i : Unit {0}). section_end (codes "NETS")) place place u2 r
      z = issues_keeps text (λ x y. Unit {0}) (λ x k. Unit {0}) (section_end (codes "NETS")) (section_end (codes "NETS")) (keeps_end (codes "NETS")) (ends_end (codes "NETS")) place u2 place r at_end end_is

      piece_of : (fs : List Fresh) → (t : Token) × IsPiece (count_text text o section fs) (t ∷ [])
      piece_of [] = (count, (behind text count.start (word_then count h.v2) [] count h.v2 bf.at refl plain).piece)
      piece_of (f ∷ fs) = (bare (o.numeral (length ss + length (f ∷ fs))), piece_word (o.numeral (length ss + length (f ∷ fs))) (digits (length ss + length (f ∷ fs))))

      flat : List Edit → List Edit
      flat es = flat_map (λ s. net_edit text o false s ∷ []) l.rest ++ (new_edit ∷ es)

      edits : (es : List Edit) → (map (net_edit text o false) ss ++ new_edit ∷ []) ++ es ≡ flat es
      edits es = append_assoc (map (net_edit text o false) ss) (new_edit ∷ []) es ∙ ap (λ k. map (net_edit text o false) k ++ (new_edit ∷ es)) l.is ∙ ap (λ k. k ++ (new_edit ∷ es)) (sym (flat_one text o false l.rest))

      last_edit : (es : List Edit) → Ahead text l.place (new_edit ∷ es)
      last_edit es = (subst (λ k. l.place < k) (sym end'.place_is) (be.beyond (l.closed b3.closed)), omega (arith, end'.place_is, be.inside))

      inner : (es : List Edit) → Ahead text h.last.end (flat es)
      inner es = l.ahead b3.closed (new_edit ∷ es) (last_edit es)

      ahead_count : (fs : List Edit) → Ahead text h.heading.end (count_edit ∷ fs)
      ahead_count fs = (bf.beyond b1.closed, bf_within)

      -- the head in the edited text
      head_now : (p : ℕ) (fs : List Edit) → Ahead text h.last.end fs → (a c b : Token) × (k : ℕ) × Same h.heading a × Same h.last b × (now text p q (count_edit ∷ fs) ≡ word_then a (word_then c (word_then b (now text k h.last.end fs))))
      head_now p fs ahead =
          let y1 = b1.again p (count_edit ∷ fs) (ahead_count fs) in
          let s1 = one_same h.heading y1.0 y1.2 in
          let g = bf.again y1.1 (count_edit.bytes ++ edited text count.end fs) in
          let pc = piece_of o.fresh in
          let y2 = pc.1 g.0 (edited text count.end fs) (closes_edited text count.end fs b2.closed b2.at.within (ahead_before text count.end h.last.end fs b3.later ahead)) in
          let s2 = one_same pc.0 y2.0 y2.1 in
          let k3 = g.0 + length count_edit.bytes in
          let y3 = b3.again k3 fs ahead in
          let s3 = one_same h.last y3.0 y3.2 in (
            s1.0,
            s2.0,
            s3.0,
            y3.1,
            s1.2,
            s3.2,
            y1.3 ∙ ap (λ k. k +++ now text y1.1 h.heading.end (count_edit ∷ fs)) s1.1
                ∙ ap (word_then s1.0) (g.1 ∙ y2.2 ∙ ap (λ k. k +++ now text k3 count.end fs) s2.1
                ∙ ap (word_then s2.0) (y3.3 ∙ ap (λ k. k +++ now text y3.1 h.last.end fs) s3.1)),
          )

      all_edits : (es : List Edit) → (count_edit ∷ (map (net_edit text o false) ss ++ new_edit ∷ [])) ++ es ≡ count_edit ∷ flat es
      all_edits es = ap (λ k. count_edit ∷ k) (edits es)

      first_of : (p : ℕ) (es : List Edit) → Ahead text z.place es → SameNext u (now text p q ((count_edit ∷ (map (net_edit text o false) ss ++ new_edit ∷ [])) ++ es))
      first_of p es a =
          let y = head_now p (flat es) (inner es) in
          let there : now text p q ((count_edit ∷ (map (net_edit text o false) ss ++ new_edit ∷ [])) ++ es) ≡ word_then y.0 (word_then y.1 (word_then y.2 (now text y.3 h.last.end (flat es)))) = ap (λ k. now text p q k) (all_edits es) ∙ y.6 in
          subst (λ k. SameNext k (now text p q ((count_edit ∷ (map (net_edit text o false) ss ++ new_edit ∷ [])) ++ es))) (sym h.heading_is) (subst (λ k. SameNext (word_then h.heading h.v1) k) (sym there) y.4)

      found : (i : Unit {0}) → Unit {0} → (p : ℕ) (es : List Edit) → Ahead text z.place es →
          (y : Part) × (k : ℕ) × (net_section (now text p q ((count_edit ∷ (map (net_edit text o false) ss ++ new_edit ∷ [])) ++ es)) ≡ Ok (y, now text k z.place es)) × IssuedPart o (Nets section) y
      found i w p es a =
          let y = head_now p (flat es) (inner es) in
          let head : section_head (codes "NETS") (now text p q (count_edit ∷ flat es)) ≡ Ok (y.1, now text y.3 h.last.end (flat es)) =
          ap (section_head (codes "NETS")) y.6 ∙ head_again (codes "NETS") y.0 y.1 y.2 (now text y.3 h.last.end (flat es)) (tests_word (codes "NETS") h.heading y.0 y.4 ∙ h.headed) (tests_word (codes ";") h.last y.2 y.5 ∙ h.ended) in
          let ll = l.reads (suc (size (now text y.3 h.last.end (flat es)))) y.3 [] (new_edit ∷ es) tt (last_edit es) (omega arith) in
          let g = be.again ll.2 (new_edit.bytes ++ edited text place es) in
          let whole : now text ll.2 l.place (new_edit ∷ es) ≡ walk between g.0 (new_edit.bytes ++ edited text place es) = ap (λ k. walk between ll.2 (slice_range text l.place k ++ (new_edit.bytes ++ edited text place es))) end'.place_is ∙ g.1 in
          let fr = fresh_reads o.fresh (map (λ k. k.name.bytes) ss) fresh ll.1 g.0 ll.0 (edited text place es) (same_names o false ss ll.0 ll.5) (omega (arith, ll.4, ap size whole)) in
          let zz = z.reads tt tt fr.2 es a in
          let off : begins (is_word (codes "-")) (now text fr.2 place es) ≡ false = begins_again (tests_word (codes "-")) u2 (now text fr.2 place es) (z.first fr.2 es a) ∙ l.stops in
          let nets : many (is_word (codes "-")) net (now text y.3 h.last.end (flat es)) ≡ Ok (fr.0, now text fr.2 place es) =
          ll.3 ∙ ap (λ k. many_for ll.1 (is_word (codes "-")) net ll.0 k) whole ∙ fr.3 ∙ stop_many (is_word (codes "-")) net fr.1 fr.0 (now text fr.2 place es) fr.4 off in (
            Nets (record { count = y.1; nets = fr.0; end = zz.0 }),
            zz.1,
            ap (λ k. net_section (now text p q k)) (all_edits es)
                ∙ ap (λ k. then_read k (λ c. many (is_word (codes "-")) net >>= λ nets. section_end (codes "NETS") >>= λ end. give (Nets (record { count = c; nets = nets; end = end })))) head
                ∙ ap (λ k. then_read k (λ nets. section_end (codes "NETS") >>= λ end. give (Nets (record { count = y.1; nets = nets; end = end })))) nets
                ∙ ap (λ k. then_read k (λ end. give (Nets (record { count = y.1; nets = fr.0; end = end })))) zz.2,
            fr.5 ∙ ap (λ k. k ++ map fresh_net o.fresh) (issued_all o false ss ll.0 ll.5),
          )

  pub net_along : (q : ℕ) (u : Walk) (x : Part) (r : Walk) → At text q u → net_section u ≡ Ok (x, r) → Allows o x → Along text (IssuedPart o) (part_edits text o) (λ i. Unit {0}) (λ (i : Unit {0}). net_section) q x u r
  unfolding net_section_within
  net_along q u x r at e allows =
      let a = split (section_head (codes "NETS")) (λ c. many (is_word (codes "-")) net >>= λ nets. section_end (codes "NETS") >>= λ end. give (Nets (record { count = c; nets = nets; end = end }))) u x r e in
      let b = split (many (is_word (codes "-")) net) (λ nets. section_end (codes "NETS") >>= λ end. give (Nets (record { count = a.first; nets = nets; end = end }))) a.middle x r a.then_is in
      let c = split (section_end (codes "NETS")) (λ end. give (Nets (record { count = a.first; nets = b.first; end = end }))) b.middle x r b.then_is in
      let allowed : Allows o (Nets (record { count = a.first; nets = b.first; end = c.first })) = subst (λ k. Allows o k) (sym (ap (λ k. k.0) (Ok_is c.then_is))) allows in
      subst (λ k. Along text (IssuedPart o) (part_edits text o) (λ i. Unit {0}) (λ (i : Unit {0}). net_section) q k.0 u k.1) (Ok_is c.then_is)
      (net_made q u c.middle b.first a.first a.middle b.middle c.first allowed.0 allowed.1 at a.first_is b.first_is c.first_is)
