-- Joints, as they stand and as they are printed.
use Rattle.std.proofs.Common.{◌≡◌, ℕ, zero, suc, ◌<◌, Bool, true, false, List, [], ◌∷◌, ◌++◌, map, drop, slice_range, Ok, refl, ap, sym, ◌∙◌, subst, arith, if◌then◌else◌, append_assoc, append-nil, codes}
use Rattle.std.specs.List.{flat_map, filter}
use Rattle.eco_text.specs.Words.{Token, Walk, word_then, ◌+++◌}
use Rattle.eco_def.specs.Parsing.{then_read, ◌>>=◌, give, begins, word, name, many_for, size}
use Rattle.eco_text.specs.Tokens.{is_word}
use Rattle.eco_def.specs.Design.{Joint}
use Rattle.eco_def.specs.Named.{NamedJoint, joint_names}
use Rattle.eco_def.specs.Grammar.{joint_end, joint}
use Rattle.eco_issued_laws.specs.Printing.{spaced}
use Rattle.eco_issued_laws.specs.Issued.{kept_text, joint_words, joints_end}
use Rattle.eco_text.proofs.Stepping.{Closes}
use Rattle.eco_issued_laws.proofs.Faults.{bad_statement}
use Rattle.eco_issued_laws.proofs.Allowed.{IsWord, bare, JointOk, AllJointsOk}
use Rattle.eco_text.proofs.Splicing.{join}
use Rattle.eco_issued_laws.proofs.Keeping.{SameAll, Always, all_same, cancel, Ok_is, split, size_join}
use Rattle.eco_issued_laws.proofs.Rules.{keeps_joint, keeps_name, keeps_word}
use Rattle.eco_issued_laws.proofs.Pieces.{IsPiece, piece_none, piece_join, piece_blank, piece_word}
use Rattle.eco_issued_laws.proofs.Editing.{At, Behind, behind, Before, before}
use Rattle.eco_issued_laws.proofs.Ending.{Ends, Ended, refused, next_is, ends_word, ends_then, ends_as, ends_choose}

-- bytes that are read as this joint
pub record Printed (n : NamedJoint) (bytes : List ℕ) : Type 0 where
  pub words : List Token
  pub piece : IsPiece bytes words
  pub reads : (fin : Walk) → (y : Joint) × (joint (words +++ fin) ≡ Ok (y, fin)) × (joint_names y ≡ n)

ends_joint_end : Ends (λ w k. w.end ≡ k) joint_end
unfolding joint_end
ends_joint_end =
    ends_choose (is_word (codes "+"))
    (ends_then (keeps_word (codes "+")) (λ p. ends_then (keeps_word (codes "SYNTHESIZED")) (λ m. ends_word (codes ")"))))
    (ends_word (codes ")"))

pub ends_joint : Ends (λ j k. j.end ≡ k) joint
unfolding joint
ends_joint =
    ends_then (keeps_word (codes "(")) (λ o. ends_then keeps_name (λ c. ends_then keeps_name (λ p. ends_as (λ j k. j.end ≡ k) (λ close. record { comp = c; pin = p; start = o.start; end = close.end }) ends_joint_end (λ w k e. e))))

-- a joint begins with its (
pub record Starts (j : Joint) (u : Walk) : Type 0 where
  pub first : Token
  pub others : Walk
  pub is : u ≡ word_then first others
  pub passes : is_word (codes "(") first ≡ true
  pub start : j.start ≡ first.start

pub joint_starts : (u : Walk) (j : Joint) (r : Walk) → joint u ≡ Ok (j, r) → Starts j u
unfolding joint
joint_starts u j r e =
    let a = split (word (codes "(")) (λ o. name >>= λ c. name >>= λ p. joint_end >>= λ close. give (record { comp = c; pin = p; start = o.start; end = close.end })) u j r e in
    let b = split name (λ c. name >>= λ p. joint_end >>= λ close. give (record { comp = c; pin = p; start = a.first.start; end = close.end })) a.middle j r a.then_is in
    let c = split name (λ p. joint_end >>= λ close. give (record { comp = b.first; pin = p; start = a.first.start; end = close.end })) b.middle j r b.then_is in
    let d = split joint_end (λ close. give (record { comp = b.first; pin = c.first; start = a.first.start; end = close.end })) c.middle j r c.then_is in
    let n = next_is (is_word (codes "(")) u a.first a.middle a.first_is in
    record { first = a.first; others = a.middle; is = n.is; passes = n.passes; start = sym (ap (λ k. k.0.start) (Ok_is d.then_is)) }

pub joint_begins : (u : Walk) (j : Joint) (r : Walk) → joint u ≡ Ok (j, r) → begins (is_word (codes "(")) u ≡ true
joint_begins u j r e = let s = joint_starts u j r e in ap (begins (is_word (codes "("))) s.is ∙ s.passes

-- ---- a joint of the text

pub record Stands (text : List ℕ) (j : Joint) (r : Walk) : Type 0 where
  pub at : At text j.end r
  pub closed : Closes (drop j.end text)
  pub printed : Printed (joint_names j) (slice_range text j.start j.end)

pub stands : (text : List ℕ) (q : ℕ) (u : Walk) (j : Joint) (r : Walk) → At text q u → joint u ≡ Ok (j, r) → Stands text j r
stands text q u j r at e = record {
  at = subst (λ k. At text k r) (sym ed.end) bh.at;
  closed = subst (λ k. Closes (drop k text)) (sym ed.end) bh.closed;
  printed = record {
    words = ed.init ++ ed.last ∷ [];
    piece = subst (λ k. IsPiece (slice_range text j.start k) (ed.init ++ ed.last ∷ [])) (sym ed.end) bh.piece;
    reads = found;
  };
}
  where
    s : Starts j u
    s = joint_starts u j r e

    bf : Before text q s.first.start (word_then s.first s.others)
    bf = before text q s.first s.others (subst (λ k. At text q k) s.is at)

    ed : Ended (λ k. j.end ≡ k) u r
    ed = ends_joint u j r e

    at_start : At text j.start u
    at_start = subst (λ k. At text k u) (sym s.start) (subst (λ k. At text s.first.start k) (sym s.is) bf.at)

    bh : Behind text j.start (ed.init ++ ed.last ∷ []) ed.last.end r
    bh = behind text j.start u ed.init ed.last r at_start ed.is ed.plain

    found : (fin : Walk) → (y : Joint) × (joint ((ed.init ++ ed.last ∷ []) +++ fin) ≡ Ok (y, fin)) × (joint_names y ≡ joint_names j)
    found fin =
        let one = keeps_joint {H = Always} u j r e in
        let same : one.front ≡ ed.init ++ ed.last ∷ [] = cancel one.front (ed.init ++ ed.last ∷ []) r (sym one.is ∙ ed.is) in
        one.again (ed.init ++ ed.last ∷ []) fin (subst (λ k. SameAll k (ed.init ++ ed.last ∷ [])) (sym same) (all_same (ed.init ++ ed.last ∷ []))) tt

abbrev pub AllStand : List ℕ → List Joint → Type 0
AllStand text [] = Unit {0}
AllStand text (j ∷ js) = Printed (joint_names j) (slice_range text j.start j.end) × AllStand text js

pub record Joints (text : List ℕ) (q : ℕ) (xs zs : List Joint) (r : Walk) : Type 0 where
  pub rest : List Joint
  pub is : zs ≡ xs ++ rest
  pub at : At text (joints_end q rest) r
  pub closed : Closes (drop (joints_end q rest) text)
  pub stand : AllStand text rest
  pub stops : begins (is_word (codes "(")) r ≡ false

pub joints_of : (text : List ℕ) (n : ℕ) (q : ℕ) (xs zs : List Joint) (u r : Walk) → At text q u → Closes (drop q text) → many_for n (is_word (codes "(")) (λ before. joint) xs u ≡ Ok (zs, r) → Joints text q xs zs r
joints_of text zero q xs zs u r at closed e = absurd (refused bad_statement u zs r e)
joints_of text (suc n) q xs zs u r at closed e = go (begins (is_word (codes "(")) u) refl e (λ j k. joints_of text n j.end (xs ++ j ∷ []) zs k r)
  where
    go : (b : Bool) → begins (is_word (codes "(")) u ≡ b → (if b then then_read (joint u) (λ x. many_for n (is_word (codes "(")) (λ before. joint) (xs ++ x ∷ [])) else Ok (xs, u)) ≡ Ok (zs, r) →
        ((j : Joint) (k : Walk) → At text j.end k → Closes (drop j.end text) → many_for n (is_word (codes "(")) (λ before. joint) (xs ++ j ∷ []) k ≡ Ok (zs, r) → Joints text j.end (xs ++ j ∷ []) zs r) → Joints text q xs zs r
    go true i e rec =
        let s = split joint (λ x. many_for n (is_word (codes "(")) (λ before. joint) (xs ++ x ∷ [])) u zs r e in
        let st = stands text q u s.first s.middle at s.first_is in
        let l = rec s.first s.middle st.at st.closed s.then_is in
        record { rest = s.first ∷ l.rest; is = l.is ∙ append_assoc xs (s.first ∷ []) l.rest; at = l.at; closed = l.closed; stand = (st.printed, l.stand); stops = l.stops }
    go false i e rec =
        let same : xs ≡ zs = ap (λ k. k.0) (Ok_is e) in
        let rest : u ≡ r = ap (λ k. k.1) (Ok_is e) in
        record { rest = []; is = sym same ∙ sym (append-nil xs); at = subst (λ k. At text q k) rest at; closed = closed; stand = tt; stops = ap (begins (is_word (codes "("))) (sym rest) ∙ i }

-- ---- printed joints one after another

-- bytes that are read as these joints, before a word that begins none
pub record PrintedAll (ns : List NamedJoint) (bytes : List ℕ) : Type 0 where
  pub words : List Token
  pub piece : IsPiece bytes words
  pub closes : Closes bytes
  pub reads : (m : ℕ) (xs : List Joint) (fin : Walk) → begins (is_word (codes "(")) fin ≡ false → size (words +++ fin) < m →
      (ys : List Joint) × (many_for m (is_word (codes "(")) (λ before. joint) xs (words +++ fin) ≡ Ok (xs ++ ys, fin)) × (map joint_names ys ≡ ns)

pub printed_none : PrintedAll [] []
printed_none = record { words = []; piece = piece_none; closes = tt; reads = found }
  where
    found : (m : ℕ) (xs : List Joint) (fin : Walk) → begins (is_word (codes "(")) fin ≡ false → size fin < m → (ys : List Joint) × (many_for m (is_word (codes "(")) (λ before. joint) xs fin ≡ Ok (xs ++ ys, fin)) × (map joint_names ys ≡ [])
    found zero xs fin off lt = absurd (omega (arith, lt))
    found (suc m) xs fin off lt =
        ([], ap (λ b. if b then then_read (joint fin) (λ x. many_for m (is_word (codes "(")) (λ before. joint) (xs ++ x ∷ [])) else Ok (xs, fin)) off ∙ ap (λ k. Ok (k, fin)) (sym (append-nil xs)), refl)

pub printed_more : (n : NamedJoint) (b : List ℕ) (ns : List NamedJoint) (bytes : List ℕ) → Printed n b → PrintedAll ns bytes → PrintedAll (n ∷ ns) ((32 ∷ b) ++ bytes)
printed_more n b ns bytes one all = record {
  words = one.words ++ all.words;
  piece = piece_join (32 ∷ b) bytes one.words all.words (piece_blank b one.words one.piece) all.closes all.piece;
  closes = refl;
  reads = found;
}
  where
    found : (m : ℕ) (xs : List Joint) (fin : Walk) → begins (is_word (codes "(")) fin ≡ false → size ((one.words ++ all.words) +++ fin) < m →
        (ys : List Joint) × (many_for m (is_word (codes "(")) (λ before. joint) xs ((one.words ++ all.words) +++ fin) ≡ Ok (xs ++ ys, fin)) × (map joint_names ys ≡ n ∷ ns)
    found zero xs fin off lt = absurd (omega (arith, lt))
    found (suc m) xs fin off lt =
        let whole = join one.words all.words fin in
        let y = one.reads (all.words +++ fin) in
        let on = joint_begins (one.words +++ (all.words +++ fin)) y.0 (all.words +++ fin) y.1 in
        let fewer = keeps_joint {H = Always} (one.words +++ (all.words +++ fin)) y.0 (all.words +++ fin) y.1 in
        let less : size (all.words +++ fin) < m = omega (arith, lt, ap size whole, fewer.taken, ap size fewer.is, size_join fewer.front (all.words +++ fin)) in
        let z = all.reads m (xs ++ y.0 ∷ []) fin off less in
        let rest : joint_names y.0 ∷ map joint_names z.0 ≡ n ∷ ns = let first : joint_names y.0 ≡ n = y.2 in let others : map joint_names z.0 ≡ ns = z.2 in cc in (
          y.0 ∷ z.0,
          ap (λ k. many_for (suc m) (is_word (codes "(")) (λ before. joint) xs k) whole
              ∙ ap (λ c. if c then then_read (joint (one.words +++ (all.words +++ fin))) (λ x. many_for m (is_word (codes "(")) (λ before. joint) (xs ++ x ∷ [])) else Ok (xs, one.words +++ (all.words +++ fin))) on
              ∙ ap (λ k. then_read k (λ x. many_for m (is_word (codes "(")) (λ before. joint) (xs ++ x ∷ []))) y.1
              ∙ z.1 ∙ ap (λ k. Ok (k, fin)) (append_assoc xs (y.0 ∷ []) z.0),
          rest,
        )

pub behind_blank : (w : List ℕ) (bs : List ℕ) (ts : List Token) → IsWord w → Closes bs → IsPiece bs ts → IsPiece (32 ∷ w ++ bs) (bare w ∷ ts)
behind_blank w bs ts word closes piece = piece_blank (w ++ bs) (bare w ∷ ts) (piece_join w bs (bare w ∷ []) ts (piece_word w word) closes piece)

pub mark_open : IsWord (codes "(")
mark_open = (refl, refl, refl, tt)

pub mark_close : IsWord (codes ")")
mark_close = (refl, refl, refl, tt)

pub printed_joint : (j : NamedJoint) → JointOk j → Printed j (codes "(" ++ spaced (j.comp ∷ j.pin ∷ codes ")" ∷ []))
unfolding joint joint_end
printed_joint j ok = record {
  words = bare (codes "(") ∷ bare j.comp ∷ bare j.pin ∷ bare (codes ")") ∷ [];
  piece =
      piece_join (codes "(") (spaced (j.comp ∷ j.pin ∷ codes ")" ∷ [])) (bare (codes "(") ∷ []) (bare j.comp ∷ bare j.pin ∷ bare (codes ")") ∷ []) (piece_word (codes "(") mark_open) refl
      (behind_blank j.comp (spaced (j.pin ∷ codes ")" ∷ [])) (bare j.pin ∷ bare (codes ")") ∷ []) ok.0.0 refl
      (behind_blank j.pin (spaced (codes ")" ∷ [])) (bare (codes ")") ∷ []) ok.1.0 refl
      (behind_blank (codes ")") [] [] mark_close tt piece_none)));
  reads = found;
}
  where
    found : (fin : Walk) → (y : Joint) × (joint (word_then (bare (codes "(")) (word_then (bare j.comp) (word_then (bare j.pin) (word_then (bare (codes ")")) fin)))) ≡ Ok (y, fin)) × (joint_names y ≡ j)
    found fin = (record { comp = bare j.comp; pin = bare j.pin; start = 0; end = 0 }, rw (ok.0.1, ok.1.1) refl, refl)

pub spaced_join : (a b : List (List ℕ)) → spaced (a ++ b) ≡ spaced a ++ spaced b
spaced_join [] b = refl
spaced_join (w ∷ a) b = ap (λ k. 32 ∷ w ++ k) (spaced_join a b) ∙ ap (λ k. 32 ∷ k) (sym (append_assoc w (spaced a) (spaced b)))

pub printed_added : (js : List NamedJoint) → AllJointsOk js → PrintedAll js (spaced (flat_map joint_words js))
printed_added [] ok = printed_none
printed_added (j ∷ js) ok =
    subst (λ k. PrintedAll (j ∷ js) k) (sym (spaced_join (joint_words j) (flat_map joint_words js)))
    (printed_more j (codes "(" ++ spaced (j.comp ∷ j.pin ∷ codes ")" ∷ [])) js (spaced (flat_map joint_words js)) (printed_joint j ok.0) (printed_added js ok.1))

-- the joints that stay, before others
pub printed_kept : (text : List ℕ) (stays : NamedJoint → Bool) (js : List Joint) (ns : List NamedJoint) (bytes : List ℕ) → AllStand text js → PrintedAll ns bytes →
    PrintedAll (filter stays (map joint_names js) ++ ns) (flat_map (kept_text text stays) js ++ bytes)
printed_kept text stays [] ns bytes stand all = all
printed_kept text stays (j ∷ js) ns bytes stand all = go (stays (joint_names j)) (printed_kept text stays js ns bytes stand.1 all)
  where
    go : (b : Bool) → PrintedAll (filter stays (map joint_names js) ++ ns) (flat_map (kept_text text stays) js ++ bytes) →
        PrintedAll ((if b then joint_names j ∷ filter stays (map joint_names js) else filter stays (map joint_names js)) ++ ns) (((if b then 32 ∷ slice_range text j.start j.end else []) ++ flat_map (kept_text text stays) js) ++ bytes)
    go true rest =
        subst (λ k. PrintedAll (joint_names j ∷ (filter stays (map joint_names js) ++ ns)) k) (sym (append_assoc (32 ∷ slice_range text j.start j.end) (flat_map (kept_text text stays) js) bytes))
        (printed_more (joint_names j) (slice_range text j.start j.end) (filter stays (map joint_names js) ++ ns) (flat_map (kept_text text stays) js ++ bytes) stand.0 rest)
    go false rest = rest
