-- A text with edits, one after another.
use Rattle.std.proofs.Common.{◌≡◌, ℕ, ◌+◌, ◌-◌, ◌<◌, ◌≤◌, List, [], ◌∷◌, ◌++◌, length, drop, get_or, slice_range, ap, sym, ◌∙◌, subst, arith, append_assoc, length-append, length-drop, Result, Ok, Err, OnErr, is_ok, if◌then◌else◌}
use Rattle.std.proofs.lemmas.List.{drop_more, drop_all, length-take-le}
use Rattle.eco_overlay.specs.declared.stretch.Stretch.{Stretch}
use Rattle.eco_issued_laws.specs.Issued.{Edit, edited, InOrder}
use Rattle.eco_overlay.specs.Overlays.{edits_of, Rises}
use Rattle.eco_overlay.proofs.Stretches.{rises_room}

pub order_room : (lo hi : ℕ) (es : List Edit) → InOrder lo hi es → lo ≤ hi
order_room lo hi [] o = o
order_room lo hi (e ∷ es) o = let more = order_room e.end hi es o.2 in omega (arith, o.0, o.1, more)

pub length-slice : (text : List ℕ) (a b : ℕ) → a ≤ b → b ≤ length text → length (slice_range text a b) ≡ b - a
length-slice text a b le within = length-take-le (b - a) (drop a text) (omega (arith, le, within, length-drop a text))

-- ---- the stretches from one on

first_of : (ss : List Stretch) (i : ℕ) (d : Stretch) → i < length ss → drop i ss ≡ get_or ss i d ∷ drop (i + 1) ss
first_of ss i d lt = drop_more ss i d lt

pub rises_on : (from hi i : ℕ) (ss : List Stretch) (d : Stretch) → i < length ss → Rises from hi (drop i ss) → (from ≤ (get_or ss i d).upto) × Rises (get_or ss i d).upto hi (drop (i + 1) ss)
rises_on from hi i ss d lt r = subst (Rises from hi) (first_of ss i d lt) r

pub order_on : (bytes : List ℕ) (at from hi i : ℕ) (ss : List Stretch) (d : Stretch) → i < length ss → InOrder at hi (edits_of bytes from (drop i ss)) →
    (at ≤ (get_or ss i d).start) × ((get_or ss i d).start ≤ (get_or ss i d).end) × InOrder (get_or ss i d).end hi (edits_of bytes (get_or ss i d).upto (drop (i + 1) ss))
order_on bytes at from hi i ss d lt o = subst (λ ts. InOrder at hi (edits_of bytes from ts)) (first_of ss i d lt) o

pub edited_on : (text bytes : List ℕ) (at from i : ℕ) (ss : List Stretch) (d : Stretch) → i < length ss →
    edited text at (edits_of bytes from (drop i ss)) ≡ (slice_range text at (get_or ss i d).start ++ slice_range bytes from (get_or ss i d).upto) ++ edited text (get_or ss i d).end (edits_of bytes (get_or ss i d).upto (drop (i + 1) ss))
edited_on text bytes at from i ss d lt =
    ap (λ ts. edited text at (edits_of bytes from ts)) (first_of ss i d lt)
    ∙ sym (append_assoc (slice_range text at (get_or ss i d).start) (slice_range bytes from (get_or ss i d).upto) (edited text (get_or ss i d).end (edits_of bytes (get_or ss i d).upto (drop (i + 1) ss))))

pub edited_end : (text bytes : List ℕ) (at from i : ℕ) (ss : List Stretch) → length ss ≤ i → edited text at (edits_of bytes from (drop i ss)) ≡ drop at text
edited_end text bytes at from i ss le = ap (λ ts. edited text at (edits_of bytes from ts)) (drop_all i ss le)

pub rises_end : (from hi i : ℕ) (ss : List Stretch) → length ss ≤ i → Rises from hi (drop i ss) → from ≡ hi
rises_end from hi i ss le r = subst (Rises from hi) (drop_all i ss le) r

pub order_end : (bytes : List ℕ) (at from hi i : ℕ) (ss : List Stretch) → length ss ≤ i → InOrder at hi (edits_of bytes from (drop i ss)) → at ≤ hi
order_end bytes at from hi i ss le o = order_room at hi (edits_of bytes from (drop i ss)) o

-- the length one stretch on
pub length_on : (text bytes : List ℕ) (whole replaced at from i : ℕ) (ss : List Stretch) (d : Stretch) → i < length ss →
    InOrder at (length text) (edits_of bytes from (drop i ss)) → Rises from (length bytes) (drop i ss) → whole + replaced ≡ at + from + length (edited text at (edits_of bytes from (drop i ss))) →
    whole + (replaced + ((get_or ss i d).end - (get_or ss i d).start)) ≡ (get_or ss i d).end + (get_or ss i d).upto + length (edited text (get_or ss i d).end (edits_of bytes (get_or ss i d).upto (drop (i + 1) ss)))
length_on text bytes whole replaced at from i ss d lt order rises same =
    let s = get_or ss i d in
    let o = order_on bytes at from (length text) i ss d lt order in
    let r = rises_on from (length bytes) i ss d lt rises in
    let end = order_room s.end (length text) (edits_of bytes s.upto (drop (i + 1) ss)) o.2 in
    let upto = rises_room s.upto (length bytes) (drop (i + 1) ss) r.1 in
    let rest = edited text s.end (edits_of bytes s.upto (drop (i + 1) ss)) in
    let a : length (slice_range text at s.start) ≡ s.start - at = length-slice text at s.start o.0 (omega (arith, o.1, end)) in
    let b : length (slice_range bytes from s.upto) ≡ s.upto - from = length-slice bytes from s.upto r.0 upto in
    let e : length (edited text at (edits_of bytes from (drop i ss))) ≡ (s.start - at) + (s.upto - from) + length rest =
    ap length (edited_on text bytes at from i ss d lt) ∙ length-append (slice_range text at s.start ++ slice_range bytes from s.upto) rest
    ∙ ap (λ n. n + length rest) (length-append (slice_range text at s.start) (slice_range bytes from s.upto) ∙ ap (λ n. n + length (slice_range bytes from s.upto)) a ∙ ap (λ n. s.start - at + n) b) in
    omega (arith, same, e, o.0, o.1, r.0)

-- a push that has room has worked
pub pushed : {A T E : Type 0} (r : Result T E) (old new : List A) (x : A) (room len : ℕ) → new ≡ (if is_ok r then old ++ x ∷ [] else old) → OnErr r (room ≤ len) → len < room → new ≡ old ++ x ∷ []
pushed (Ok y) old new x room len is full lt = is
pushed (Err e) old new x room len is full lt = absurd (omega (arith, full, lt))
