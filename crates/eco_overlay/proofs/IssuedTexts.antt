-- The edits of what changes give the issued text.
use Rattle.std.specs.List.{flat_map}
use Rattle.std.proofs.Common.{◌≡◌, ℕ, zero, suc, ◌+◌, ◌-◌, ◌<◌, ◌≤◌, nat_lt, Bool, true, false, not, List, [], ◌∷◌, ◌++◌, length, take, drop, map, slice_range, refl, ap, sym, ◌∙◌, subst, arith, append_assoc, append-nil, if◌then◌else◌}
use Rattle.std.proofs.lemmas.List.{drop-drop, take-append-drop}
use Rattle.std.proofs.lemmas.List.Elements.{filter-append}
use Rattle.std.proofs.lemmas.Bool.{lt-ltb, le-ltb}
use Rattle.eco_text.specs.Words.{Token}
use Rattle.eco_text.specs.Cursor.{token}
use Rattle.eco_def.specs.declared.design.NetStatement.{NetStatement}
use Rattle.eco_def.specs.declared.design.Design.{Design}
use Rattle.eco_def.specs.Design as said
use Rattle.eco_def.specs.View.{net_in, design_in}
use Rattle.eco_def.specs.Named.{names_of}
use Rattle.eco_def.specs.Sections.{ArePlaced, LiesBetween, AreSpecial, AreOrdinary, DesignLies, SpecialFirst, NetsFirst}
use Rattle.eco_issued_laws.specs.Changes.{NewJoint, Changes, Fresh, changes_of}
use Rattle.eco_issued_laws.specs.Issued.{Edit, edited, InOrder, changed_text, net_edit, count_text, fresh_text, stays_whole, section_edits, special_edits, edits, nets_first, IsOverlayOf}
use Rattle.eco_issued_laws.proofs.QuietEdits.{slice_split, empty_slice, ahead, quiet, order_earlier}
use Rattle.eco_overlay.specs.NetChanges.{of_kind}
use Rattle.eco_overlay.specs.Overlays.{all_changed, count_edits, appended, section_changed, design_changed}

-- ---- edits, and the same without those that change nothing

-- Both lists lie between two places, and give the same text from each place before them on.
record SameText (text : List ℕ) (lo hi : ℕ) (full lean : List Edit) : Type 0 where
  full_order : InOrder lo hi full
  lean_order : InOrder lo hi lean
  same : (at : ℕ) → at ≤ lo → edited text at lean ≡ edited text at full

same_earlier : (text : List ℕ) (lo lo' hi : ℕ) (full lean : List Edit) → lo' ≤ lo → SameText text lo hi full lean → SameText text lo' hi full lean
same_earlier text lo lo' hi full lean le rest = record {
  full_order = order_earlier lo lo' hi full le rest.full_order;
  lean_order = order_earlier lo lo' hi lean le rest.lean_order;
  same = λ at before. rest.same at (omega (arith, le, before));
}

no_edits : (text : List ℕ) (lo hi : ℕ) → lo ≤ hi → SameText text lo hi [] []
no_edits text lo hi le = record { full_order = le; lean_order = le; same = λ at before. refl }

-- one more edit in both
one_edit : (text : List ℕ) (lo hi : ℕ) (e : Edit) (full lean : List Edit) → lo ≤ e.start → e.start ≤ e.end → SameText text e.end hi full lean → SameText text lo hi (e ∷ full) (e ∷ lean)
one_edit text lo hi e full lean a b rest = record {
  full_order = (a, b, rest.full_order);
  lean_order = (a, b, rest.lean_order);
  same = λ at before. ap (λ k. slice_range text at e.start ++ (e.bytes ++ k)) (rest.same e.end (omega arith));
}

-- one more edit that changes nothing
quiet_edit : (text : List ℕ) (lo hi : ℕ) (e : Edit) (full lean : List Edit) → e.bytes ≡ slice_range text e.start e.end → lo ≤ e.start → e.start ≤ e.end → SameText text e.end hi full lean → SameText text lo hi (e ∷ full) lean
quiet_edit text lo hi e full lean same a b rest = record {
  full_order = (a, b, rest.full_order);
  lean_order = order_earlier e.end lo hi lean (omega (arith, a, b)) rest.lean_order;
  same = λ at before. rest.same at (omega (arith, before, a, b)) ∙ sym (quiet text at hi e full same (omega (arith, before, a)) b rest.full_order);
}

-- the statements of a section
same_statements : (text : List ℕ) (o : Changes) (special : Bool) (lo mid hi : ℕ) (ss : List NetStatement) (full lean : List Edit) → ArePlaced lo mid ss → SameText text mid hi full lean →
    SameText text lo hi (map (net_edit text o special) (map (net_in text) ss) ++ full) (all_changed text o special (map (net_in text) ss) ++ lean)
same_statements text o special lo mid hi [] full lean placed rest = same_earlier text mid lo hi full lean placed rest
same_statements text o special lo mid hi (s ∷ ss) full lean placed rest = at (same_statements text o special s.end mid hi ss full lean placed.2 rest) (stays_whole o special (net_in text s)) refl
  where
    n : said.Net
    n = net_in text s

    more : List Edit
    more = map (net_edit text o special) (map (net_in text) ss) ++ full

    more' : List Edit
    more' = all_changed text o special (map (net_in text) ss) ++ lean

    at : SameText text s.end hi more more' → (b : Bool) → stays_whole o special (net_in text s) ≡ b →
        SameText text lo hi (net_edit text o special (net_in text s) ∷ more) (((if b then [] else net_edit text o special (net_in text s) ∷ []) ++ all_changed text o special (map (net_in text) ss)) ++ lean)
    at behind true e = quiet_edit text lo hi (net_edit text o special n) more more' (ap (λ b. if b then slice_range text s.start s.end else changed_text text o special n) e) placed.0 (omega (arith, placed.1)) behind
    at behind false e = one_edit text lo hi (net_edit text o special n) more more' placed.0 (omega (arith, placed.1)) behind

-- NETS
same_section : (text : List ℕ) (o : Changes) (lo mid hi : ℕ) (count : Token) (ss : List NetStatement) (end : ℕ) (full lean : List Edit) →
    lo ≤ count.start → count.start < count.end → ArePlaced count.end end ss → end ≤ mid → SameText text mid hi full lean →
    SameText text lo hi (section_edits text o (record { count = count; nets = map (net_in text) ss; end = end }) ++ full) (section_changed text o (record { count = count; nets = map (net_in text) ss; end = end }) ++ lean)
same_section text o lo mid hi count ss end full lean begins counts placed ends rest = at o.fresh
  where
    sec : said.NetSection
    sec = record { count = count; nets = map (net_in text) ss; end = end }

    nets : List Edit
    nets = map (net_edit text o false) (map (net_in text) ss)

    changed : List Edit
    changed = all_changed text o false (map (net_in text) ss)

    last : List Fresh → Edit
    last fs = record { start = end; end = end; bytes = flat_map fresh_text fs }

    first : List Fresh → Edit
    first fs = record { start = count.start; end = count.end; bytes = count_text text o (record { count = count; nets = map (net_in text) ss; end = end }) fs }

    behind : SameText text end hi full lean
    behind = same_earlier text mid end hi full lean ends rest

    none : SameText text lo hi (first [] ∷ (nets ++ (last [] ∷ full))) (changed ++ lean)
    none = quiet_edit text lo hi (first []) (nets ++ (last [] ∷ full)) (changed ++ lean) refl begins (omega (arith, counts))
        (same_statements text o false count.end end hi ss (last [] ∷ full) lean placed (quiet_edit text end hi (last []) full lean (sym (empty_slice text end)) (omega arith) (omega arith) behind))

    some : (fs : List Fresh) → SameText text lo hi (first fs ∷ (nets ++ (last fs ∷ full))) (first fs ∷ (changed ++ (last fs ∷ lean)))
    some fs = one_edit text lo hi (first fs) (nets ++ (last fs ∷ full)) (changed ++ (last fs ∷ lean)) begins (omega (arith, counts))
        (same_statements text o false count.end end hi ss (last fs ∷ full) (last fs ∷ lean) placed (one_edit text end hi (last fs) full lean (omega arith) (omega arith) behind))

    at : (fs : List Fresh) → SameText text lo hi ((first fs ∷ (nets ++ last fs ∷ [])) ++ full) ((count_edits text o (record { count = count; nets = map (net_in text) ss; end = end }) fs ++ (changed ++ appended (record { count = count; nets = map (net_in text) ss; end = end }) fs)) ++ lean)
    at [] = subst (λ es. SameText text lo hi (first [] ∷ es) ((changed ++ []) ++ lean)) (sym (append_assoc nets (last [] ∷ []) full))
        (subst (λ es. SameText text lo hi (first [] ∷ (nets ++ (last [] ∷ full))) (es ++ lean)) (sym (append-nil changed)) none)
    at (f ∷ fs) = subst (λ es. SameText text lo hi (first (f ∷ fs) ∷ es) (first (f ∷ fs) ∷ ((changed ++ last (f ∷ fs) ∷ []) ++ lean))) (sym (append_assoc nets (last (f ∷ fs) ∷ []) full))
        (subst (λ es. SameText text lo hi (first (f ∷ fs) ∷ (nets ++ (last (f ∷ fs) ∷ full))) (first (f ∷ fs) ∷ es)) (sym (append_assoc changed (last (f ∷ fs) ∷ []) lean)) (some (f ∷ fs)))

-- ---- both sections

special_all : (ss : List NetStatement) → AreSpecial ss → of_kind true ss ≡ ss
special_all [] all = refl
special_all (s ∷ ss) all = ap (λ b. if b then s ∷ of_kind true ss else of_kind true ss) all.0 ∙ ap (λ k. s ∷ k) (special_all ss all.1)

special_none : (ss : List NetStatement) → AreOrdinary ss → of_kind true ss ≡ []
special_none [] all = refl
special_none (s ∷ ss) all = ap (λ b. if b then s ∷ of_kind true ss else of_kind true ss) all.0 ∙ special_none ss all.1

ordinary_all : (ss : List NetStatement) → AreOrdinary ss → of_kind false ss ≡ ss
ordinary_all [] all = refl
ordinary_all (s ∷ ss) all = ap (λ b. if not b then s ∷ of_kind false ss else of_kind false ss) all.0 ∙ ap (λ k. s ∷ k) (ordinary_all ss all.1)

ordinary_none : (ss : List NetStatement) → AreSpecial ss → of_kind false ss ≡ []
ordinary_none [] all = refl
ordinary_none (s ∷ ss) all = ap (λ b. if not b then s ∷ of_kind false ss else of_kind false ss) all.0 ∙ ordinary_none ss all.1

-- the sections of a flat list, the one or the other first
kinds_special_first : (all special nets : List NetStatement) → all ≡ special ++ nets → AreSpecial special → AreOrdinary nets → (of_kind true all ≡ special) × (of_kind false all ≡ nets)
kinds_special_first all special nets is a b = (
  ap (of_kind true) is ∙ filter-append (λ s. s.special) special nets ∙ ap (λ ts. ts ++ of_kind true nets) (special_all special a) ∙ ap (λ ts. special ++ ts) (special_none nets b) ∙ append-nil special,
  ap (of_kind false) is ∙ filter-append (λ s. not s.special) special nets ∙ ap (λ ts. ts ++ of_kind false nets) (ordinary_none special a) ∙ ordinary_all nets b,
)

kinds_nets_first : (all nets special : List NetStatement) → all ≡ nets ++ special → AreOrdinary nets → AreSpecial special → (of_kind true all ≡ special) × (of_kind false all ≡ nets)
kinds_nets_first all nets special is a b = (
  ap (of_kind true) is ∙ filter-append (λ s. s.special) nets special ∙ ap (λ ts. ts ++ of_kind true special) (special_none nets a) ∙ special_all special b,
  ap (of_kind false) is ∙ filter-append (λ s. not s.special) nets special ∙ ap (λ ts. ts ++ of_kind false special) (ordinary_all nets a) ∙ ap (λ ts. nets ++ ts) (ordinary_none special b) ∙ append-nil nets,
)

placed_room : (lo hi : ℕ) (ss : List NetStatement) → ArePlaced lo hi ss → lo ≤ hi
placed_room lo hi [] placed = placed
placed_room lo hi (s ∷ ss) placed = let more = placed_room s.end hi ss placed.2 in omega (arith, placed.0, placed.1, more)

-- all edits, and those of what changes, of the statements of both sections
abbrev all_edits : List ℕ → Changes → Design → List NetStatement → List NetStatement → List Edit
all_edits text o d special nets =
    let sec : said.NetSection = record { count = token text d.net_count; nets = map (net_in text) nets; end = d.nets_end } in
    if nets_first (map (net_in text) special) sec then section_edits text o sec ++ special_edits text o (map (net_in text) special) else special_edits text o (map (net_in text) special) ++ section_edits text o sec

abbrev lean_edits : List ℕ → Changes → Design → List NetStatement → List NetStatement → List Edit
lean_edits text o d special nets =
    let sec : said.NetSection = record { count = token text d.net_count; nets = map (net_in text) nets; end = d.nets_end } in
    if nets_first (map (net_in text) special) sec then section_changed text o sec ++ all_changed text o true (map (net_in text) special) else all_changed text o true (map (net_in text) special) ++ section_changed text o sec

-- NETS alone
section_alone : (text : List ℕ) (o : Changes) (lo hi : ℕ) (d : Design) (nets : List NetStatement) → LiesBetween lo hi d.net_count nets d.nets_end →
    let sec : said.NetSection = record { count = token text d.net_count; nets = map (net_in text) nets; end = d.nets_end } in SameText text lo hi (section_edits text o sec) (section_changed text o sec)
section_alone text o lo hi d nets lies =
    let sec : said.NetSection = record { count = token text d.net_count; nets = map (net_in text) nets; end = d.nets_end } in
    subst (λ es. SameText text lo hi es (section_changed text o sec)) (append-nil (section_edits text o sec))
    (subst (λ es. SameText text lo hi (section_edits text o sec ++ []) es) (append-nil (section_changed text o sec))
    (same_section text o lo hi hi (token text d.net_count) nets d.nets_end [] [] lies.begins lies.counts lies.placed lies.ends (no_edits text hi hi (omega arith))))

special_first : (text : List ℕ) (o : Changes) (mid n : ℕ) (d : Design) (special nets : List NetStatement) → ArePlaced 0 mid special → LiesBetween mid n d.net_count nets d.nets_end → SameText text 0 n (all_edits text o d special nets) (lean_edits text o d special nets)
special_first text o mid n d [] nets placed lies = same_statements text o true 0 mid n [] _ _ placed (section_alone text o mid n d nets lies)
special_first text o mid n d (s ∷ ss) nets placed lies =
    let sec : said.NetSection = record { count = token text d.net_count; nets = map (net_in text) nets; end = d.nets_end } in
    let room = placed_room s.end mid ss placed.2 in
    let begins = lies.begins in
    let after : nat_lt d.net_count.start s.start ≡ false = le-ltb d.net_count.start s.start (omega (arith, placed.1, room, begins)) in
    let ns = map (net_in text) (s ∷ ss) in
    subst (λ b. SameText text 0 n (if b then section_edits text o sec ++ special_edits text o ns else special_edits text o ns ++ section_edits text o sec) (if b then section_changed text o sec ++ all_changed text o true ns else all_changed text o true ns ++ section_changed text o sec))
    (sym after) (same_statements text o true 0 mid n (s ∷ ss) (section_edits text o sec) (section_changed text o sec) placed (section_alone text o mid n d nets lies))

section_first : (text : List ℕ) (o : Changes) (mid n : ℕ) (d : Design) (nets special : List NetStatement) → LiesBetween 0 mid d.net_count nets d.nets_end → ArePlaced mid n special → SameText text 0 n (all_edits text o d special nets) (lean_edits text o d special nets)
section_first text o mid n d nets [] lies placed =
    section_alone text o 0 n d nets (let ends = lies.ends in record { begins = lies.begins; counts = lies.counts; placed = lies.placed; ends = omega (arith, ends, placed) })
section_first text o mid n d nets (s ∷ ss) lies placed =
    let sec : said.NetSection = record { count = token text d.net_count; nets = map (net_in text) nets; end = d.nets_end } in
    let counts = lies.counts in
    let ends = lies.ends in
    let room = placed_room d.net_count.end d.nets_end nets lies.placed in
    let before : nat_lt d.net_count.start s.start ≡ true = lt-ltb d.net_count.start s.start (omega (arith, counts, room, ends, placed.0)) in
    let ns = map (net_in text) (s ∷ ss) in
    let behind : SameText text mid n (special_edits text o ns) (all_changed text o true ns) =
    subst (λ es. SameText text mid n es (all_changed text o true ns)) (append-nil (special_edits text o ns))
    (subst (λ es. SameText text mid n (special_edits text o ns ++ []) es) (append-nil (all_changed text o true ns))
    (same_statements text o true mid n n (s ∷ ss) [] [] placed (no_edits text n n (omega arith)))) in
    subst (λ b. SameText text 0 n (if b then section_edits text o sec ++ special_edits text o ns else special_edits text o ns ++ section_edits text o sec) (if b then section_changed text o sec ++ all_changed text o true ns else all_changed text o true ns ++ section_changed text o sec))
    (sym before) (same_section text o 0 mid n (token text d.net_count) nets d.nets_end (special_edits text o ns) (all_changed text o true ns) lies.begins lies.counts lies.placed lies.ends behind)

by_kinds : (text : List ℕ) (o : Changes) (n : ℕ) (d : Design) (special nets : List NetStatement) → (of_kind true d.nets ≡ special) × (of_kind false d.nets ≡ nets) → SameText text 0 n (all_edits text o d special nets) (lean_edits text o d special nets) →
    SameText text 0 n (edits text o (design_in text d)) (design_changed text o (design_in text d))
by_kinds text o n d special nets kinds same =
    subst (λ ns. SameText text 0 n (all_edits text o d (of_kind true d.nets) ns) (lean_edits text o d (of_kind true d.nets) ns)) (sym kinds.1)
    (subst (λ ss. SameText text 0 n (all_edits text o d ss nets) (lean_edits text o d ss nets)) (sym kinds.0) same)

same_design : (text : List ℕ) (o : Changes) (n : ℕ) (d : Design) → DesignLies n d → SameText text 0 n (edits text o (design_in text d)) (design_changed text o (design_in text d))
same_design text o n d (SpecialFirst mid special nets is a b placed lies) = by_kinds text o n d special nets (kinds_special_first d.nets special nets is a b) (special_first text o mid n d special nets placed lies)
same_design text o n d (NetsFirst mid nets special is a b lies placed) = by_kinds text o n d special nets (kinds_nets_first d.nets nets special is a b) (section_first text o mid n d nets special lies placed)

-- the edits of what changes give the issued text
pub overlay_is : (text : List ℕ) (d : Design) (joints : List NewJoint) (nets : List (List ℕ)) (o : Changes) (overlay : List Edit) → DesignLies (length text) d → o ≡ changes_of (names_of (design_in text d)) joints nets →
    overlay ≡ design_changed text o (design_in text d) → IsOverlayOf text (design_in text d) joints nets overlay
overlay_is text d joints nets o overlay lies changes is =
    let both = same_design text o (length text) d lies in record {
      issued = ap (edited text 0) is ∙ both.same 0 (omega arith) ∙ ap (λ c. edited text 0 (edits text c (design_in text d))) changes;
      order = subst (InOrder 0 (length text)) (sym is) both.lean_order;
    }
