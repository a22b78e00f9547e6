-- The edits of what changes, against those of all statements.
use Rattle.std.specs.List.{flat_map, filter}
use Rattle.std.proofs.Common.{◌≡◌, ℕ, ◌+◌, ◌<◌, ◌==◌, Bool, true, false, not, ◌&&◌, List, [], ◌∷◌, ◌++◌, length, take, drop, map, get_or, refl, ap, sym, ◌∙◌, append_assoc, if◌then◌else◌}
use Rattle.std.proofs.lemmas.List.{take_more, drop_more, take-append-drop, map-append}
use Rattle.std.proofs.lemmas.List.Elements.{filter-append}
use Rattle.std.proofs.lemmas.List.Concat.{flat_map-append}
use Rattle.eco_def.specs.declared.design.NetStatement.{NetStatement}
use Rattle.eco_def.specs.Design as said
use Rattle.eco_def.specs.View.{net_in}
use Rattle.eco_issued_laws.specs.Changes.{Changes, Fresh, is_nil}
use Rattle.eco_issued_laws.specs.Issued.{Edit, nets_first, fresh_text}
use Rattle.eco_overlay.specs.NetChanges.{of_kind, is_before_first}
use Rattle.eco_overlay.specs.Overlays.{changed_edits, all_changed, count_edits, appended}

pub nil_map : {A B : Type 0} (f : A → B) (xs : List A) → is_nil (map f xs) ≡ is_nil xs
nil_map f [] = refl
nil_map f (x ∷ xs) = refl

pub nothing_comes : (nil gets : Bool) → gets ≡ not nil → gets ≡ false → nil ≡ true
nothing_comes true gets is off = refl
nothing_comes false gets is off = let apart : true ≡ false = sym is ∙ off in cc

pub not_nil : {A : Type 0} (xs : List A) (n : ℕ) → (n == 0) ≡ false → n ≡ length xs → is_nil xs ≡ false
not_nil [] n off is = let apart : true ≡ false = sym (ap (λ m. m == 0) is) ∙ off in cc
not_nil (x ∷ xs) n off is = refl

pub and_on : (r a b : Bool) → r ≡ a → b ≡ true → r ≡ (a && b)
and_on r true b is on = is ∙ sym on
and_on r false b is on = is

-- one statement more
pub changed_more : (text : List ℕ) (o : Changes) (special : Bool) (ss : List NetStatement) (i : ℕ) (s : NetStatement) (old before new : List Edit) → i < length ss → s ≡ get_or ss i s →
    before ≡ old ++ all_changed text o special (map (net_in text) (of_kind special (take i ss))) → new ≡ before ++ all_changed text o special (map (net_in text) (of_kind special (s ∷ []))) →
    new ≡ old ++ all_changed text o special (map (net_in text) (of_kind special (take (i + 1) ss)))
changed_more text o special ss i s old before new lt at was is =
    let kind : List NetStatement → List said.Net = λ ts. map (net_in text) (of_kind special ts) in
    let edits : List said.Net → List Edit = all_changed text o special in
    let split : kind (take (i + 1) ss) ≡ kind (take i ss) ++ kind (s ∷ []) =
    ap kind (take_more ss i s lt) ∙ ap (λ t. kind (take i ss ++ t ∷ [])) (sym at) ∙ ap (map (net_in text)) (filter-append (λ t. if special then t.special else not t.special) (take i ss) (s ∷ []))
    ∙ map-append (net_in text) (of_kind special (take i ss)) (of_kind special (s ∷ [])) in
    is ∙ ap (λ es. es ++ edits (kind (s ∷ []))) was ∙ append_assoc old (edits (kind (take i ss))) (edits (kind (s ∷ [])))
    ∙ ap (λ es. old ++ es) (sym (flat_map-append (changed_edits text o special) (kind (take i ss)) (kind (s ∷ []))) ∙ ap edits (sym split))

-- ---- the first statement of SPECIALNETS

-- the first of the statements of SPECIALNETS
pub first_special : (ss : List NetStatement) (i : ℕ) (s : NetStatement) → i < length ss → s ≡ get_or ss i s → s.special ≡ true → of_kind true (take i ss) ≡ [] → of_kind true ss ≡ s ∷ of_kind true (drop (i + 1) ss)
first_special ss i s lt at on none =
    let special : NetStatement → Bool = λ t. t.special in
    sym (ap (filter special) (take-append-drop i ss)) ∙ filter-append special (take i ss) (drop i ss) ∙ ap (λ ts. ts ++ filter special (drop i ss)) none
    ∙ ap (filter special) (drop_more ss i s lt ∙ ap (λ t. t ∷ drop (i + 1) ss) (sym at)) ∙ ap (λ b. if b then s ∷ filter special (drop (i + 1) ss) else filter special (drop (i + 1) ss)) on

pub none_special : (ss : List NetStatement) (i : ℕ) (s : NetStatement) → i < length ss → s ≡ get_or ss i s → s.special ≡ false → of_kind true (take i ss) ≡ [] → of_kind true (take (i + 1) ss) ≡ []
none_special ss i s lt at off none =
    let special : NetStatement → Bool = λ t. t.special in
    ap (filter special) (take_more ss i s lt ∙ ap (λ t. take i ss ++ t ∷ []) (sym at)) ∙ filter-append special (take i ss) (s ∷ []) ∙ ap (λ ts. ts ++ filter special (s ∷ [])) none
    ∙ ap (λ b. if b then s ∷ [] else []) off

pub first_is : (special : List said.Net) (s : said.NetSection) → is_before_first s.count.start special ≡ nets_first special s
first_is [] s = refl
first_is (t ∷ ts) s = refl

-- ---- new statements

pub appended_is : (s : said.NetSection) (fs : List Fresh) (bytes : List ℕ) → is_nil fs ≡ false → bytes ≡ flat_map fresh_text fs → record { start = s.end; end = s.end; bytes = bytes } ∷ [] ≡ appended s fs
appended_is s [] bytes off is = cc
appended_is s (f ∷ fs) bytes off is = ap (λ bs. let e : Edit = record { start = s.end; end = s.end; bytes = bs } in e ∷ []) is

pub counted_is : (text : List ℕ) (o : Changes) (s : said.NetSection) (fs : List Fresh) (bytes : List ℕ) → is_nil fs ≡ false → bytes ≡ o.numeral (length s.nets + length fs) → record { start = s.count.start; end = s.count.end; bytes = bytes } ∷ [] ≡ count_edits text o s fs
counted_is text o s [] bytes off is = cc
counted_is text o s (f ∷ fs) bytes off is = ap (λ bs. let e : Edit = record { start = s.count.start; end = s.count.end; bytes = bs } in e ∷ []) is
