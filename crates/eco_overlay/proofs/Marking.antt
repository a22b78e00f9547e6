-- Moves that the joints of statements mark, one after another.
use Rattle.std.specs.Str.{bytes_eq}
use Rattle.std.specs.List.{list_any}
use Rattle.std.specs.List.Sorted.{IsStrictlySortedBy}
use Rattle.std.proofs.Common.{◌≡◌, ℕ, ◌+◌, ◌<◌, Bool, true, false, ◌&&◌, ◌||◌, List, [], ◌∷◌, ◌++◌, length, map, take, get_or, refl, ap, sym, ◌∙◌, subst}
use Rattle.std.proofs.Math.Path.{fun_ext}
use Rattle.std.proofs.lemmas.List.{take_more}
use Rattle.std.proofs.lemmas.List.Folds.{list_any-append}
use Rattle.std.proofs.lemmas.Simd.{map-map}
use Rattle.eco_def.specs.declared.design.Joint.{Joint}
use Rattle.eco_def.specs.declared.design.NetStatement.{NetStatement}
use Rattle.eco_issued_laws.specs.Changes.{is_joint_of}
use Rattle.eco_overlay.specs.declared.pin_move.PinMove.{PinMove}
use Rattle.eco_text.specs.Cursor.{word_bytes}
use Rattle.eco_overlay.specs.PinMoves.{new_joint, moved_pin, pin_cmp, names_in, marked, marked_by, marked_in, stands_in, AreInOrder}

-- moves that differ in their marks alone are in order alike
pub keeps_order : (f : PinMove → PinMove) (ms : List PinMove) → ((m : PinMove) → moved_pin (f m) ≡ moved_pin m) → AreInOrder ms → AreInOrder (map f ms)
keeps_order f ms same up = subst (IsStrictlySortedBy pin_cmp) (sym (map-map moved_pin f ms ∙ ap (λ g. map g ms) (fun_ext same))) up

or_none : (a b : Bool) → (a || (b && false)) ≡ a
or_none true b = refl
or_none false true = refl
or_none false false = refl

or_false : (a : Bool) → (a || false) ≡ a
or_false true = refl
or_false false = refl

map_same : (f : PinMove → PinMove) (ms : List PinMove) → ((m : PinMove) → f m ≡ m) → ms ≡ map f ms
map_same f [] same = refl
map_same f (m ∷ ms) same = ap (λ ns. m ∷ ns) (map_same f ms same) ∙ ap (λ n. n ∷ map f ms) (sym (same m))

pub none_marked_by : (text net : List ℕ) (ms : List PinMove) → ms ≡ map (marked_by text net []) ms
none_marked_by text net ms = map_same (marked_by text net []) ms (λ m. ap (λ b. let n : PinMove = record m { stands = b } in n) (or_none m.stands (bytes_eq net m.net.now)))

pub none_marked_in : (text : List ℕ) (ms : List PinMove) → ms ≡ map (marked_in text []) ms
none_marked_in text ms = map_same (marked_in text []) ms (λ m. ap (λ b. let n : PinMove = record m { stands = b } in n) (or_false m.stands))

joint_more : (s b l x : Bool) → ((s || (b && l)) || (b && x)) ≡ (s || (b && (l || (x || false))))
joint_more true b l x = refl
joint_more false true true x = refl
joint_more false true false true = refl
joint_more false true false false = refl
joint_more false false l x = refl

statement_more : (s l x : Bool) → ((s || l) || x) ≡ (s || (l || (x || false)))
statement_more true l x = refl
statement_more false true x = refl
statement_more false false true = refl
statement_more false false false = refl

-- one joint more
pub one_marked_by : (text net : List ℕ) (js : List Joint) (j : Joint) (ms : List PinMove) →
    map (marked (names_in text j) net) (map (marked_by text net js) ms) ≡ map (marked_by text net (js ++ j ∷ [])) ms
one_marked_by text net js j ms =
    map-map (marked (names_in text j) net) (marked_by text net js) ms
    ∙ ap (λ f. map f ms) (fun_ext (λ (m : PinMove). ap (λ b. let n : PinMove = record m { stands = b } in n)
    (joint_more m.stands (bytes_eq net m.net.now) (list_any (λ k. is_joint_of (new_joint m) (names_in text k)) js) (is_joint_of (new_joint m) (names_in text j))
    ∙ ap (λ b. m.stands || (bytes_eq net m.net.now && b)) (sym (list_any-append (λ k. is_joint_of (new_joint m) (names_in text k)) js (j ∷ []))))))

-- one statement more
pub one_marked_in : (text : List ℕ) (ss : List NetStatement) (i : ℕ) (d : NetStatement) (ms : List PinMove) → i < length ss →
    map (marked_by text (word_bytes text (get_or ss i d).name) (get_or ss i d).joints) (map (marked_in text (take i ss)) ms) ≡ map (marked_in text (take (i + 1) ss)) ms
one_marked_in text ss i d ms lt =
    let s = get_or ss i d in
    map-map (marked_by text (word_bytes text s.name) s.joints) (marked_in text (take i ss)) ms
    ∙ ap (λ f. map f ms) (fun_ext (λ (m : PinMove). ap (λ b. let n : PinMove = record m { stands = b } in n)
    (statement_more m.stands (stands_in text (new_joint m) (take i ss)) (bytes_eq (word_bytes text s.name) m.net.now && list_any (λ k. is_joint_of (new_joint m) (names_in text k)) s.joints)
    ∙ ap (λ b. m.stands || b) (sym (list_any-append (λ t. bytes_eq (word_bytes text t.name) m.net.now && list_any (λ k. is_joint_of (new_joint m) (names_in text k)) t.joints) (take i ss) (s ∷ []))))))
    ∙ ap (λ ts. map (marked_in text ts) ms) (sym (take_more ss i d lt))
