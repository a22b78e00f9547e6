-- What the writer of statements appends.
use Rattle.std.specs.List.{flat_map}
use Rattle.std.proofs.Common.{◌≡◌, ℕ, Bool, true, is_ok, if◌then◌else◌, slice_range, List, [], ◌∷◌, ◌++◌, map, Result, Ok, Err, OnOk, IfOk, refl, ap, sym, ◌∙◌, append_assoc, append-nil, codes}
use Rattle.eco_def.specs.declared.design.Joint.{Joint}
use Rattle.eco_def.specs.declared.design.NetStatement.{NetStatement}
use Rattle.eco_def.specs.View.{joint_in, net_in}
use Rattle.eco_issued_laws.specs.Printing.{spaced}
use Rattle.eco_issued_laws.specs.Issued.{joint_words, joints_end, tail_text, fresh_text}
use Rattle.eco_overlay.specs.declared.pin_move.PinMove.{PinMove}
use Rattle.eco_overlay.specs.PinMoves.{moved_pin, last_end}

pub on_ok : {T E : Type 0} {P Q : Type 0} (r : Result T E) → (P → Q) → OnOk r P → OnOk r Q
on_ok (Ok x) f p = f p
on_ok (Err e) f p = tt

pub if_ok : {T E : Type 0} {P Q : T → Type 0} (r : Result T E) → ((x : T) → P x → Q x) → IfOk r P → IfOk r Q
if_ok (Ok x) f p = f x p
if_ok (Err e) f p = tt

-- pieces put one after another
pub put_four : (a b c d w x y z : List ℕ) → w ≡ a → x ≡ w ++ b → y ≡ x ++ c → z ≡ y ++ d → z ≡ a ++ (b ++ (c ++ d))
put_four a b c d w x y z p q r s =
    s ∙ ap (λ k. k ++ d) (r ∙ ap (λ k. k ++ c) (q ∙ ap (λ k. k ++ b) p)) ∙ ap (λ k. k ++ d) (append_assoc a b c) ∙ append_assoc a (b ++ c) d ∙ ap (λ k. a ++ k) (append_assoc b c d)

-- ---- words, each after a blank

pub spaced_append : (xs ys : List (List ℕ)) → spaced (xs ++ ys) ≡ spaced xs ++ spaced ys
spaced_append [] ys = refl
spaced_append (x ∷ xs) ys = ap (λ k. 32 ∷ x ++ k) (spaced_append xs ys) ∙ sym (append_assoc (32 ∷ x) (spaced xs) (spaced ys))

pub spaced_pins : (ms : List PinMove) → flat_map (λ m. spaced (joint_words (moved_pin m))) ms ≡ spaced (flat_map joint_words (map moved_pin ms))
spaced_pins [] = refl
spaced_pins (m ∷ ms) = ap (λ k. spaced (joint_words (moved_pin m)) ++ k) (spaced_pins ms) ∙ sym (spaced_append (joint_words (moved_pin m)) (flat_map joint_words (map moved_pin ms)))

-- ---- the end of the joints

pub ends_are : (text : List ℕ) (at : ℕ) (js : List Joint) → joints_end at (map (joint_in text) js) ≡ last_end at js
ends_are text at [] = refl
ends_are text at (j ∷ js) = ends_are text j.end js

pub last_end_more : (at : ℕ) (js : List Joint) (j : Joint) → last_end at (js ++ j ∷ []) ≡ j.end
last_end_more at [] j = refl
last_end_more at (k ∷ js) j = last_end_more k.end js j

pub ok_items : {T E : Type 0} (r : Result T E) (x a b : List ℕ) → x ≡ (if is_ok r then a else b) → OnOk r (x ≡ a)
ok_items (Ok y) x a b is = is
ok_items (Err e) x a b is = tt

pub tail_is : (text : List ℕ) (special : Bool) (s : NetStatement) (tail : List ℕ) (at : ℕ) → special ≡ true → tail ≡ slice_range text at s.end → at ≡ last_end s.name.end s.joints → tail ≡ tail_text text special (net_in text s)
tail_is text special s tail at on is ends =
    is ∙ ap (λ n. slice_range text n s.end) (ends ∙ sym (ends_are text s.name.end s.joints)) ∙ ap (λ b. tail_text text b (net_in text s)) (sym on)

-- the first statement of a net, piece by piece
pub put_fresh_is : (old a b new name : List ℕ) (ms : List PinMove) → a ≡ old ++ 45 ∷ 32 ∷ (name ++ []) → b ≡ a ++ flat_map (λ m. spaced (joint_words (moved_pin m))) ms → new ≡ b ++ 32 ∷ 59 ∷ 10 ∷ [] →
    new ≡ old ++ fresh_text (record { name = name; joints = map moved_pin ms })
put_fresh_is old a b new name ms p q r =
    let head = 45 ∷ 32 ∷ (name ++ []) in
    let pins = flat_map joint_words (map moved_pin ms) in
    let last = spaced (codes ";" ∷ []) in
    let words : spaced (name ∷ (pins ++ codes ";" ∷ [])) ≡ 32 ∷ name ++ (spaced pins ++ last) = ap (λ k. 32 ∷ name ++ k) (spaced_append pins (codes ";" ∷ [])) in
    let whole : fresh_text (record { name = name; joints = map moved_pin ms }) ≡ head ++ (spaced pins ++ 32 ∷ 59 ∷ 10 ∷ []) =
    ap (λ k. 45 ∷ (k ++ 10 ∷ [])) words ∙ ap (λ k. 45 ∷ 32 ∷ k) (append_assoc name (spaced pins ++ last) (10 ∷ []) ∙ ap (λ k. name ++ k) (append_assoc (spaced pins) last (10 ∷ [])))
    ∙ ap (λ k. 45 ∷ 32 ∷ (k ++ (spaced pins ++ 32 ∷ 59 ∷ 10 ∷ []))) (sym (append-nil name)) in
    r ∙ ap (λ k. k ++ 32 ∷ 59 ∷ 10 ∷ []) (q ∙ ap (λ k. a ++ k) (spaced_pins ms) ∙ ap (λ k. k ++ spaced pins) p) ∙ ap (λ k. k ++ 32 ∷ 59 ∷ 10 ∷ []) (append_assoc old head (spaced pins))
    ∙ append_assoc old (head ++ spaced pins) (32 ∷ 59 ∷ 10 ∷ []) ∙ ap (λ k. old ++ k) (append_assoc head (spaced pins) (32 ∷ 59 ∷ 10 ∷ []) ∙ sym whole)
