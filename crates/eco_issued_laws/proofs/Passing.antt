-- Parts that have no nets.
use Rattle.std.proofs.Common.{◌≡◌, ℕ, Bool, true, false, ◌&&◌, List, [], ◌∷◌, ◌++◌, map, Ok, refl, ap, sym, ◌∙◌, subst, arith, if◌then◌else◌, codes}
use Rattle.eco_text.specs.Words.{Token, Walk, finished, open_quote, word_then, ◌+++◌}
use Rattle.eco_def.specs.Parsing.{Parser, begins, any, many, pass_to, pass_to_both}
use Rattle.eco_text.specs.Tokens.{is_word}
use Rattle.eco_def.specs.Design.{Part, Passed, Units, Comps, Pins, Special, Nets}
use Rattle.eco_def.specs.Named.{comp_names, pin_names, net_names}
use Rattle.eco_def.specs.Grammar.{section_head, section_end, comp, comps, comp_section_within, comp_section, top_pin, pin_section_within, pin_section, units, units_number, passed_section, passed_up_to}
use Rattle.eco_issued_laws.specs.Changes.{Changes}
use Rattle.eco_issued_laws.specs.Issued.{issued_net, fresh_net}
use Rattle.eco_issued_laws.proofs.PartEdits.{part_edits}
use Rattle.eco_issued_laws.proofs.Keeping.{Same, SameAll, SameNext, Reread, Keeps, Tests, not_Ok, keeps_any, keeps_then, keeps_as, begins_again}
use Rattle.eco_issued_laws.proofs.Repeating.{Beside, beside_map, keeps_many}
use Rattle.eco_issued_laws.proofs.Rules.{tests_word, keeps_word, keeps_valued, keeps_fewer, keeps_comp, keeps_top_pin}
use Rattle.eco_issued_laws.proofs.Ending.{Ends, plain_word_is, ends_word, ends_then, ends_as, ends_pass_to, ends_pass_to_both}

-- ---- passing over words

pub more_words : {H : Walk → Walk → Type 0} (q0 q : Parser Token) (w : Token) (u : Walk) (x : Token) (r : Walk) (one : Reread 1 Same H q0 u x r) →
    ((t : Token) (v : Walk) (y : Token) (s : Walk) → Same w t → SameNext u v → q0 v ≡ Ok (y, s) → q (word_then t v) ≡ Ok (y, s)) → Reread 1 Same H q (word_then w u) x r
more_words {H} q0 q w u x r one on = record {
  front = w ∷ one.front;
  is = ap (word_then w) one.is;
  taken = omega (arith, one.taken);
  ahead = head;
  again = found;
}
  where
    head : (fs : List Token) (s : Walk) → SameAll (w ∷ one.front) fs → H r s → SameNext (word_then w u) (fs +++ s)
    head [] s all h = absurd all
    head (t ∷ fs) s all h = all.0

    found : (fs : List Token) (s : Walk) → SameAll (w ∷ one.front) fs → H r s → (y : Token) × (q (fs +++ s) ≡ Ok (y, s)) × Same x y
    found [] s all h = absurd all
    found (t ∷ fs) s all h = let y = one.again fs s all.1 h in (y.0, on t (fs +++ s) y.0 s all.0 (one.ahead fs s all.1 h) y.1, y.2)

pub keeps_pass_to : {H : Walk → Walk → Type 0} (f : Token → Bool) → Tests f f → Keeps 1 Same H (pass_to f) (pass_to f)
keeps_pass_to f test (finished p) x r e = absurd (not_Ok e)
keeps_pass_to f test (open_quote p) x r e = absurd (not_Ok e)
keeps_pass_to {H} f test (word_then w u) x r e = go (f w) refl e (keeps_pass_to {H = H} f test u x r)
  where
    go : (b : Bool) → f w ≡ b → (if b then Ok (w, u) else pass_to f u) ≡ Ok (x, r) → (pass_to f u ≡ Ok (x, r) → Reread 1 Same H (pass_to f) u x r) → Reread 1 Same H (pass_to f) (word_then w u) x r
    go true i e rec =
        let one = keeps_any {H = H} (word_then w u) x r e in
        record { front = one.front; is = one.is; taken = one.taken; ahead = one.ahead; again = λ fs s all h. stop one.front one.is fs s all h (one.ahead fs s all h) (one.again fs s all h) }
      where
        stop : (front : List Token) → word_then w u ≡ front +++ r → (fs : List Token) (s : Walk) → SameAll front fs → H r s → SameNext (word_then w u) (fs +++ s) → (y : Token) × (any (fs +++ s) ≡ Ok (y, s)) × Same x y → (y : Token) × (pass_to f (fs +++ s) ≡ Ok (y, s)) × Same x y
        stop front is fs s all h ahead y = (y.0, at (fs +++ s) ahead y.1, y.2)
          where
            at : (v : Walk) → SameNext (word_then w u) v → any v ≡ Ok (y.0, s) → pass_to f v ≡ Ok (y.0, s)
            at (finished p) ahead e = absurd ahead
            at (open_quote p) ahead e = absurd ahead
            at (word_then t v) ahead e = ap (λ b. if b then Ok (t, v) else pass_to f v) (test w t ahead ∙ i) ∙ e
    go false i e rec = more_words (pass_to f) (pass_to f) w u x r (rec e) (λ t v y s same ahead e. ap (λ b. if b then Ok (t, v) else pass_to f v) (test w t same ∙ i) ∙ e)

pub keeps_pass_to_both : {H : Walk → Walk → Type 0} (f g : Token → Bool) → Tests f f → Tests g g → Keeps 1 Same H (pass_to_both f g) (pass_to_both f g)
keeps_pass_to_both f g tf tg (finished p) x r e = absurd (not_Ok e)
keeps_pass_to_both f g tf tg (open_quote p) x r e = absurd (not_Ok e)
keeps_pass_to_both {H} f g tf tg (word_then w u) x r e = go (f w && begins g u) refl e (keeps_pass_to_both {H = H} f g tf tg u x r)
  where
    again : (t : Token) (v : Walk) → Same w t → SameNext u v → (f t && begins g v) ≡ (f w && begins g u)
    again t v same ahead = rw (tf w t same, begins_again tg u v ahead) refl

    go : (b : Bool) → (f w && begins g u) ≡ b → (if b then any u else pass_to_both f g u) ≡ Ok (x, r) → (pass_to_both f g u ≡ Ok (x, r) → Reread 1 Same H (pass_to_both f g) u x r) → Reread 1 Same H (pass_to_both f g) (word_then w u) x r
    go true i e rec = more_words any (pass_to_both f g) w u x r (keeps_any {H = H} u x r e) (λ t v y s same ahead e. ap (λ b. if b then any v else pass_to_both f g v) (again t v same ahead ∙ i) ∙ e)
    go false i e rec = more_words (pass_to_both f g) (pass_to_both f g) w u x r (rec e) (λ t v y s same ahead e. ap (λ b. if b then any v else pass_to_both f g v) (again t v same ahead ∙ i) ∙ e)

-- ---- parts

-- a part of the issued text beside the part of the text
abbrev pub IssuedPart : Changes → Part → Part → Type 0
IssuedPart o Passed Passed = Unit {0}
IssuedPart o (Units n) (Units m) = m ≡ n
IssuedPart o (Comps cs) (Comps ds) = map comp_names ds ≡ map comp_names cs
IssuedPart o (Pins ps) (Pins qs) = map pin_names qs ≡ map pin_names ps
IssuedPart o (Special ss) (Special ts) = map net_names ts ≡ map (issued_net o true) (map net_names ss)
IssuedPart o (Nets s) (Nets t) = map net_names t.nets ≡ map (issued_net o false) (map net_names s.nets) ++ map fresh_net o.fresh
IssuedPart o _ _ = ⊥

pub keeps_head : {H : Walk → Walk → Type 0} (keyword : List ℕ) → Keeps 3 Same H (section_head keyword) (section_head keyword)
unfolding section_head
keeps_head keyword = keeps_then (keeps_word keyword) (λ h k sh. keeps_then keeps_any (λ c d sc. keeps_as _ _ (keeps_word (codes ";")) (λ b b' sb. sc)))

pub ends_head : (keyword : List ℕ) → Ends (λ x k. Unit {0}) (section_head keyword)
unfolding section_head
ends_head keyword = ends_then (keeps_word keyword) (λ h. ends_then keeps_any (λ c. ends_as (λ x k. Unit {0}) (λ b. c) (ends_word (codes ";")) (λ b k e. tt)))

pub keeps_end : {H : Walk → Walk → Type 0} (keyword : List ℕ) → Keeps 2 (λ x y. Unit {0}) H (section_end keyword) (section_end keyword)
unfolding section_end
keeps_end keyword = keeps_then (keeps_word (codes "END")) (λ h k sh. keeps_as _ _ (keeps_word keyword) (λ c d sc. tt))

pub ends_end : (keyword : List ℕ) → Ends (λ x k. Unit {0}) (section_end keyword)
unfolding section_end
ends_end keyword = ends_then (keeps_word (codes "END")) (λ h. ends_as (λ x k. Unit {0}) (λ c. h.start) (ends_word keyword) (λ b k e. tt))

pub keeps_comps : Keeps 0 (Beside (λ x y. comp_names y ≡ comp_names x)) SameNext comps comps
keeps_comps = keeps_many (λ x y. comp_names y ≡ comp_names x) comp comp (tests_word (codes "-")) (λ xs ys b. keeps_fewer 1 (omega arith) (keeps_comp xs ys b))

pub keeps_pins : Keeps 0 (Beside (λ x y. pin_names y ≡ pin_names x)) SameNext (many (is_word (codes "-")) top_pin) (many (is_word (codes "-")) top_pin)
keeps_pins = keeps_many (λ x y. pin_names y ≡ pin_names x) top_pin top_pin (tests_word (codes "-")) (λ xs ys b. keeps_fewer 1 (omega arith) (keeps_top_pin xs ys b))

pub keeps_comp_section : {H : Walk → Walk → Type 0} (o : Changes) → Keeps 1 (IssuedPart o) H comp_section comp_section
unfolding comp_section_within
keeps_comp_section o =
    keeps_fewer 1 (omega arith) (keeps_then (keeps_head (codes "COMPONENTS")) (λ c d sc.
    keeps_then keeps_comps (λ cs ds scs.
    keeps_as _ _ (keeps_end (codes "COMPONENTS")) (λ e f se. beside_map comp_names comp_names (λ x y v. v) cs ds scs))))

pub ends_comp_section : (text : List ℕ) (o : Changes) → Ends (λ x k. part_edits text o x ≡ []) comp_section
unfolding comp_section_within
ends_comp_section text o =
    ends_then (keeps_head (codes "COMPONENTS")) (λ c. ends_then keeps_comps (λ cs.
    ends_as (λ x k. part_edits text o x ≡ []) (λ e. Comps cs) (ends_end (codes "COMPONENTS")) (λ b k e. refl)))

pub keeps_pin_section : {H : Walk → Walk → Type 0} (o : Changes) → Keeps 1 (IssuedPart o) H pin_section pin_section
unfolding pin_section_within
keeps_pin_section o =
    keeps_fewer 1 (omega arith) (keeps_then (keeps_head (codes "PINS")) (λ c d sc.
    keeps_then keeps_pins (λ cs ds scs.
    keeps_as _ _ (keeps_end (codes "PINS")) (λ e f se. beside_map pin_names pin_names (λ x y v. v) cs ds scs))))

pub ends_pin_section : (text : List ℕ) (o : Changes) → Ends (λ x k. part_edits text o x ≡ []) pin_section
unfolding pin_section_within
ends_pin_section text o =
    ends_then (keeps_head (codes "PINS")) (λ c. ends_then keeps_pins (λ cs.
    ends_as (λ x k. part_edits text o x ≡ []) (λ e. Pins cs) (ends_end (codes "PINS")) (λ b k e. refl)))

pub keeps_units : {H : Walk → Walk → Type 0} (o : Changes) → Keeps 1 (IssuedPart o) H units units
unfolding units
keeps_units o =
    keeps_fewer 1 (omega arith) (keeps_then (keeps_word (codes "UNITS")) (λ a b s. keeps_then (keeps_word (codes "DISTANCE")) (λ a b s. keeps_then (keeps_word (codes "MICRONS")) (λ a b s. keeps_then (keeps_valued units_number) (λ n m sn. keeps_as _ _ (keeps_word (codes ";")) (λ e f se. sn))))))

pub ends_units : (text : List ℕ) (o : Changes) → Ends (λ x k. part_edits text o x ≡ []) units
unfolding units
ends_units text o =
    ends_then (keeps_word (codes "UNITS")) (λ a. ends_then (keeps_word (codes "DISTANCE")) (λ a. ends_then (keeps_word (codes "MICRONS")) (λ a. ends_then (keeps_valued units_number) (λ n. ends_as (λ x k. part_edits text o x ≡ []) (λ e. Units n) (ends_word (codes ";")) (λ b k e. refl)))))

pub keeps_passed_section : {H : Walk → Walk → Type 0} (o : Changes) → Keeps 1 (IssuedPart o) H passed_section passed_section
unfolding passed_section
keeps_passed_section o =
    keeps_fewer 1 (omega arith) (keeps_then keeps_any (λ h k sh. keeps_as _ _ (keeps_same h.bytes k.bytes sh.bytes) (λ e f se. tt)))
  where
    keeps_same : {H : Walk → Walk → Type 0} (a b : List ℕ) → b ≡ a → Keeps 1 Same H (pass_to_both (is_word (codes "END")) (is_word a)) (pass_to_both (is_word (codes "END")) (is_word b))
    keeps_same {H} a b e = subst (λ k. Keeps 1 Same H (pass_to_both (is_word (codes "END")) (is_word a)) (pass_to_both (is_word (codes "END")) (is_word k))) (sym e) (keeps_pass_to_both (is_word (codes "END")) (is_word a) (tests_word (codes "END")) (tests_word a))

pub ends_passed_section : (text : List ℕ) (o : Changes) → Ends (λ x k. part_edits text o x ≡ []) passed_section
unfolding passed_section
ends_passed_section text o = ends_then keeps_any (λ h. ends_as (λ x k. part_edits text o x ≡ []) (λ e. Passed) (ends_pass_to_both (is_word (codes "END")) (is_word h.bytes) (plain_word_is h.bytes)) (λ b k e. refl))

pub keeps_passed : {H : Walk → Walk → Type 0} (o : Changes) (keyword : List ℕ) → Keeps 1 (IssuedPart o) H (passed_up_to keyword) (passed_up_to keyword)
keeps_passed o keyword = keeps_as _ _ (keeps_pass_to (is_word keyword) (tests_word keyword)) (λ e f se. tt)

pub ends_passed : (text : List ℕ) (o : Changes) (keyword : List ℕ) → Ends (λ x k. part_edits text o x ≡ []) (passed_up_to keyword)
ends_passed text o keyword = ends_as (λ x k. part_edits text o x ≡ []) (λ e. Passed) (ends_pass_to (is_word keyword) (plain_word_is keyword)) (λ b k e. refl)
