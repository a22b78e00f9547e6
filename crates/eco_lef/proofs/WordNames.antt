-- The names of a library are words that a text can have as names, and its sizes keep the limit.
use Rattle.std.specs.Char.{is_ascii_digit}
use Rattle.std.specs.List.{list_all, list_any}
use Rattle.std.proofs.Common.{◌≡◌, ℕ, zero, suc, ◌+◌, ◌==◌, ◌&&◌, ◌||◌, not, Bool, true, false, List, [], ◌∷◌, ◌++◌, length, nat_le, map, unwrap_or, Option, Some, None, Result, Ok, Err, refl, ap, sym, subst, ◌∙◌, true≢false, codes, if◌then◌else◌}
use Rattle.std.proofs.lemmas.Bool.{and_parts}
use Rattle.std.proofs.lemmas.List.Folds.{list_all-append}
use Rattle.eco_common.specs.declared.geometry.Dir.TheVariants.{Input, Output, Inout}
use Rattle.eco_common.specs.declared.limits.TheConstants.{MAX_MILLIONTHS}
use Rattle.eco_common.specs.Options.{first_some}
use Rattle.eco_common.specs.Sizes.{keeps_limit}
use Rattle.eco_text.specs.Numbers.{at_most, digits_behind, whole_part, decimals, six_of, microns_of}
use Rattle.eco_text.specs.Words.{Token, Walk, Mode, finished, open_quote, word_then, between, comment, plain, quote, is_blank, plain_word, quoted_word, step, walk, walk_of, ◌+++◌}
use Rattle.eco_lef.specs.declared.fault.LefFault.{LefFault}
use Rattle.eco_lef.specs.declared.fault.LefFault.TheVariants.{TwiceNamed, TooManyMasters, ArrayBlock, BadStatement}
use Rattle.eco_lef.specs.declared.master.Master.{Master}
use Rattle.eco_lef.specs.declared.macro_statements.MacroBody.{MacroBody}
use Rattle.eco_lef.specs.declared.statement.PinStatement.TheVariants.{Directed, Used, Other as OtherInPin}
use Rattle.eco_lef.specs.declared.statement.MacroStatement.{MacroStatement}
use Rattle.eco_lef.specs.declared.statement.MacroStatement.TheVariants.{Sized, Pinned, Other as OtherInMacro}
use Rattle.eco_lef.specs.declared.statement.LibraryStatement.{LibraryStatement}
use Rattle.eco_lef.specs.declared.statement.LibraryStatement.TheVariants.{Defined, Other as OtherInLibrary}
use Rattle.eco_lef.specs.Known.{names_of, pin_names}
use Rattle.eco_lef.specs.Parsing.{Parser, ◌>>=◌, then_read, then_more, give, refuse, any, pass_one, begins, choose, next, word, valued, valued_as, bytes_ahead, pass_to, pass_to_both, new_name, many, many_for, word_count}
use Rattle.eco_text.specs.Tokens.{is_word, is_one_of, is_name, can_name}
use Rattle.eco_common.specs.NameBytes.{is_among}
use Rattle.eco_lef.specs.Grammar.{block_ends, unless_ended, output, plain_dir, dir, direction, plain_use, supply_use, use_said, pin_use, passed_in_pin, pin_end, pin_statement, pin_said, pin_body, pin_of, pin, size, passed_in_macro, macro_end, macro_statement_new, macro_statement, pins_of, size_said, no_size, macro_said, macro_body, master_of, defined, named_blocks, plain_blocks, pass_block, named_block, plain_block, passed_in_library, library_end, statement_under, library_statement_new, library_statement, masters_of, masters, value_read, library_of}
use Rattle.eco_lef.specs.Names.{are_words, NamesAreWords}
use Rattle.eco_lef.specs.Sizes.{size_of, KeepSizes}

both : (a b : Bool) → a ≡ true → b ≡ true → (a && b) ≡ true
both true b p q = q
both false b p q = absurd (true≢false (sym p))

-- ---- words of a text

-- neither a comment nor a quoted word begins with these bytes
abbrev Begins : List ℕ → Type 0
Begins [] = ⊥
Begins (b ∷ bs) = not (b == 35 || b == 34) ≡ true

abbrev WordBegins : Token → Type 0
WordBegins w = w.quoted ≡ false → Begins w.bytes

abbrev AllBegin : Walk → Type 0
AllBegin (finished p) = Unit {0}
AllBegin (open_quote p) = Unit {0}
AllBegin (word_then w u) = WordBegins w × AllBegin u

abbrev ModeBegins : Mode → Type 0
ModeBegins between = Unit {0}
ModeBegins comment = Unit {0}
ModeBegins (plain s w) = Begins w
ModeBegins (quote e s w) = Unit {0}

begins_push : (w : List ℕ) (b : ℕ) → Begins w → Begins (w ++ b ∷ [])
begins_push [] b begun = absurd begun
begins_push (c ∷ w) b begun = begun

words_begin : (bs : List ℕ) (m : Mode) (p : ℕ) → ModeBegins m → AllBegin (walk m p bs)
words_begin [] between p g = tt
words_begin [] comment p g = tt
words_begin [] (plain s w) p g = (λ q. g, tt)
words_begin [] (quote e s w) p g = tt
words_begin (b ∷ bs) between p g = in_gap (is_blank b) refl (b == 35) refl (b == 34) refl (λ k h. words_begin bs k (p + 1) h)
  where
    in_gap : (i : Bool) → is_blank b ≡ i → (c : Bool) → (b == 35) ≡ c → (k : Bool) → (b == 34) ≡ k → ((l : Mode) → ModeBegins l → AllBegin (walk l (p + 1) bs)) → AllBegin (walk (step between p b) (p + 1) bs)
    in_gap true i c e k f rec = subst (λ l. AllBegin (walk l (p + 1) bs)) (sym (rw i refl)) (rec between tt)
    in_gap false i true e k f rec = subst (λ l. AllBegin (walk l (p + 1) bs)) (sym (rw (i, e) refl)) (rec comment tt)
    in_gap false i false e true f rec = subst (λ l. AllBegin (walk l (p + 1) bs)) (sym (rw (i, e, f) refl)) (rec (quote false p (b ∷ [])) tt)
    in_gap false i false e false f rec =
        let begun : not (b == 35 || b == 34) ≡ true = rw (e, f) refl in
        subst (λ l. AllBegin (walk l (p + 1) bs)) (sym (rw (i, e, f) refl)) (rec (plain p (b ∷ [])) begun)
words_begin (b ∷ bs) comment p g = in_line (b == 10) (λ k h. words_begin bs k (p + 1) h)
  where
    in_line : (i : Bool) → ((l : Mode) → ModeBegins l → AllBegin (walk l (p + 1) bs)) → AllBegin (walk (if i then between else comment) (p + 1) bs)
    in_line true rec = rec between tt
    in_line false rec = rec comment tt
words_begin (b ∷ bs) (plain s w) p g = in_word (is_blank b) (λ k h. words_begin bs k (p + 1) h)
  where
    in_word : (i : Bool) → ((l : Mode) → ModeBegins l → AllBegin (walk l (p + 1) bs)) → AllBegin ((if i then plain_word s w p ∷ [] else []) +++ walk (if i then between else plain s (w ++ b ∷ [])) (p + 1) bs)
    in_word true rec = (λ q. g, rec between tt)
    in_word false rec = rec (plain s (w ++ b ∷ [])) (begins_push w b g)
words_begin (b ∷ bs) (quote e s w) p g = in_quote ((b == 34) && not e) (λ k h. words_begin bs k (p + 1) h)
  where
    in_quote : (i : Bool) → ((l : Mode) → ModeBegins l → AllBegin (walk l (p + 1) bs)) → AllBegin ((if i then quoted_word s (w ++ b ∷ []) (p + 1) ∷ [] else []) +++ walk (if i then between else quote (b == 92) s (w ++ b ∷ [])) (p + 1) bs)
    in_quote true rec = (λ q. absurd (true≢false q), rec between tt)
    in_quote false rec = rec (quote (b == 92) s (w ++ b ∷ [])) tt

-- a word of a text that has a name's form
name_can : (w : Token) → WordBegins w → is_name w ≡ true → can_name w.bytes ≡ true
name_can w begun named = go w.bytes w.quoted begun named
  where
    go : (bs : List ℕ) (q : Bool) → (q ≡ false → Begins bs) → is_name (record { bytes = bs; quoted = q; start = w.start; end = w.end }) ≡ true → can_name bs ≡ true
    go bs true begun named = absurd (true≢false (sym named))
    go [] false begun named = absurd (begun refl)
    go (b ∷ bs) false begun named = both (not (b == 35 || b == 34)) (is_name (plain_word 0 (b ∷ bs) 0)) (begun refl) named

-- ---- readings

Ok_is : {A : Type 0} {x y : A × Walk} → (◌≡◌ {A = Result (A × Walk) LefFault} (Ok x) (Ok y)) → x ≡ y
Ok_is e = cc

not_Ok : {A : Type 0} {e : LefFault} {x : A} → (◌≡◌ {A = Result A LefFault} (Err e) (Ok x)) → ⊥
not_Ok e = cc

-- from words of a text each value has this property, and words of a text are left
record Makes {A : Type 0} (C : A → Type 0) (p : Parser A) : Type 0 where
  makes : (u : Walk) (x : A) (r : Walk) → AllBegin u → p u ≡ Ok (x, r) → C x × AllBegin r

-- nothing is said of a value
abbrev Free : {A : Type 0} → A → Type 0
Free x = Unit {0}

makes_free : {A : Type 0} {C : A → Type 0} {p : Parser A} → Makes C p → Makes Free p
makes_free m = record { makes = λ u x r g e. (tt, (m.makes u x r g e).1) }

makes_give : {A : Type 0} (C : A → Type 0) (x : A) → C x → Makes C (give x)
makes_give C x c = record { makes = λ u z r g e. (subst (λ k. C k) (ap (λ k. k.0) (Ok_is e)) c, subst (λ k. AllBegin k) (ap (λ k. k.1) (Ok_is e)) g) }

makes_refuse : {A : Type 0} (C : A → Type 0) (inside : List ℕ) (fault : ℕ → LefFault) → Makes C (refuse inside fault)
makes_refuse C inside fault = record { makes = λ u x r g e. absurd (not_Ok e) }

any_makes : (inside : List ℕ) (u : Walk) (x : Token) (r : Walk) → AllBegin u → any inside u ≡ Ok (x, r) → WordBegins x × AllBegin r
any_makes inside (finished p) x r g e = absurd (not_Ok e)
any_makes inside (open_quote p) x r g e = absurd (not_Ok e)
any_makes inside (word_then w u) x r g e = (subst (λ (k : Token). WordBegins k) (ap (λ k. k.0) (Ok_is e)) g.0, subst (λ k. AllBegin k) (ap (λ k. k.1) (Ok_is e)) g.1)

makes_any : (inside : List ℕ) → Makes WordBegins (any inside)
makes_any inside = record { makes = any_makes inside }

one_makes : (u : Walk) (x : Unit {0}) (r : Walk) → AllBegin u → pass_one u ≡ Ok (x, r) → Unit {0} × AllBegin r
one_makes (finished p) x r g e = (tt, subst (λ k. AllBegin k) (ap (λ k. k.1) (Ok_is e)) g)
one_makes (open_quote p) x r g e = absurd (not_Ok e)
one_makes (word_then w u) x r g e = (tt, subst (λ k. AllBegin k) (ap (λ k. k.1) (Ok_is e)) g.1)

makes_one : Makes Free pass_one
makes_one = record { makes = one_makes }

choose_makes : {A : Type 0} (C : A → Type 0) (b : Bool) (y n : Result (A × Walk) LefFault) (x : A) (r : Walk) → (y ≡ Ok (x, r) → C x × AllBegin r) → (n ≡ Ok (x, r) → C x × AllBegin r) → (if b then y else n) ≡ Ok (x, r) → C x × AllBegin r
choose_makes C true y n x r first second e = first e
choose_makes C false y n x r first second e = second e

makes_choose : {A : Type 0} {C : A → Type 0} (f : Token → Bool) {p q : Parser A} → Makes C p → Makes C q → Makes C (choose f p q)
makes_choose {A} {C} f {p} {q} first second = record { makes = λ u x r g e. choose_makes C (begins f u) (p u) (q u) x r (first.makes u x r g) (second.makes u x r g) e }

then_makes : {A B : Type 0} (C : A → Type 0) (D : B → Type 0) (y : Result (A × Walk) LefFault) (f : A → Parser B) (z : B) (r : Walk) →
    ((x : A) (v : Walk) → y ≡ Ok (x, v) → C x × AllBegin v) → ((x : A) → C x → Makes D (f x)) → then_read y f ≡ Ok (z, r) → D z × AllBegin r
then_makes C D (Err k) f z r first second e = absurd (not_Ok e)
then_makes C D (Ok (x, v)) f z r first second e = let one = first x v refl in (second x one.0).makes v z r one.1 e

makes_then : {A B : Type 0} {C : A → Type 0} {D : B → Type 0} {p : Parser A} {f : A → Parser B} → Makes C p → ((x : A) → C x → Makes D (f x)) → Makes D (p >>= f)
makes_then {A} {B} {C} {D} {p} {f} first second = record { makes = λ u z r g e. then_makes C D (p u) f z r (λ x v h. first.makes u x v g h) second e }

makes_next : (inside : List ℕ) (f : Token → Bool) → Makes Free (next inside f)
makes_next inside f = makes_choose f (makes_free (makes_any inside)) (makes_refuse Free inside BadStatement)

makes_word : (inside keyword : List ℕ) → Makes Free (word inside keyword)
makes_word inside keyword = makes_next inside (is_word keyword)

makes_valued_as : {A : Type 0} (inside : List ℕ) (o : Option A) → Makes Free (valued_as inside o)
makes_valued_as inside None = makes_refuse Free inside BadStatement
makes_valued_as inside (Some x) = makes_then (makes_any inside) (λ w t. makes_give Free x tt)

-- ---- lengths

at_most_keeps : (limit : ℕ) (o : Option ℕ) (n : ℕ) → at_most limit o ≡ Some n → nat_le n limit ≡ true
at_most_keeps limit None n e = absurd (cc)
at_most_keeps limit (Some k) n e = go (nat_le k limit) refl e
  where
    go : (b : Bool) → nat_le k limit ≡ b → (if b then Some k else None) ≡ Some n → nat_le n limit ≡ true
    go true is e = let same : k ≡ n = cc in subst (λ z. nat_le z limit ≡ true) same is
    go false is e = absurd (cc)

microns_keep : (w : List ℕ) (n : ℕ) → microns_of w ≡ Some n → nat_le n MAX_MILLIONTHS ≡ true
microns_keep w n e = go (list_any is_ascii_digit w && list_all is_ascii_digit (decimals w)) e
  where
    go : (b : Bool) → (if b then at_most MAX_MILLIONTHS (digits_behind 0 (whole_part w ++ six_of (decimals w))) else None) ≡ Some n → nat_le n MAX_MILLIONTHS ≡ true
    go true e = at_most_keeps MAX_MILLIONTHS (digits_behind 0 (whole_part w ++ six_of (decimals w))) n e
    go false e = absurd (cc)

abbrev KeepsLimit : ℕ → Type 0
KeepsLimit n = nat_le n MAX_MILLIONTHS ≡ true

makes_length_as : (inside : List ℕ) (o : Option ℕ) → ((n : ℕ) → o ≡ Some n → KeepsLimit n) → Makes KeepsLimit (valued_as inside o)
makes_length_as inside None keeps = makes_refuse KeepsLimit inside BadStatement
makes_length_as inside (Some n) keeps = makes_then (makes_any inside) (λ w t. makes_give KeepsLimit n (keeps n refl))

makes_length : (inside : List ℕ) → Makes KeepsLimit (valued inside microns_of)
makes_length inside = record { makes = λ u x r g e. (makes_length_as inside (microns_of (bytes_ahead u)) (microns_keep (bytes_ahead u))).makes u x r g e }

makes_valued : {A : Type 0} (inside : List ℕ) (f : List ℕ → Option A) → Makes Free (valued inside f)
makes_valued inside f = record { makes = λ u x r g e. (makes_valued_as inside (f (bytes_ahead u))).makes u x r g e }

to_makes : (inside : List ℕ) (f : Token → Bool) (u : Walk) (x : Token) (r : Walk) → AllBegin u → pass_to inside f u ≡ Ok (x, r) → Unit {0} × AllBegin r
to_makes inside f (finished p) x r g e = absurd (not_Ok e)
to_makes inside f (open_quote p) x r g e = absurd (not_Ok e)
to_makes inside f (word_then w u) x r g e = go (f w) (to_makes inside f u x r g.1) e
  where
    go : (b : Bool) → (pass_to inside f u ≡ Ok (x, r) → Unit {0} × AllBegin r) → (if b then Ok (w, u) else pass_to inside f u) ≡ Ok (x, r) → Unit {0} × AllBegin r
    go true rec e = (tt, subst (λ k. AllBegin k) (ap (λ k. k.1) (Ok_is e)) g.1)
    go false rec e = rec e

makes_to : (inside : List ℕ) (f : Token → Bool) → Makes Free (pass_to inside f)
makes_to inside f = record { makes = to_makes inside f }

both_makes : (inside : List ℕ) (f h : Token → Bool) (u : Walk) (x : Token) (r : Walk) → AllBegin u → pass_to_both inside f h u ≡ Ok (x, r) → Unit {0} × AllBegin r
both_makes inside f h (finished p) x r g e = absurd (not_Ok e)
both_makes inside f h (open_quote p) x r g e = absurd (not_Ok e)
both_makes inside f h (word_then w u) x r g e = go (f w && begins h u) (both_makes inside f h u x r g.1) e
  where
    go : (b : Bool) → (pass_to_both inside f h u ≡ Ok (x, r) → Unit {0} × AllBegin r) → (if b then any inside u else pass_to_both inside f h u) ≡ Ok (x, r) → Unit {0} × AllBegin r
    go true rec e = (tt, (any_makes inside u x r g.1 e).1)
    go false rec e = rec e

makes_block : (block : List ℕ) → Makes Free (pass_block block)
makes_block block = record { makes = both_makes block (is_word (codes "END")) (is_word block) }

-- a name that a text can have
abbrev NameCan : Token → Type 0
NameCan w = can_name w.bytes ≡ true

new_makes : (inside : List ℕ) (known : List ℕ → Bool) (full : Bool) (u : Walk) (x : Token) (r : Walk) → AllBegin u → new_name inside known full u ≡ Ok (x, r) → NameCan x × AllBegin r
new_makes inside known full (finished p) x r g e = absurd (not_Ok e)
new_makes inside known full (open_quote p) x r g e = absurd (not_Ok e)
new_makes inside known full (word_then w u) x r g e = go (is_name w) refl (known w.bytes) full e
  where
    go : (i : Bool) → is_name w ≡ i → (k f : Bool) →
        (if i then (if k then refuse inside TwiceNamed else if f then refuse inside TooManyMasters else any inside) (word_then w u) else refuse inside BadStatement (word_then w u)) ≡ Ok (x, r) → NameCan x × AllBegin r
    go false is k f e = absurd (not_Ok e)
    go true is true f e = absurd (not_Ok e)
    go true is false true e = absurd (not_Ok e)
    go true is false false e = (subst (λ (k : Token). NameCan k) (ap (λ k. k.0) (Ok_is e)) (name_can w g.0 is), subst (λ k. AllBegin k) (ap (λ k. k.1) (Ok_is e)) g.1)

makes_new : (inside : List ℕ) (known : List ℕ → Bool) (full : Bool) → Makes NameCan (new_name inside known full)
makes_new inside known full = record { makes = new_makes inside known full }

-- ---- statements one after another

-- a statement that passes a test, or none
abbrev Passes : {A : Type 0} → (A → Bool) → Option A → Type 0
Passes c None = Unit {0}
Passes c (Some x) = c x ≡ true

passes_unless : {A : Type 0} (c : A → Bool) (x : A) → c x ≡ true → (ended : Bool) → Passes c (unless_ended x ended)
passes_unless c x passes true = tt
passes_unless c x passes false = passes

all_push : {A : Type 0} (c : A → Bool) (xs : List A) (x : A) → list_all c xs ≡ true → c x ≡ true → list_all c (xs ++ x ∷ []) ≡ true
all_push c xs x all one = list_all-append c xs (x ∷ []) ∙ both (list_all c xs) (c x && true) all (both (c x) true one refl)

abbrev AllPassing : {A : Type 0} → (A → Bool) → List A → Type 0
AllPassing c xs = list_all c xs ≡ true

makes_more : {A : Type 0} (c : A → Bool) (more : List A → Parser (List A)) (xs : List A) → list_all c xs ≡ true → ((x : A) → c x ≡ true → Makes (AllPassing c) (more (xs ++ x ∷ []))) → (o : Option A) → Passes c o → Makes (AllPassing c) (then_more more xs o)
makes_more c more xs all rec None passes = makes_give (AllPassing c) xs all
makes_more c more xs all rec (Some x) passes = rec x passes

makes_for : {A : Type 0} (c : A → Bool) (inside : List ℕ) (item : List A → Parser (Option A)) → ((xs : List A) → Makes (Passes c) (item xs)) → (n : ℕ) (xs : List A) → list_all c xs ≡ true → Makes (AllPassing c) (many_for n inside item xs)
makes_for c inside item one zero xs all = record { makes = λ u z r g e. absurd (not_Ok e) }
makes_for c inside item one (suc n) xs all = record {
  makes = λ u z r g e. then_makes (Passes c) (AllPassing c) (item xs u) (then_more (many_for n inside item) xs) z r (λ x v h. (one xs).makes u x v g h)
      (makes_more c (many_for n inside item) xs all (λ x passes. makes_for c inside item one n (xs ++ x ∷ []) (all_push c xs x all passes))) e;
}

makes_many : {A : Type 0} (c : A → Bool) (inside : List ℕ) (item : List A → Parser (Option A)) → ((xs : List A) → Makes (Passes c) (item xs)) → Makes (AllPassing c) (many inside item)
makes_many c inside item one = record { makes = λ u z r g e. (makes_for c inside item one (suc (word_count u)) [] refl).makes u z r g e }

makes_ends : (inside block : List ℕ) → Makes Free (block_ends inside block)
unfolding block_ends
makes_ends inside block =
    makes_then (makes_any inside) (λ w t.
    makes_choose (is_word block) (makes_then (makes_any inside) (λ n t. makes_give Free true tt)) (makes_then makes_one (λ other t. makes_give Free false tt)))

-- ---- in a pin

abbrev always : {A : Type 0} → A → Bool
always x = true

makes_dir : (inside : List ℕ) → Makes Free (dir inside)
unfolding output plain_dir
makes_dir inside =
    makes_choose (is_word (codes "OUTPUT")) (makes_then (makes_any inside) (λ w t. makes_choose (is_word (codes "TRISTATE")) (makes_then (makes_any inside) (λ k t. makes_give Free Output tt)) (makes_give Free Output tt)))
    (makes_choose (is_word (codes "INPUT")) (makes_then (makes_any inside) (λ w t. makes_give Free Input tt))
    (makes_choose (is_one_of (codes "INOUT" ∷ codes "FEEDTHRU" ∷ [])) (makes_then (makes_any inside) (λ w t. makes_give Free Inout tt))
    (makes_refuse Free inside BadStatement)))

makes_direction : (inside : List ℕ) → Makes (Passes always) (direction inside)
unfolding direction
makes_direction inside = makes_then (makes_any inside) (λ h t. makes_then (makes_dir inside) (λ d t. makes_then (makes_word inside (codes ";")) (λ e t. makes_give (Passes always) (Some (Directed d)) refl)))

makes_plain_use : (inside : List ℕ) → Makes Free (plain_use inside)
unfolding plain_use
makes_plain_use inside = makes_then (makes_to inside (is_word (codes ";"))) (λ e t. makes_give Free false tt)

makes_use_said : (inside : List ℕ) → Makes Free (use_said inside)
unfolding supply_use
makes_use_said inside =
    makes_choose (is_one_of (codes "POWER" ∷ codes "GROUND" ∷ []))
    (makes_then (makes_any inside) (λ w t. makes_choose (is_word (codes ";")) (makes_then (makes_any inside) (λ e t. makes_give Free true tt)) (makes_plain_use inside)))
    (makes_plain_use inside)

makes_use : (inside : List ℕ) → Makes (Passes always) (pin_use inside)
unfolding pin_use
makes_use inside = makes_then (makes_any inside) (λ h t. makes_then (makes_use_said inside) (λ s t. makes_give (Passes always) (Some (Used s)) refl))

makes_passed_in_pin : (inside keyword : List ℕ) → Makes (Passes always) (passed_in_pin inside keyword)
unfolding passed_in_pin
makes_passed_in_pin inside keyword = makes_then (makes_to inside (is_word keyword)) (λ e t. makes_give (Passes always) (Some OtherInPin) refl)

makes_pin_end : (inside : List ℕ) → Makes (Passes always) (pin_end inside)
unfolding pin_end
makes_pin_end inside = makes_then (makes_ends inside inside) (λ ended t. makes_give (Passes always) (unless_ended OtherInPin ended) (passes_unless always OtherInPin refl ended))

makes_pin_statement : (inside : List ℕ) → Makes (Passes always) (pin_statement inside)
unfolding pin_statement
makes_pin_statement inside =
    makes_choose (is_word (codes "END")) (makes_pin_end inside)
    (makes_choose (is_word (codes "DIRECTION")) (makes_direction inside)
    (makes_choose (is_word (codes "USE")) (makes_use inside)
    (makes_choose (is_word (codes "PORT")) (makes_passed_in_pin inside (codes "END"))
    (makes_passed_in_pin inside (codes ";")))))

makes_pin_body : (inside : List ℕ) → Makes Free (pin_body inside)
makes_pin_body inside = makes_then (makes_many always inside (λ before. pin_statement inside) (λ before. makes_pin_statement inside)) (λ ss t. makes_give Free (pin_said ss) tt)

-- ---- in a macro

-- a pin's name is a word, and a size keeps the limit
abbrev named_pin : MacroStatement → Bool
named_pin (Sized z) = keeps_limit z
named_pin (Pinned p) = can_name p.name
named_pin OtherInMacro = true

makes_pin : (inside : List ℕ) (known : List ℕ → Bool) → Makes (Passes named_pin) (pin inside known)
unfolding pin
makes_pin inside known =
    makes_then (makes_any inside) (λ h t. makes_then (makes_new inside known false) (λ n can. makes_then (makes_pin_body n.bytes) (λ b t. makes_give (Passes named_pin) (Some (Pinned (pin_of n.bytes b))) can)))

makes_size : (inside : List ℕ) → Makes (Passes named_pin) (size inside)
unfolding size
makes_size inside =
    makes_then (makes_any inside) (λ h t. makes_then (makes_length inside) (λ width wide. makes_then (makes_word inside (codes "BY")) (λ b t.
    makes_then (makes_length inside) (λ height high. makes_then (makes_word inside (codes ";")) (λ e t.
    makes_give (Passes named_pin) (Some (Sized (record { width = width; height = height }))) (both (nat_le width MAX_MILLIONTHS) (nat_le height MAX_MILLIONTHS) wide high))))))

makes_passed_in_macro : (inside keyword : List ℕ) → Makes (Passes named_pin) (passed_in_macro inside keyword)
unfolding passed_in_macro
makes_passed_in_macro inside keyword = makes_then (makes_to inside (is_word keyword)) (λ e t. makes_give (Passes named_pin) (Some OtherInMacro) refl)

makes_macro_end : (inside : List ℕ) → Makes (Passes named_pin) (macro_end inside)
unfolding macro_end
makes_macro_end inside = makes_then (makes_ends inside inside) (λ ended t. makes_give (Passes named_pin) (unless_ended OtherInMacro ended) (passes_unless named_pin OtherInMacro refl ended))

makes_macro_statement : (inside : List ℕ) (known : List ℕ → Bool) → Makes (Passes named_pin) (macro_statement_new inside known)
unfolding macro_statement_new
makes_macro_statement inside known =
    makes_choose (is_word (codes "END")) (makes_macro_end inside)
    (makes_choose (is_word (codes "SIZE")) (makes_size inside)
    (makes_choose (is_word (codes "PIN")) (makes_pin inside known)
    (makes_choose (is_one_of (codes "OBS" ∷ codes "DENSITY" ∷ [])) (makes_passed_in_macro inside (codes "END"))
    (makes_passed_in_macro inside (codes ";")))))

pins_named : (ss : List MacroStatement) → list_all named_pin ss ≡ true → list_all (λ p. can_name p.name) (pins_of ss) ≡ true
pins_named [] all = refl
pins_named (Sized z ∷ ss) all = pins_named ss (and_parts (keeps_limit z) (list_all named_pin ss) all).1
pins_named (Pinned p ∷ ss) all = let parts = and_parts (can_name p.name) (list_all named_pin ss) all in both (can_name p.name) (list_all (λ p. can_name p.name) (pins_of ss)) parts.0 (pins_named ss parts.1)
pins_named (OtherInMacro ∷ ss) all = pins_named ss all

size_keeps : (ss : List MacroStatement) → list_all named_pin ss ≡ true → keeps_limit (unwrap_or (first_some (map size_said ss)) no_size) ≡ true
size_keeps [] all = refl
size_keeps (Sized z ∷ ss) all = (and_parts (keeps_limit z) (list_all named_pin ss) all).0
size_keeps (Pinned p ∷ ss) all = size_keeps ss (and_parts (can_name p.name) (list_all named_pin ss) all).1
size_keeps (OtherInMacro ∷ ss) all = size_keeps ss all

abbrev GoodBody : MacroBody → Type 0
GoodBody b = (list_all (λ p. can_name p.name) b.pins ≡ true) × (keeps_limit (unwrap_or b.size no_size) ≡ true)

makes_macro_body : (inside : List ℕ) → Makes GoodBody (macro_body inside)
makes_macro_body inside =
    makes_then (makes_many named_pin inside (macro_statement inside) (λ before. makes_macro_statement inside (is_among (pin_names (pins_of before)))))
    (λ ss all. makes_give GoodBody (macro_said ss) (pins_named ss all, size_keeps ss all))

-- ---- at the library level

abbrev is_good : Master → Bool
is_good m = are_words m && keeps_limit (size_of m)

-- a master's name and its pins' names are words, and its size keeps the limit
abbrev named_master : LibraryStatement → Bool
named_master (Defined m) = is_good m
named_master OtherInLibrary = true

makes_defined : (heading : List ℕ) (known : List ℕ → Bool) (full : Bool) → Makes (Passes named_master) (defined heading known full)
unfolding defined
makes_defined heading known full =
    makes_then (makes_any heading) (λ h t. makes_then (makes_new heading known full) (λ n can. makes_then (makes_macro_body n.bytes) (λ b good.
    makes_give (Passes named_master) (Some (Defined (master_of n.bytes b)))
    (both (can_name n.bytes && list_all (λ p. can_name p.name) b.pins) (keeps_limit (unwrap_or b.size no_size)) (both (can_name n.bytes) (list_all (λ p. can_name p.name) b.pins) can good.0) good.1))))

makes_named_block : (heading : List ℕ) → Makes (Passes named_master) (named_block heading)
unfolding named_block
makes_named_block heading = makes_then (makes_any heading) (λ h t. makes_then (makes_next heading is_name) (λ n t. makes_then (makes_block n.bytes) (λ e t. makes_give (Passes named_master) (Some OtherInLibrary) refl)))

makes_plain_block : (heading : List ℕ) → Makes (Passes named_master) (plain_block heading)
unfolding plain_block
makes_plain_block heading = makes_then (makes_any heading) (λ h t. makes_then (makes_block heading) (λ e t. makes_give (Passes named_master) (Some OtherInLibrary) refl))

makes_passed_in_library : (heading keyword : List ℕ) → Makes (Passes named_master) (passed_in_library heading keyword)
unfolding passed_in_library
makes_passed_in_library heading keyword = makes_then (makes_to heading (is_word keyword)) (λ e t. makes_give (Passes named_master) (Some OtherInLibrary) refl)

makes_library_end : (heading : List ℕ) → Makes (Passes named_master) (library_end heading)
unfolding library_end
makes_library_end heading = makes_then (makes_ends heading (codes "LIBRARY")) (λ ended t. makes_give (Passes named_master) (unless_ended OtherInLibrary ended) (passes_unless named_master OtherInLibrary refl ended))

makes_under : (heading : List ℕ) (known : List ℕ → Bool) (full : Bool) → Makes (Passes named_master) (statement_under heading known full)
unfolding statement_under
makes_under heading known full =
    makes_choose (is_word (codes "END")) (makes_library_end heading)
    (makes_choose (is_word (codes "MACRO")) (makes_defined heading known full)
    (makes_choose (is_one_of named_blocks) (makes_named_block heading)
    (makes_choose (is_one_of plain_blocks) (makes_plain_block heading)
    (makes_choose (is_word (codes "BEGINEXT")) (makes_passed_in_library heading (codes "ENDEXT"))
    (makes_choose (is_word (codes "ARRAY")) (makes_refuse (Passes named_master) heading ArrayBlock)
    (makes_passed_in_library heading (codes ";")))))))

statement_makes : (known : List ℕ → Bool) (full : Bool) (u : Walk) (x : Option LibraryStatement) (r : Walk) → AllBegin u → library_statement_new known full u ≡ Ok (x, r) → Passes named_master x × AllBegin r
statement_makes known full (finished p) x r g e = (subst (λ k. Passes named_master k) (ap (λ k. k.0) (Ok_is e)) tt, subst (λ k. AllBegin k) (ap (λ k. k.1) (Ok_is e)) g)
statement_makes known full (open_quote p) x r g e = absurd (not_Ok e)
statement_makes known full (word_then w u) x r g e = (makes_under w.bytes known full).makes (word_then w u) x r g e

masters_named : (ss : List LibraryStatement) → list_all named_master ss ≡ true → list_all is_good (masters_of ss) ≡ true
masters_named [] all = refl
masters_named (Defined m ∷ ss) all = let parts = and_parts (is_good m) (list_all named_master ss) all in both (is_good m) (list_all is_good (masters_of ss)) parts.0 (masters_named ss parts.1)
masters_named (OtherInLibrary ∷ ss) all = masters_named ss all

makes_masters : (full : ℕ → Bool) → Makes (AllPassing is_good) (masters full)
makes_masters full =
    makes_then (makes_many named_master [] (library_statement full) (λ before. record { makes = statement_makes (is_among (names_of (masters_of before))) (full (length (masters_of before))) }))
    (λ ss all. makes_give (AllPassing is_good) (masters_of ss) (masters_named ss all))

read_good : (text : List ℕ) (ms : List Master) → library_of text ≡ Ok ms → list_all is_good ms ≡ true
read_good text ms is = go (masters (λ n. false) (walk_of text)) refl is
  where
    go : (r : Result (List Master × Walk) LefFault) → masters (λ n. false) (walk_of text) ≡ r → value_read r ≡ Ok ms → list_all is_good ms ≡ true
    go (Err e) at is = absurd (cc)
    go (Ok (read, v)) at is =
        let same : read ≡ ms = cc in
        subst (λ k. list_all is_good k ≡ true) same ((makes_masters (λ n. false)).makes (walk_of text) read v (words_begin text between 0 tt) at).0

all_parts : (ms : List Master) → list_all is_good ms ≡ true → (list_all are_words ms ≡ true) × KeepSizes ms
all_parts [] all = (refl, refl)
all_parts (m ∷ ms) all =
    let parts = and_parts (is_good m) (list_all is_good ms) all in
    let one = and_parts (are_words m) (keeps_limit (size_of m)) parts.0 in
    let rest = all_parts ms parts.1 in
    (both (are_words m) (list_all are_words ms) one.0 rest.0, both (keeps_limit (size_of m)) (list_all (λ m. keeps_limit (size_of m)) ms) one.1 rest.1)

pub read_names : NamesAreWords
read_names text ms is = (all_parts ms (read_good text ms is)).0

pub read_sizes : (text : List ℕ) (ms : List Master) → library_of text ≡ Ok ms → KeepSizes ms
read_sizes text ms is = (all_parts ms (read_good text ms is)).1
