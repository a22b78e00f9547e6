-- The forms of values: what stands behind an option, and what a list of feeds writes.
use Rattle.std.proofs.Common.{◌≡◌, ℕ, nat_le, zero, suc, ◌-◌, ◌%◌, ◌==◌, ◌<◌, Bool, true, false, not, ◌&&◌, ◌||◌, List, [], ◌∷◌, map, length, get_or, codes, refl, ap, sym, ◌∙◌, subst, if◌then◌else◌, arith}
use Rattle.std.specs.List.{list_all}
use Rattle.std.specs.Str.{bytes_eq}
use Rattle.std.proofs.lemmas.Bool.{eqb-true}
use Rattle.std.proofs.lemmas.Slice.Eq.{bytes_eq-Decides}
use Rattle.eco_embed.specs.declared.feed.Feed.{Feed}
use Rattle.eco_embed.specs.declared.feed.Feed.TheVariants as feed
use Rattle.eco_cli.specs.ApplyCommand.{feed_word}
use Rattle.eco_cli.specs.CommandLine.{Listed, options_in, is_value, has_form, suits, word_at, is_bad, value_of, HasReading}
use Rattle.eco_common.specs.NameBytes.{is_among}
use Rattle.eco_cli.specs.ValueForms.{items_of, is_feed, feed_of, is_feed_list}

first : (b c : Bool) → (b && c) ≡ true → b ≡ true
first true c is = refl
first false c is = is

second : (b c : Bool) → (b && c) ≡ true → c ≡ true
second true c is = is
second false c is = cc

neither : (b c : Bool) → (not b || not c) ≡ false → c ≡ true
neither true true is = refl
neither true false is = sym is
neither false c is = cc

pub all_at : {X : Type 0} (p : X → Bool) (xs : List X) (k : ℕ) (d : X) → k < length xs → list_all p xs ≡ true → p (get_or xs k d) ≡ true
all_at p [] k d lt all = absurd (omega arith)
all_at p (x ∷ xs) zero d lt all = first (p x) (list_all p xs) all
all_at p (x ∷ xs) (suc k) d lt all = all_at p xs k d (omega arith) (second (p x) (list_all p xs) all)

-- a value that isn't bad has the form that its option asks
good_value : (table : List Listed) (ws : List (List ℕ)) (k : ℕ) → k % 2 ≡ 0 → is_bad table ws (suc k) ≡ false → suits table (word_at ws k) (word_at ws (suc k)) ≡ true
good_value table ws k even good =
    let odd : suc k % 2 ≡ 1 = omega arith in
    let behind : suc k - 1 ≡ k = omega arith in
    neither (is_value (word_at ws (suc k))) (suits table (word_at ws k) (word_at ws (suc k))) (rw (odd, behind) at good)

pick : (b others : Bool) (P : List ℕ → Type 0) (v w : List ℕ) → (b ≡ true → P v) → (others ≡ true → P w) → (b || others) ≡ true → P (if b then v else w)
pick true others P v w here there is = here refl
pick false others P v w here there is = there is

value_suits : (table : List Listed) (ws : List (List ℕ)) (option : List ℕ) → ((k : ℕ) → suc k < length ws → k % 2 ≡ 0 → suits table (word_at ws k) (word_at ws (suc k)) ≡ true) → length ws % 2 ≡ 0 →
    is_among (options_in ws) option ≡ true → suits table option (value_of ws option) ≡ true
value_suits table [] option good even stands = cc
value_suits table (o ∷ []) option good even stands = cc
value_suits table (o ∷ v ∷ ws) option good even stands =
    pick (bytes_eq o option) (is_among (options_in ws) option) (λ w. suits table option w ≡ true) v (value_of ws option)
    (λ same. subst (λ name. suits table name v ≡ true) ((bytes_eq-Decides o option).0 same) (good 0 (omega arith) refl))
    (value_suits table ws option (λ k lt still. good (suc (suc k)) (omega arith) (omega (arith, still))) (omega (arith, even)))
    stands

own_form : (same fits : Bool) → same ≡ true → (not same || fits) ≡ true → fits ≡ true
own_form true fits is form = form
own_form false fits is form = cc

-- the value behind each option of the table
pub has_its_form : (table : List Listed) (ws : List (List ℕ)) (k : ℕ) (d : Listed) → k < length table → HasReading table ws → has_form (get_or table k d).kind (value_of ws (get_or table k d).word) ≡ true
has_its_form table ws k d lt read =
    let o = get_or table k d in
    let even : length ws % 2 ≡ 0 = eqb-true (length ws % 2) 0 (first (length ws % 2 == 0) (list_all (λ l. is_among (options_in ws) l.word) table) read.1) in
    let stands = all_at (λ l. is_among (options_in ws) l.word) table k d lt (second (length ws % 2 == 0) (list_all (λ l. is_among (options_in ws) l.word) table) read.1) in
    let fits = value_suits table ws o.word (λ i less still. good_value table ws i still (read.0 (suc i) less)) even stands in
    own_form (bytes_eq o.word o.word) (has_form o.kind (value_of ws o.word)) ((bytes_eq-Decides o.word o.word).1 refl) (all_at (λ l. not (bytes_eq l.word o.word) || has_form l.kind (value_of ws o.word)) table k d lt fits)

-- ---- feeds

either : (b others : Bool) (f g : Feed) (w item : List ℕ) → feed_word f ≡ w → (b ≡ true → w ≡ item) → (others ≡ true → feed_word g ≡ item) → (b || others) ≡ true → feed_word (if b then f else g) ≡ item
either true others f g w item is same more any = is ∙ same refl
either false others f g w item is same more any = more any

last_one : (b : Bool) (item : List ℕ) → (b ≡ true → codes "i5" ≡ item) → (b || false) ≡ true → feed_word (feed.Input 5) ≡ item
last_one true item same any = same refl
last_one false item same any = cc

-- each case of feed_of, one behind another
feed_written : (item : List ℕ) → is_feed item ≡ true → feed_word (feed_of item) ≡ item
feed_written item =
    let same = λ (w : List ℕ) (e : bytes_eq w item ≡ true). (bytes_eq-Decides w item).0 e in
    either (bytes_eq (codes "0") item) (bytes_eq (codes "1") item || (bytes_eq (codes "i0") item || (bytes_eq (codes "i1") item || (bytes_eq (codes "i2") item || (bytes_eq (codes "i3") item || (bytes_eq (codes "i4") item || (bytes_eq (codes "i5") item || false))))))) feed.Zero (if bytes_eq (codes "1") item then feed.One else (if bytes_eq (codes "i0") item then feed.Input 0 else (if bytes_eq (codes "i1") item then feed.Input 1 else (if bytes_eq (codes "i2") item then feed.Input 2 else (if bytes_eq (codes "i3") item then feed.Input 3 else (if bytes_eq (codes "i4") item then feed.Input 4 else (feed.Input 5))))))) (codes "0") item refl (same (codes "0"))
    (either (bytes_eq (codes "1") item) (bytes_eq (codes "i0") item || (bytes_eq (codes "i1") item || (bytes_eq (codes "i2") item || (bytes_eq (codes "i3") item || (bytes_eq (codes "i4") item || (bytes_eq (codes "i5") item || false)))))) feed.One (if bytes_eq (codes "i0") item then feed.Input 0 else (if bytes_eq (codes "i1") item then feed.Input 1 else (if bytes_eq (codes "i2") item then feed.Input 2 else (if bytes_eq (codes "i3") item then feed.Input 3 else (if bytes_eq (codes "i4") item then feed.Input 4 else (feed.Input 5)))))) (codes "1") item refl (same (codes "1"))
    (either (bytes_eq (codes "i0") item) (bytes_eq (codes "i1") item || (bytes_eq (codes "i2") item || (bytes_eq (codes "i3") item || (bytes_eq (codes "i4") item || (bytes_eq (codes "i5") item || false))))) (feed.Input 0) (if bytes_eq (codes "i1") item then feed.Input 1 else (if bytes_eq (codes "i2") item then feed.Input 2 else (if bytes_eq (codes "i3") item then feed.Input 3 else (if bytes_eq (codes "i4") item then feed.Input 4 else (feed.Input 5))))) (codes "i0") item refl (same (codes "i0"))
    (either (bytes_eq (codes "i1") item) (bytes_eq (codes "i2") item || (bytes_eq (codes "i3") item || (bytes_eq (codes "i4") item || (bytes_eq (codes "i5") item || false)))) (feed.Input 1) (if bytes_eq (codes "i2") item then feed.Input 2 else (if bytes_eq (codes "i3") item then feed.Input 3 else (if bytes_eq (codes "i4") item then feed.Input 4 else (feed.Input 5)))) (codes "i1") item refl (same (codes "i1"))
    (either (bytes_eq (codes "i2") item) (bytes_eq (codes "i3") item || (bytes_eq (codes "i4") item || (bytes_eq (codes "i5") item || false))) (feed.Input 2) (if bytes_eq (codes "i3") item then feed.Input 3 else (if bytes_eq (codes "i4") item then feed.Input 4 else (feed.Input 5))) (codes "i2") item refl (same (codes "i2"))
    (either (bytes_eq (codes "i3") item) (bytes_eq (codes "i4") item || (bytes_eq (codes "i5") item || false)) (feed.Input 3) (if bytes_eq (codes "i4") item then feed.Input 4 else (feed.Input 5)) (codes "i3") item refl (same (codes "i3"))
    (either (bytes_eq (codes "i4") item) (bytes_eq (codes "i5") item || false) (feed.Input 4) (feed.Input 5) (codes "i4") item refl (same (codes "i4"))
    (last_one (bytes_eq (codes "i5") item) item (same (codes "i5")))))))))

pub feeds_written : (items : List (List ℕ)) → list_all is_feed items ≡ true → map feed_word (map feed_of items) ≡ items
feeds_written [] all = refl
feeds_written (i ∷ is) all =
    ap (λ w. w ∷ map feed_word (map feed_of is)) (feed_written i (first (is_feed i) (list_all is_feed is) all)) ∙ ap (λ ws. i ∷ ws) (feeds_written is (second (is_feed i) (list_all is_feed is) all))

pub feeds_of_list : (w : List ℕ) → is_feed_list w ≡ true → map feed_word (map feed_of (items_of w)) ≡ items_of w
feeds_of_list w is = feeds_written (items_of w) (first (list_all is_feed (items_of w)) (nat_le (length (items_of w)) 6) is)
