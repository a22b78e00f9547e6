-- Pins that come to nets, and names of statements.
use Rattle.std.specs.Str.{bytes_eq}
use Rattle.std.specs.List.{list_any, filter}
use Rattle.std.specs.Option.{option_map_or}
use Rattle.std.specs.Ordering.{nat_cmp}
use Rattle.std.specs.Borrow.{Bor}
use Rattle.std.specs.Global.{Global}
use Rattle.std.specs.BTreeMap.{BTreeMap, get_by}
use Rattle.std.specs.Cmp.Lexicographic.{slice_cmp}
use Rattle.std.proofs.Common.{◌≡◌, ℕ, ◌+◌, ◌<◌, Bool, true, false, not, ◌&&◌, ◌||◌, List, [], ◌∷◌, ◌++◌, length, map, take, get_or, refl, ap, sym, ◌∙◌, if◌then◌else◌, Vec, append-nil, append_assoc, Some, cond}
use Rattle.std.proofs.lemmas.List.{take_more, map-append}
use Rattle.std.proofs.lemmas.List.Elements.{filter-append}
use Rattle.std.proofs.lemmas.List.Folds.{list_any-append}
use Rattle.eco_def.specs.declared.design.NetStatement.{NetStatement}
use Rattle.eco_def.specs.declared.design.TopPin.{TopPin}
use Rattle.eco_overlay.specs.declared.pin_move.PinMove.{PinMove}
use Rattle.eco_text.specs.Cursor.{word_bytes}
use Rattle.eco_overlay.specs.PinMoves.{tops_net}
use Rattle.eco_issued_laws.specs.Changes.{is_nil, once_each}
use Rattle.eco_overlay.specs.NetChanges.{coming, moves_on, is_statement_of, nets_first_stated}
use Rattle.std.proofs.lemmas.Slice.Eq.{bytes_eq-Decides}
use Rattle.eco_overlay.proofs.Orders.{eq_sym}

-- one move more
pub coming_more : (ms : List PinMove) (i : ℕ) (d : PinMove) (net : List ℕ) → i < length ms → coming (take i ms) net ++ coming (get_or ms i d ∷ []) net ≡ coming (take (i + 1) ms) net
coming_more ms i d net lt =
    sym (filter-append (λ m. bytes_eq net m.net.now && not m.stands) (take i ms) (get_or ms i d ∷ [])) ∙ ap (λ ns. coming ns net) (sym (take_more ms i d lt))

-- ---- names of statements

or_none : (k : Bool) → k ≡ (k || false)
or_none true = refl
or_none false = refl

or_if : (a b : Bool) → (if a then true else b) ≡ (b || a)
or_if true true = refl
or_if true false = refl
or_if false true = refl
or_if false false = refl

true_false : {A : Type 0} → true ≡ false → A
true_false e = cc

-- a statement whose net gets no pin names no net that gets one
pub no_statement : (added : BTreeMap (Bor (List ℕ)) (Vec PinMove Global)) (name net : List ℕ) (gate known : Bool) → (gate && not (is_nil (moves_on added name))) ≡ false → is_nil (moves_on added net) ≡ false →
    known ≡ (known || (gate && bytes_eq name net))
no_statement added name net false known off gets = or_none known
no_statement added name net true known off gets = at (bytes_eq name net) refl
  where
    at : (b : Bool) → bytes_eq name net ≡ b → known ≡ (known || b)
    at true e = let same : name ≡ net = (bytes_eq-Decides name net).0 e in let apart : true ≡ false = sym (ap not gets) ∙ sym (ap (λ n. not (is_nil (moves_on added n))) same) ∙ off in true_false apart
    at false e = or_none known

gate_on : (a b : Bool) → (a && b) ≡ true → a ≡ true
gate_on true b e = refl
gate_on false b e = cc

pub one_statement : (name net : List ℕ) (gate pins now old : Bool) → (gate && pins) ≡ true → now ≡ (if bytes_eq name net then true else old) → now ≡ (old || (gate && bytes_eq name net))
one_statement name net gate pins now old on is = is ∙ or_if (bytes_eq name net) old ∙ ap (λ b. old || (b && bytes_eq name net)) (sym (gate_on gate pins on))

-- one statement more
pub stated_more : (text : List ℕ) (either : Bool) (net : List ℕ) (ss : List NetStatement) (i : ℕ) (s : NetStatement) (now old : Bool) → i < length ss → s ≡ get_or ss i s →
    old ≡ list_any (is_statement_of text either net) (take i ss) → now ≡ (old || is_statement_of text either net s) → now ≡ list_any (is_statement_of text either net) (take (i + 1) ss)
stated_more text either net ss i s now old lt at before is =
    is ∙ ap (λ b. b || is_statement_of text either net s) before ∙ ap (λ b. list_any (is_statement_of text either net) (take i ss) || b) (or_none (is_statement_of text either net s))
    ∙ sym (list_any-append (is_statement_of text either net) (take i ss) (s ∷ [])) ∙ ap (λ t. list_any (is_statement_of text either net) (take i ss ++ t ∷ [])) at
    ∙ ap (list_any (is_statement_of text either net)) (sym (take_more ss i s lt))

-- ---- names that stand once

abbrev is_known : List (List ℕ) → List ℕ → Bool
is_known ns m = list_any (λ n. bytes_eq n m) ns

keeps_other : (n m : List ℕ) (b : Bool) → bytes_eq n m ≡ b → filter (λ k. not (bytes_eq k n)) (m ∷ []) ≡ (if b then [] else m ∷ [])
keeps_other n m true e = ap (λ c. if not c then m ∷ [] else []) (eq_sym m n ∙ e)
keeps_other n m false e = ap (λ c. if not c then m ∷ [] else []) (eq_sym m n ∙ e)

once_behind : (n m : List ℕ) (ks : List (List ℕ)) (known same : Bool) → bytes_eq n m ≡ same →
    n ∷ filter (λ k. not (bytes_eq k n)) (if known then ks else ks ++ m ∷ []) ≡ (if same || known then n ∷ filter (λ k. not (bytes_eq k n)) ks else (n ∷ filter (λ k. not (bytes_eq k n)) ks) ++ m ∷ [])
once_behind n m ks true true e = refl
once_behind n m ks true false e = refl
once_behind n m ks false true e = ap (λ ts. n ∷ ts) (filter-append (λ k. not (bytes_eq k n)) ks (m ∷ []) ∙ ap (λ ts. filter (λ k. not (bytes_eq k n)) ks ++ ts) (keeps_other n m true e) ∙ append-nil (filter (λ k. not (bytes_eq k n)) ks))
once_behind n m ks false false e = ap (λ ts. n ∷ ts) (filter-append (λ k. not (bytes_eq k n)) ks (m ∷ []) ∙ ap (λ ts. filter (λ k. not (bytes_eq k n)) ks ++ ts) (keeps_other n m false e))

once_more : (ns : List (List ℕ)) (m : List ℕ) → once_each (ns ++ m ∷ []) ≡ (if is_known ns m then once_each ns else once_each ns ++ m ∷ [])
once_more [] m = refl
once_more (n ∷ ns) m = ap (λ ks. n ∷ filter (λ k. not (bytes_eq k n)) ks) (once_more ns m) ∙ once_behind n m (once_each ns) (is_known ns m) (bytes_eq n m) refl

-- one name more, of which those that pass a test are kept
pub first_more : (p : List ℕ → Bool) (ns : List (List ℕ)) (m : List ℕ) (b : Bool) → b ≡ (p m && not (is_known ns m)) → filter p (once_each (ns ++ m ∷ [])) ≡ filter p (once_each ns) ++ (if b then m ∷ [] else [])
first_more p ns m b is = ap (filter p) (once_more ns m) ∙ at (is_known ns m) refl
  where
    kept : (q : Bool) → p m ≡ q → filter p (m ∷ []) ≡ (if q then m ∷ [] else [])
    kept true e = ap (λ c. if c then m ∷ [] else []) e
    kept false e = ap (λ c. if c then m ∷ [] else []) e

    and_false : (c : Bool) → (c && false) ≡ false
    and_false true = refl
    and_false false = refl

    and_true : (c : Bool) → (c && true) ≡ c
    and_true true = refl
    and_true false = refl

    at : (known : Bool) → is_known ns m ≡ known → filter p (if known then once_each ns else once_each ns ++ m ∷ []) ≡ filter p (once_each ns) ++ (if b then m ∷ [] else [])
    at true e = sym (append-nil (filter p (once_each ns))) ∙ ap (λ c. filter p (once_each ns) ++ (if c then m ∷ [] else [])) (sym (is ∙ ap (λ k. p m && not k) e ∙ and_false (p m)))
    at false e = filter-append p (once_each ns) (m ∷ []) ∙ ap (λ ts. filter p (once_each ns) ++ ts) (kept (p m) refl ∙ ap (λ c. if c then m ∷ [] else []) (sym (is ∙ ap (λ k. p m && not k) e ∙ and_true (p m))))

-- ---- the nets of top pins

pub list_any-map : {A B : Type 0} (p : B → Bool) (g : A → B) (xs : List A) → list_any p (map g xs) ≡ list_any (λ x. p (g x)) xs
list_any-map p g [] = refl
list_any-map p g (x ∷ xs) = ap (λ b. p (g x) || b) (list_any-map p g xs)

tops_are : (text : List ℕ) (net : List ℕ) (ps : List TopPin) → is_known (map (λ p. word_bytes text p.net) ps) net ≡ tops_net text net ps
tops_are text net ps = list_any-map (λ n. bytes_eq n net) (λ (p : TopPin). word_bytes text p.net) ps

tops_more : (text : List ℕ) (net : List ℕ) (ps : List TopPin) (i : ℕ) (d : TopPin) → i < length ps → tops_net text net (take (i + 1) ps) ≡ (tops_net text net (take i ps) || (bytes_eq (word_bytes text (get_or ps i d).net) net || false))
tops_more text net ps i d lt = ap (tops_net text net) (take_more ps i d lt) ∙ list_any-append (λ p. bytes_eq (word_bytes text p.net) net) (take i ps) (get_or ps i d ∷ [])

is_new : (gets known s t b : Bool) → b ≡ (gets && not known) → (gets ≡ true → known ≡ (s || t)) → b ≡ ((not s && gets) && not t)
is_new false known true t b is at = is
is_new false known false t b is at = is
is_new true known true t b is at = is ∙ ap not (at refl)
is_new true known false t b is at = is ∙ ap not (at refl)

or_true : (s t : Bool) → true ≡ (s || (t || true))
or_true true t = refl
or_true false true = refl
or_true false false = refl

or_off : (s t : Bool) → (s || t) ≡ (s || (t || false))
or_off true t = refl
or_off false true = refl
or_off false false = refl

gets_is : (b : Bool) → not b ≡ true → b ≡ false
gets_is true e = cc
gets_is false e = refl

-- the names that are known of nets that get a pin: those with a statement or a top pin
abbrev pub KnowsFirst : List ℕ → BTreeMap (Bor (List ℕ)) (Vec PinMove Global) → List NetStatement → List TopPin → (List ℕ → Bool) → Type 0
KnowsFirst text added ss ps known = (net : List ℕ) → is_nil (moves_on added net) ≡ false → known net ≡ (list_any (is_statement_of text true net) ss || tops_net text net ps)

known_more : (text : List ℕ) (added : BTreeMap (Bor (List ℕ)) (Vec PinMove Global)) (ss : List NetStatement) (ps : List TopPin) (i : ℕ) (d : TopPin) (old new : List ℕ → Bool) → i < length ps →
    KnowsFirst text added ss (take i ps) old →
    ((q : List ℕ) → new q ≡ (if (not (is_nil (moves_on added (word_bytes text (get_or ps i d).net))) && bytes_eq (word_bytes text (get_or ps i d).net) q) then true else old q)) →
    KnowsFirst text added ss (take (i + 1) ps) new
known_more text added ss ps i d old new lt before adds net gets =
    adds net ∙ at (bytes_eq m net) refl ∙ ap (λ b. list_any (is_statement_of text true net) ss || b) (sym (tops_more text net ps i d lt))
  where
    m : List ℕ
    m = word_bytes text (get_or ps i d).net

    off : (b : Bool) → (if (b && false) then true else old net) ≡ old net
    off true = refl
    off false = refl

    at : (same : Bool) → bytes_eq (word_bytes text (get_or ps i d).net) net ≡ same →
        (if (not (is_nil (moves_on added (word_bytes text (get_or ps i d).net))) && same) then true else old net) ≡ (list_any (is_statement_of text true net) ss || (tops_net text net (take i ps) || (same || false)))
    at true e =
        ap (λ b. if (not b && true) then true else old net) (ap (λ n. is_nil (moves_on added n)) ((bytes_eq-Decides (word_bytes text (get_or ps i d).net) net).0 e) ∙ gets)
        ∙ or_true (list_any (is_statement_of text true net) ss) (tops_net text net (take i ps))
    at false e = off (not (is_nil (moves_on added (word_bytes text (get_or ps i d).net)))) ∙ before net gets ∙ or_off (list_any (is_statement_of text true net) ss) (tops_net text net (take i ps))

-- one top pin more
pub top_more : (text : List ℕ) (added : BTreeMap (Bor (List ℕ)) (Vec PinMove Global)) (ss : List NetStatement) (ps : List TopPin) (i : ℕ) (d : TopPin) (old new : List ℕ → Bool) (base before after : List (List ℕ)) (b : Bool) → i < length ps →
    before ≡ base ++ nets_first_stated text added ss (take i ps) → KnowsFirst text added ss (take i ps) old →
    b ≡ (not (is_nil (moves_on added (word_bytes text (get_or ps i d).net))) && not (old (word_bytes text (get_or ps i d).net))) →
    ((q : List ℕ) → new q ≡ (if (not (is_nil (moves_on added (word_bytes text (get_or ps i d).net))) && bytes_eq (word_bytes text (get_or ps i d).net) q) then true else old q)) →
    after ≡ before ++ (if b then word_bytes text (get_or ps i d).net ∷ [] else []) →
    (after ≡ base ++ nets_first_stated text added ss (take (i + 1) ps)) × KnowsFirst text added ss (take (i + 1) ps) new
top_more text added ss ps i d old new base before after b lt was known is adds now =
    let p : List ℕ → Bool = λ net. not (list_any (is_statement_of text true net) ss) && not (is_nil (moves_on added net)) in
    let names : TopPin → List ℕ = λ t. word_bytes text t.net in
    let m = names (get_or ps i d) in
    let news : b ≡ (p m && not (is_known (map names (take i ps)) m)) =
    is_new (not (is_nil (moves_on added m))) (old m) (list_any (is_statement_of text true m) ss) (tops_net text m (take i ps)) b is (λ g. known m (gets_is (is_nil (moves_on added m)) g))
    ∙ ap (λ t. p m && not t) (sym (tops_are text m (take i ps))) in
    let more : map names (take (i + 1) ps) ≡ map names (take i ps) ++ m ∷ [] = ap (map names) (take_more ps i d lt) ∙ map-append names (take i ps) (get_or ps i d ∷ []) in (
      now ∙ ap (λ ts. ts ++ (if b then m ∷ [] else [])) was ∙ append_assoc base (nets_first_stated text added ss (take i ps)) (if b then m ∷ [] else [])
          ∙ ap (λ ts. base ++ ts) (sym (first_more p (map names (take i ps)) m b news) ∙ ap (λ ns. filter p (once_each ns)) (sym more)),
      known_more text added ss ps i d old new lt known adds,
    )

-- ---- one pin more for its net

pins_put : (new mid : BTreeMap (Bor (List ℕ)) (Vec PinMove Global)) (net q : List ℕ) (pins : Vec PinMove Global) →
    get_by (λ k. slice_cmp nat_cmp q k.now) new ≡ cond (bytes_eq net q) (Some pins) (get_by (λ k. slice_cmp nat_cmp q k.now) mid) → moves_on new q ≡ (if bytes_eq net q then pins.items else moves_on mid q)
pins_put new mid net q pins is = ap (λ o. option_map_or (λ ps. ps.items) o []) is ∙ at (bytes_eq net q)
  where
    at : (b : Bool) → option_map_or (λ ps. ps.items) (cond b (Some pins) (get_by (λ k. slice_cmp nat_cmp q k.now) mid)) [] ≡ (if b then pins.items else moves_on mid q)
    at true = refl
    at false = refl

pub pin_put : (old mid new : BTreeMap (Bor (List ℕ)) (Vec PinMove Global)) (net q : List ℕ) (m : PinMove) (pins : Vec PinMove Global) →
    get_by (λ k. slice_cmp nat_cmp q k.now) new ≡ cond (bytes_eq net q) (Some pins) (get_by (λ k. slice_cmp nat_cmp q k.now) mid) →
    pins.items ≡ moves_on old net ++ m ∷ [] → (bytes_eq net q ≡ false → moves_on mid q ≡ moves_on old q) → moves_on new q ≡ moves_on old q ++ (if bytes_eq q net then m ∷ [] else [])
pin_put old mid new net q m pins is taken others = pins_put new mid net q pins is ∙ at (bytes_eq net q) refl
  where
    at : (b : Bool) → bytes_eq net q ≡ b → (if b then pins.items else moves_on mid q) ≡ moves_on old q ++ (if bytes_eq q net then m ∷ [] else [])
    at true e = taken ∙ ap (λ n. moves_on old n ++ m ∷ []) ((bytes_eq-Decides net q).0 e) ∙ ap (λ b. moves_on old q ++ (if b then m ∷ [] else [])) (sym (eq_sym q net ∙ e))
    at false e = others e ∙ sym (append-nil (moves_on old q)) ∙ ap (λ b. moves_on old q ++ (if b then m ∷ [] else [])) (sym (eq_sym q net ∙ e))
