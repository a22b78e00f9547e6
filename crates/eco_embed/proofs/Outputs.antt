-- A master's outputs, one after another.
use Rattle.std.proofs.Common.{◌≡◌, ◌≢◌, ℕ, zero, suc, ◌+◌, ◌-◌, ◌<◌, ◌≤◌, true, ◌&&◌, ◌==◌, IsTrue, nat_le, List, [], ◌∷◌, ◌++◌, length, length-append, length-drop, map, take, drop, get_or, replicate, refl, ap, ◌∙◌, sym, subst, arith, ⊎_elim, Some, slice_get, Ordering, Less, Equal, Greater, nat_cmp}
use Rattle.std.proofs.lemmas.Bool.{and_parts, cases_lt}
use Rattle.std.proofs.Math.Seq.{take-append_seam, drop-append_seam}
use Rattle.std.proofs.lemmas.List.{map-append, take-append-drop, length-take-le, length-replicate, length-map}
use Rattle.std.specs.List.{list_all}
use Rattle.std.proofs.lemmas.Bool.Decides.{nat_tests}
use Rattle.std.specs.Ordering.{ordering_then}
use Rattle.std.specs.Cmp.Lexicographic.{slice_cmp}
use Rattle.eco_func.specs.declared.output.OutputFn.{OutputFn}
use Rattle.eco_func.specs.Tables.{TruthTable}
use Rattle.eco_func.specs.Masters.{MasterTables, is_master, all_differ, pins as all_pins}
use Rattle.eco_embed.specs.declared.feed.Feed.{Feed}
use Rattle.eco_embed.specs.declared.feed.Feed.TheVariants.{Zero, One, Input}
use Rattle.eco_embed.specs.declared.embedding.Embedding.{Embedding}
use Rattle.eco_embed.specs.Feeds.{is_zero, rank}
use Rattle.eco_embed.specs.Embeddings.{Embeds, Serves, IsFirst, FirstServing, ServesNone, feeds_of}
use Rattle.eco_embed.proofs.Searching.{head_less, head_same}

-- no embedding takes an output before this one
pub record NoneBefore (want : TruthTable) (master : MasterTables) (output : ℕ) : Type 0 where
  pub none : (e : Embedding) → e.output < output → Embeds want master e → ⊥

pub none_before : (want : TruthTable) (master : MasterTables) → NoneBefore want master 0
none_before want master = record { none = λ e h. absurd (omega arith) }

-- ---- places past the pins

zero_ranks : (xs : List Feed) → list_all is_zero xs ≡ true → map rank xs ≡ replicate (length xs) 0
zero_ranks [] h = refl
zero_ranks (Zero ∷ xs) h = ap (λ ns. 0 ∷ ns) (zero_ranks xs h)
zero_ranks (One ∷ xs) h = absurd (cc)
zero_ranks (Input i ∷ xs) h = absurd (cc)

all_zero : (n : ℕ) → list_all is_zero (replicate n Zero) ≡ true
all_zero zero = refl
all_zero (suc n) = all_zero n

-- ---- order of pins with what stands past them

cmp_itself : (xs : List ℕ) → slice_cmp nat_cmp xs xs ≢ Greater
cmp_itself [] h = absurd (cc)
cmp_itself (x ∷ xs) h = head_same x xs xs (cmp_itself xs) h

then_later : (o p q : Ordering) → (p ≢ Greater → q ≢ Greater) → ordering_then o p ≢ Greater → ordering_then o q ≢ Greater
then_later Less p q f h = h
then_later Equal p q f h = f h
then_later Greater p q f h = h

with_tails : (a b c d : List ℕ) → length a ≡ length b → c ≡ d → slice_cmp nat_cmp a b ≢ Greater → slice_cmp nat_cmp (a ++ c) (b ++ d) ≢ Greater
with_tails [] [] c d n e h = subst (λ d. slice_cmp nat_cmp c d ≢ Greater) e (cmp_itself c)
with_tails [] (y ∷ b) c d n e h = absurd (omega arith)
with_tails (x ∷ a) [] c d n e h = absurd (omega arith)
with_tails (x ∷ a) (y ∷ b) c d n e h =
    then_later (nat_cmp x y) (slice_cmp nat_cmp a b) (slice_cmp nat_cmp (a ++ c) (b ++ d)) (with_tails a b c d (omega arith) e) h

-- ---- an output whose first feeds are known

module _ (want : TruthTable) (master : MasterTables) (output : ℕ) (chosen : OutputFn) (is : slice_get master.outputs output ≡ Some chosen)
    (few : length master.inputs ≤ 6) (count : chosen.table.inputs ≡ length master.inputs) where
  -- an embedding in this output has feeds that serve
  served : (e : Embedding) → e.output ≡ output → (m : Embeds want master e) → Serves want chosen.table (feeds_of master e)
  served e at m =
      let same : m.chosen ≡ chosen = same_some m.chosen chosen (sym m.is_output ∙ ap (slice_get master.outputs) at ∙ is) in
      subst (λ o. Serves want o.table (feeds_of master e)) same m.serves
    where
      same_some : (a b : OutputFn) → Some a ≡ Some b → a ≡ b
      same_some a b h = cc

  feeds_count : (e : Embedding) → Embeds want master e → length (feeds_of master e) ≡ chosen.table.inputs
  feeds_count e m = length-take-le (length master.inputs) e.pins (let n = m.places in omega arith) ∙ sym count

  -- an output in which nothing serves has no embedding
  pub none_more : NoneBefore want master output → ServesNone want chosen.table → NoneBefore want master (output + 1)
  none_more t none = record {
    none = λ e h m.
        ⊎_elim (λ less. t.none e less m)
        (λ most. let at : e.output ≡ output = omega arith in none (feeds_of master e) (feeds_count e m) (served e at m))
        (cases_lt e.output output);
  }

  module _ (t : NoneBefore want master output) (pins : List Feed) (r : FirstServing want chosen.table pins) where
    front : take (length master.inputs) pins ≡ r.feeds
    front = ap (take (length master.inputs)) r.shape ∙ ap (λ k. take k (r.feeds ++ replicate (6 - chosen.table.inputs) Zero)) (sym (r.count ∙ count)) ∙ take-append_seam r.feeds (replicate (6 - chosen.table.inputs) Zero)

    back : drop (length master.inputs) pins ≡ replicate (6 - chosen.table.inputs) Zero
    back = ap (drop (length master.inputs)) r.shape ∙ ap (λ k. drop k (r.feeds ++ replicate (6 - chosen.table.inputs) Zero)) (sym (r.count ∙ count)) ∙ drop-append_seam r.feeds (replicate (6 - chosen.table.inputs) Zero)

    places : length pins ≡ 6
    places = ap length r.shape ∙ length-append r.feeds (replicate (6 - chosen.table.inputs) Zero) ∙ (let a = length-replicate (6 - chosen.table.inputs) Zero in let b = r.count in omega (arith, few, count))

    embeds : Embeds want master (record { output = output; pins = pins })
    embeds = record {
      places = places;
      chosen = chosen;
      is_output = is;
      serves = subst (Serves want chosen.table) (sym front) r.serves;
      past = ap (list_all is_zero) back ∙ all_zero (6 - chosen.table.inputs);
    }

    -- the ranks of an embedding's places
    ranks : (e : Embedding) → Embeds want master e → map rank e.pins ≡ map rank (feeds_of master e) ++ replicate (6 - length master.inputs) 0
    ranks e m =
        ap (map rank) (sym (take-append-drop (length master.inputs) e.pins))
        ∙ map-append rank (take (length master.inputs) e.pins) (drop (length master.inputs) e.pins)
        ∙ ap (λ ns. map rank (feeds_of master e) ++ ns) (zero_ranks (drop (length master.inputs) e.pins) m.past ∙ ap (λ k. replicate k 0) (length-drop (length master.inputs) e.pins ∙ ap (λ k. k - length master.inputs) m.places))

    in_order : (f : Embedding) → f.output ≡ output → Embeds want master f → slice_cmp nat_cmp (map rank pins) (map rank f.pins) ≢ Greater
    in_order f at m =
        let later : slice_cmp nat_cmp (map rank r.feeds) (map rank (feeds_of master f)) ≢ Greater = r.first (feeds_of master f) (feeds_count f m) (served f at m) in
        let mine_ranks : map rank pins ≡ map rank r.feeds ++ replicate (6 - length master.inputs) 0 =
        ranks (record { output = output; pins = pins }) embeds ∙ ap (λ fs. map rank fs ++ replicate (6 - length master.inputs) 0) front in
        let lengths : length (map rank r.feeds) ≡ length (map rank (feeds_of master f)) =
        length-map r.feeds rank ∙ r.count ∙ sym (feeds_count f m) ∙ sym (length-map (feeds_of master f) rank) in
        let both = with_tails (map rank r.feeds) (map rank (feeds_of master f)) (replicate (6 - length master.inputs) 0) (replicate (6 - length master.inputs) 0) lengths refl later in
        subst (λ x. slice_cmp nat_cmp x (map rank f.pins) ≢ Greater) (sym mine_ranks) (subst (λ y. slice_cmp nat_cmp (map rank r.feeds ++ replicate (6 - length master.inputs) 0) y ≢ Greater) (sym (ranks f m)) both)

    -- the first of all embeddings
    pub is_first : IsFirst want master (record { output = output; pins = pins })
    is_first = record {
      embeds = embeds;
      first = λ f m.
          ⊎_elim (λ less. absurd (t.none f less m))
          (λ most. ⊎_elim (λ more. head_less output f.output (map rank pins) (map rank f.pins) more)
          (λ least.
          let at : f.output ≡ output = omega arith in
          subst (λ o. slice_cmp nat_cmp (output ∷ map rank pins) (o ∷ map rank f.pins) ≢ Greater) (sym at) (head_same output (map rank pins) (map rank f.pins) (in_order f at m)))
          (cases_lt output f.output))
          (cases_lt f.output output);
    }

-- no output is left
pub none_at_all : (want : TruthTable) (master : MasterTables) → NoneBefore want master (length master.outputs) → (e : Embedding) → Embeds want master e → ⊥
none_at_all want master t e m = t.none e (within master.outputs e.output m.chosen m.is_output) m
  where
    within : (os : List OutputFn) (i : ℕ) (o : OutputFn) → slice_get os i ≡ Some o → i < length os
    within [] i o h = absurd (cc)
    within (x ∷ os) zero o h = omega arith
    within (x ∷ os) (suc i) o h = let w = within os i o h in omega arith

-- ---- what makes a master

-- the item at a place
pub item_at : {X : Type 0} (xs : List X) (i : ℕ) (x : X) → i < length xs → x ≡ get_or xs i x → slice_get xs i ≡ Some x
item_at [] i x h e = absurd (omega arith)
item_at (y ∷ xs) zero x h e = ap Some (sym e)
item_at (y ∷ xs) (suc i) x h e = item_at xs i x (omega arith) e

over_at : (n : ℕ) (os : List OutputFn) → list_all (λ o. o.table.inputs == n) os ≡ true → (i : ℕ) (o : OutputFn) → i < length os → o ≡ get_or os i o → o.table.inputs ≡ n
over_at n [] h i o lt e = absurd (omega arith)
over_at n (x ∷ os) h zero o lt e =
    let both = and_parts (x.table.inputs == n) (list_all (λ o. o.table.inputs == n) os) h in
    ap (λ o. o.table.inputs) e ∙ equal x.table.inputs n both.0
  where
    equal : (a b : ℕ) → (a == b) ≡ true → a ≡ b
    equal a b t = grind (arith, nat_tests)
over_at n (x ∷ os) h (suc i) o lt e = over_at n os (and_parts (x.table.inputs == n) (list_all (λ o. o.table.inputs == n) os) h).1 i o (omega arith) e

pub record Parts (inputs : List (List ℕ)) (outputs : List OutputFn) : Type 0 where
  pub few : length inputs ≤ 6
  pub most : length outputs ≤ 8
  pub over : (i : ℕ) (o : OutputFn) → i < length outputs → o ≡ get_or outputs i o → o.table.inputs ≡ length inputs

pub master_parts : (inputs : List (List ℕ)) (outputs : List OutputFn) → IsTrue (is_master inputs outputs) → Parts inputs outputs
master_parts inputs outputs h =
    let a = and_parts (nat_le (length inputs) 6 && nat_le 1 (length outputs) && nat_le (length outputs) 8 && list_all (λ o. o.table.inputs == length inputs) outputs) (all_differ (all_pins inputs outputs)) h in
    let b = and_parts (nat_le (length inputs) 6 && nat_le 1 (length outputs) && nat_le (length outputs) 8) (list_all (λ o. o.table.inputs == length inputs) outputs) a.0 in
    let d = and_parts (nat_le (length inputs) 6 && nat_le 1 (length outputs)) (nat_le (length outputs) 8) b.0 in
    let e = and_parts (nat_le (length inputs) 6) (nat_le 1 (length outputs)) d.0 in
    record { few = at_most (length inputs) 6 e.0; most = at_most (length outputs) 8 d.1; over = over_at (length inputs) outputs b.1 }
  where
    at_most : (a b : ℕ) → nat_le a b ≡ true → a ≤ b
    at_most a b t = grind (arith, nat_tests)
