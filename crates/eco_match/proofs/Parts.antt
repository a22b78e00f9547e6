use Rattle.std.proofs.Common.{ℕ, zero, suc, ◌+◌, ◌<◌, ◌≡◌, List, length, Option, Some, None, IsSome, Bool, refl, sym, ap, ◌∙◌, arith, subst, length-drop, ◌-◌, pos, slice_index, slice_index_or}
use Rattle.eco_match.proofs.Shown.{chosen_spare, chosen_worth, chosen_price}
use Rattle.eco_match.specs.declared.table.Table.{Table}
use Rattle.eco_match.specs.declared.pairs.Rows.{Rows}
use Rattle.eco_match.specs.declared.answer.MatchOut.{MatchOut}
use Rattle.eco_match.specs.Least.{Certifies, IsShort, one_if, is_wanted, IsLeastMatching, HasNone}
use Rattle.eco_match.specs.MatchOut.{out_spare, out_worth, out_price, out_short}
use Rattle.eco_match.specs.Phase.{AreMatched, AreBounded}
use Rattle.eco_match.specs.Rows.{AreParts, IsTableOf, starts_of, ends_of, row_spares, costs_of, parts_cost}
use Rattle.eco_match.specs.Solve.{IsStuck, short_gate}
use Rattle.eco_match.specs.Table.{IsCostTable, AreRising, RowsRise, row_cost, table_cost}
use Rattle.eco_match.specs.Work.{natural, worth_at, price_at}
use Rattle.eco_match.proofs.Result.{Ended, shows-ended, short-blocked}
use Rattle.eco_match.proofs.Place.{pair-spare}
use Rattle.eco_match.proofs.Numbers.{natural-pos, worth_at-gate, price_at-gate}
use Rattle.eco_match.proofs.Signed.{shows-certifies, certifies-least}
use Rattle.eco_match.proofs.Laws.{short-none}
use Rattle.eco_match.proofs.Find.{table-some, Pair}
use Rattle.eco_match.proofs.Sums.{sum-same}

-- the table is made of the parts
pub record FromParts (r : Rows) (head columns : List ℕ) (t : Table) : Type 0 where
  pub parts : AreParts r head columns
  pub starts : t.starts.now ≡ starts_of r head
  pub ends : t.ends.now ≡ ends_of r head
  pub spares : t.spares.now ≡ row_spares r columns
  pub costs : t.costs.now ≡ costs_of r columns

pub table-good : (r : Rows) (head columns : List ℕ) (t : Table) → FromParts r head columns t → IsCostTable r.spares t
table-good r head columns t f =
    rw (f.starts, f.ends, f.spares, f.costs) f.parts.good

pub table-rising : (r : Rows) (head columns : List ℕ) (t : Table) → FromParts r head columns t → AreRising t
table-rising r head columns t f =
    subst (λ (xs : List ℕ). RowsRise xs t.ends.now t.spares.now) (sym f.starts)
    (subst (λ (xs : List ℕ). RowsRise (starts_of r head) xs t.spares.now) (sym f.ends)
    (subst (λ (xs : List ℕ). RowsRise (starts_of r head) (ends_of r head) xs) (sym f.spares) f.parts.rising))

pub table-inside : (r : Rows) (head columns : List ℕ) (t : Table) → FromParts r head columns t → r.gates < length t.ends.now
table-inside r head columns t f =
    let e = ap (λ (xs : List ℕ). length xs) f.ends in
    let d = length-drop (r.gates + 1) head in
    omega (arith, e, d, f.parts.head_len)

pub table-costs : (r : Rows) (head columns : List ℕ) (t : Table) → FromParts r head columns t → table_cost t ≡ parts_cost r head columns
table-costs r head columns t f =
    ap (λ (xs : List ℕ). row_cost xs t.ends.now t.spares.now t.costs.now) f.starts
    ∙ ap (λ (xs : List ℕ). row_cost (starts_of r head) xs t.spares.now t.costs.now) f.ends
    ∙ ap (λ (xs : List ℕ). row_cost (starts_of r head) (ends_of r head) xs t.costs.now) f.spares
    ∙ ap (λ (xs : List ℕ). row_cost (starts_of r head) (ends_of r head) (row_spares r columns) xs) f.costs

pub is-table : (r : Rows) (head columns : List ℕ) (t : Table) → FromParts r head columns t → IsTableOf r t
is-table r head columns t f = record { few = f.parts.gates; inside = table-inside r head columns t f; good = table-good r head columns t f; rising = table-rising r head columns t f }

ended : (r : Rows) (t : Table) (owner : List ℕ) (out : MatchOut) → IsTableOf r t → length owner ≡ r.spares → AreMatched r.gates r.gates t owner out → Ended r.gates t owner out
ended r t owner out f size matched = record { table = rw size f.good; inside = f.inside; rising = f.rising; matched = matched }

-- the numbers of the search are those of the answer
spare-told : (count : ℕ) (t : Table) (owner : List ℕ) (out : MatchOut) → Ended count t owner out → (k : ℕ) → k < count → out_spare out k ≡ chosen_spare t out k
spare-told count t owner out w k less =
    let tight = w.matched.tight (k + 1) (omega arith) (omega arith) in
    let end = w.table.rows (k + 1) (omega (arith, less, w.inside)) in
    let e : k + 1 - 1 ≡ k = omega arith in
    sym (pair-spare t out (k + 1) (omega arith) (omega (arith, tight.row.1, end)) ∙ ap (λ (i : ℕ). slice_index out.spare i) e)

worth-told : (count : ℕ) (out : MatchOut) → count < 129 → AreBounded count out → (k : ℕ) → k < count → out_worth out k ≡ pos (chosen_worth out k)
worth-told count out few bounded k less =
    let e : k + 1 - 1 ≡ k = omega arith in
    let is : worth_at out (k + 1) ≡ natural (out_worth out k) = worth_at-gate out (k + 1) (omega arith) ∙ ap (λ (i : ℕ). natural (slice_index_or out.worth i (pos 0))) e in
    let b = bounded.worth (k + 1) (omega (arith, few, less)) in
    natural-pos (out_worth out k) (omega (arith, is, b, few)) ∙ ap pos (sym is)

price-told : (count : ℕ) (out : MatchOut) → count < 129 → AreBounded count out → (k : ℕ) → k < count → out_price out k ≡ pos (chosen_price out k)
price-told count out few bounded k less =
    let e : k + 1 - 1 ≡ k = omega arith in
    let is : price_at out (k + 1) ≡ natural (out_price out k) = price_at-gate out (k + 1) (omega arith) ∙ ap (λ (i : ℕ). natural (slice_index_or out.price i (pos 0))) e in
    let b = bounded.price (k + 1) (omega (arith, few, less)) in
    natural-pos (out_price out k) (omega (arith, is, b, few)) ∙ ap pos (sym is)

pub answer-all : (r : Rows) (t : Table) (owner : List ℕ) (out : MatchOut) → IsTableOf r t → length owner ≡ r.spares → AreMatched r.gates r.gates t owner out → AreBounded r.gates out →
    Certifies r.gates (table_cost t) (out_spare out) (out_worth out) (out_price out)
answer-all r t owner out f size matched bounded =
    let w = ended r t owner out f size matched in
    shows-certifies r.gates (table_cost t) (chosen_spare t out) (out_spare out) (chosen_worth out) (chosen_price out) (out_worth out) (out_price out)
    (shows-ended r.gates t owner out w)
    (spare-told r.gates t owner out w) (worth-told r.gates out f.few bounded) (price-told r.gates out f.few bounded)

wanted-same : (costs : ℕ → ℕ → Option ℕ) (a b : ℕ → Bool) (n s : ℕ) → ((k : ℕ) → k < n → a k ≡ b k) → is_wanted costs a n s ≡ is_wanted costs b n s
wanted-same costs a b zero s same = refl
wanted-same costs a b (suc n) s same =
    let here : a n ≡ b n = same n (omega arith) in
    let before : is_wanted costs a n s ≡ is_wanted costs b n s = wanted-same costs a b n s (λ k less. same k (omega arith)) in
    rw (here, before) refl

short-same : (gates spares : ℕ) (costs : ℕ → ℕ → Option ℕ) (a b : ℕ → Bool) → ((k : ℕ) → k < gates → a k ≡ b k) → IsShort gates spares costs b → IsShort gates spares costs a
short-same gates spares costs a b same short =
    let left = sum-same (λ s. one_if (is_wanted costs a gates s)) (λ s. one_if (is_wanted costs b gates s)) spares (λ s less. ap one_if (wanted-same costs a b gates s same)) in
    let right = sum-same (λ k. one_if (a k)) (λ k. one_if (b k)) gates (λ k less. ap one_if (same k less)) in
    omega (arith, left, right, short)

pub answer-short : (r : Rows) (t : Table) (owner : List ℕ) (root reached : ℕ) (g : MatchOut) (tree : List ℕ) (out : MatchOut) → IsTableOf r t → length owner ≡ r.spares → IsStuck root reached r.gates t owner g tree → ((k : ℕ) → k < r.gates → out_short out k ≡ short_gate tree k) →
    IsShort r.gates r.spares (table_cost t) (out_short out)
answer-short r t owner root reached g tree out f size stuck tells =
    short-same r.gates r.spares (table_cost t) (out_short out) (short_gate tree) tells
    (subst (λ (n : ℕ). IsShort r.gates n (table_cost t) (short_gate tree)) size
    (short-blocked root reached r.gates t owner g tree (record { table = rw size f.good; inside = f.inside; few = f.few; stuck = stuck })))

below-at : (r : Rows) (t : Table) → IsTableOf r t → (g s : ℕ) → g < r.gates → (o : Option ℕ) → table_cost t g s ≡ o → IsSome o → s < r.spares
below-at r t f g s less None is some = absurd (cc)
below-at r t f g s less (Some c) is some =
    let p : Pair t g s c = table-some t g s c is in
    let end = f.good.rows (g + 1) (omega (arith, less, f.inside)) in
    let inner = f.good.below p.place (omega (arith, end, p.row.1)) in
    omega (arith, inner, p.spare_is)

pub none-short : (r : Rows) (t : Table) (out : MatchOut) → IsTableOf r t → IsShort r.gates r.spares (table_cost t) (out_short out) → HasNone r.gates (table_cost t)
none-short r t out f short = short-none r.gates r.spares (table_cost t) (out_short out) (λ g s less some. below-at r t f g s less (table_cost t g s) refl some) short

pub least-all : (gates : ℕ) (costs : ℕ → ℕ → Option ℕ) (out : MatchOut) → Certifies gates costs (out_spare out) (out_worth out) (out_price out) → IsLeastMatching gates costs (out_spare out)
least-all gates costs out cert = certifies-least gates costs (out_spare out) (out_worth out) (out_price out) cert
