-- A value for each net of a loop-free netlist, by fuel
use Rattle.std.proofs.Common.{◌≡◌, ℕ, zero, suc, ◌≤◌, max, Bool, false, List, [], ◌∷◌, map, Option, Some, None, refl, sym, ap, ap₂, ◌∙◌, subst, inl, inr, ⊎_elim, arith, le_trans, le_refl}
use Rattle.std.proofs.Math.Nat.{le-max_left, le-max_right}
use Rattle.std.specs.FinMap.{get}
use Rattle.eco_net.specs.Netlist.{Name, Netlist, role_of}
use Rattle.eco_net.specs.Drivers.{Computed, IsComputed, IsFree}
use Rattle.eco_net.specs.CutKeys.{KeyOf, CutKey, PinKey, NetKey}
use Rattle.eco_net.specs.Walks.{IsLoopFree}
use Rattle.eco_net.specs.Valuation.{table_value}
use Rattle.eco_net.proofs.Basics.{Has, contains_from_has, same_Some, not_None, map_agree}
use Rattle.eco_net.proofs.Decide.{Shape, supply_net, computed_net, free_net, no_net, shape, gate_is, same_table}
use Rattle.eco_net.proofs.Grounded.{Grounded, grounded, all_grounded}

-- ---- values as a function

abbrev pub at : (Name → Bool) → Option Name → Bool
at v None = false
at v (Some n) = v n

-- the equations of a valuation
pub record Solves (N : Netlist) (bits : CutKey → Bool) (v : Name → Bool) : Type 0 where
  pub supplied : (n : Name) (b : Bool) → get N.nets n ≡ Some (Some b) → v n ≡ b
  pub free : (n : Name) (key : CutKey) → IsFree N n → KeyOf N n key → v n ≡ bits key
  pub computed : (n : Name) (table : List Bool) (inputs : List (Option Name)) → Computed N n table inputs → v n ≡ table_value table (map (at v) inputs)
  pub none : (n : Name) → get N.nets n ≡ None → v n ≡ false

-- ---- a computed net has one table and one list of inputs

pub one_table : (N : Netlist) (n : Name) (t u : List Bool) (ins more : List (Option Name)) → Computed N n t ins → Computed N n u more → (t ≡ u) × (ins ≡ more)
one_table N n t u ins more a b =
    let g = gate_is N n t ins a b.comp b.pin b.gate b.driver b.is in
    let e : a.gate ≡ b.gate = g.0 in
    let f : a.pin ≡ b.pin = g.1 in
    (same_table (sym (ap₂ role_of e f) ∙ a.at) b.at, cc (a.reads, b.reads, e))

-- ---- one key

pub one_key : (N : Netlist) (n : Name) (k l : CutKey) → KeyOf N n k → KeyOf N n l → k ≡ l
one_key N n (PinKey p) (PinKey q) a b = ap PinKey (b.0.only p a.0.drives)
one_key N n (PinKey p) (NetKey m) a b = absurd (b.1 p a.0 a.1)
one_key N n (NetKey m) (PinKey q) a b = absurd (a.1 q b.0 b.1)
one_key N n (NetKey m) (NetKey o) a b = ap NetKey (a.0 ∙ sym b.0)

-- ---- a value for each net, by fuel

by_shape : {N : Netlist} {n : Name} → (CutKey → Bool) → (Name → Bool) → Shape N n → Bool
by_shape bits v (supply_net b e) = b
by_shape bits v (computed_net table inputs c) = table_value table (map (at v) inputs)
by_shape bits v (free_net key f k) = bits key
by_shape bits v (no_net e) = false

module _ (N : Netlist) (bits : CutKey → Bool) where
  pub eval : ℕ → Name → Bool
  eval zero n = false
  eval (suc k) n = by_shape bits (eval k) (shape N n)

  abbrev Settled : Name → ℕ → Type 0
  Settled n k = (j : ℕ) → k ≤ j → eval j n ≡ eval k n

  settled_later : (n : Name) (k l : ℕ) → k ≤ l → Settled n k → Settled n l
  settled_later n k l h s j i = s j (le_trans h i) ∙ sym (s l h)

  -- one bound for all of a list
  bound : (P : Name → ℕ → Type 0) → ((n : Name) (k l : ℕ) → k ≤ l → P n k → P n l) → (ins : List (Option Name)) → ((a : Name) → Has ins (Some a) → (k : ℕ) × P a k) → (k : ℕ) × ((a : Name) → Has ins (Some a) → P a k)
  bound P later [] h = (0, λ a i. absurd i)
  bound P later (None ∷ ins) h =
      let rest = bound P later ins (λ a i. h a (inr i)) in
      (rest.0, λ a i. ⊎_elim (λ e. absurd (not_None (sym e))) (λ j. rest.1 a j) i)
  bound P later (Some b ∷ ins) h =
      let rest = bound P later ins (λ a i. h a (inr i)) in
      let this = h b (inl refl) in (
        max this.0 rest.0,
        λ a i. ⊎_elim
            (λ e. later a this.0 _ (le-max_left _ _) (subst (λ x. P x this.0) (same_Some e) this.1))
            (λ j. later a rest.0 _ (le-max_right _ _) (rest.1 a j)) i,
      )

  pub reads_agree : (v w : Name → Bool) (ins : List (Option Name)) → ((a : Name) → Has ins (Some a) → v a ≡ w a) → map (at v) ins ≡ map (at w) ins
  reads_agree v w ins h = map_agree (at v) (at w) ins go
    where
      go : (x : Option Name) → Has ins x → at v x ≡ at w x
      go None i = refl
      go (Some a) i = h a i

  -- from k on, the value that fuel gives by this shape stays
  abbrev SettledBy : {n : Name} → Shape N n → ℕ → Type 0
  SettledBy s k = (j : ℕ) → k ≤ j → by_shape bits (eval j) s ≡ by_shape bits (eval k) s

  settled_by : (n : Name) (s : Shape N n) → ((table : List Bool) (ins : List (Option Name)) → Computed N n table ins → (a : Name) → Has ins (Some a) → (k : ℕ) × Settled a k) → (k : ℕ) × SettledBy s k
  unfolding by_shape
  settled_by n (supply_net b e) h = (0, λ j i. refl)
  settled_by n (free_net key f k) h = (0, λ j i. refl)
  settled_by n (no_net e) h = (0, λ j i. refl)
  settled_by n (computed_net table ins c) h =
      let b = bound Settled settled_later ins (h table ins c) in
      (b.0, λ j i. ap (table_value table) (reads_agree (eval j) (eval b.0) ins (λ a k. b.1 a k j i)))

  settle : (n : Name) (k : ℕ) → SettledBy (shape N n) k → Settled n (suc k)
  unfolding eval
  settle n k s zero i = absurd (omega arith)
  settle n k s (suc j) i = s j (omega arith)

  not_computed : (a : Name) → (IsComputed N a → ⊥) → (k : ℕ) × Settled a k
  not_computed a n =
      let s = settled_by a (shape N a) (λ table ins c b h. absurd (n (table, ins, c))) in
      (suc s.0, settle a s.0 s.1)

  all_settled : (n : Name) → Grounded N n → (k : ℕ) × Settled n k
  all_settled n (grounded below) =
      let s = settled_by n (shape N n) (λ table ins c a h.
      elim (shape N a) [
        | computed_net t i d ↦ all_settled a (below a (record { from = (t, i, d); table = table; inputs = ins; to = c; reads = contains_from_has ins (Some a) h }))
        | supply_net b e ↦ not_computed a (λ m. not_None (sym (same_Some (sym m.2.unsupplied ∙ e))))
        | free_net key f k ↦ not_computed a f.1
        | no_net e ↦ not_computed a (λ m. not_None (sym m.2.unsupplied ∙ e))
      ]) in
      (suc s.0, settle n s.0 s.1)

  module _ (free : IsLoopFree N) where
    pub enough : (n : Name) → (k : ℕ) × Settled n k
    enough n = all_settled n (all_grounded N free n)

    pub value : Name → Bool
    value n = eval (enough n).0 n

    at_large : (n : Name) (j : ℕ) → (enough n).0 ≤ j → eval j n ≡ value n
    unfolding value
    at_large n j h = (enough n).1 j h

    shape_value : (n : Name) (s : Shape N n) (k : ℕ) → (k' : ℕ) × (k ≤ k') × (by_shape bits (eval k') s ≡ by_shape bits value s)
    unfolding by_shape
    shape_value n (supply_net b e) k = (k, le_refl k, refl)
    shape_value n (free_net key f h) k = (k, le_refl k, refl)
    shape_value n (no_net e) k = (k, le_refl k, refl)
    shape_value n (computed_net table ins c) k =
        let P : Name → ℕ → Type 0 = λ a j. (enough a).0 ≤ j in
        let b = bound P (λ a j l h i. le_trans i h) ins (λ a i. ((enough a).0, le_refl _)) in
        let j = max k b.0 in
        (j, le-max_left k b.0, ap (table_value table) (reads_agree (eval j) value ins (λ a i. at_large a j (le_trans (b.1 a i) (le-max_right k b.0)))))

    fixed : (n : Name) → value n ≡ by_shape bits value (shape N n)
    unfolding eval
    fixed n =
        let k = shape_value n (shape N n) (enough n).0 in
        let h : (enough n).0 ≤ suc k.0 = omega (arith, k.1) in
        sym (at_large n (suc k.0) h) ∙ k.2

    by_supply : (n : Name) (b : Bool) (s : Shape N n) → get N.nets n ≡ Some (Some b) → by_shape bits value s ≡ b
    unfolding by_shape
    by_supply n b (supply_net d f) e = same_Some (same_Some (sym f ∙ e))
    by_supply n b (computed_net table ins c) e = absurd (not_None (sym (same_Some (sym c.unsupplied ∙ e))))
    by_supply n b (free_net key f h) e = absurd (not_None (sym (same_Some (sym f.0 ∙ e))))
    by_supply n b (no_net f) e = absurd (not_None (sym e ∙ f))

    by_key : (n : Name) (key : CutKey) (s : Shape N n) → IsFree N n → KeyOf N n key → by_shape bits value s ≡ bits key
    unfolding by_shape
    by_key n key (supply_net d e) f h = absurd (not_None (sym (same_Some (sym f.0 ∙ e))))
    by_key n key (computed_net table ins c) f h = absurd (f.1 (table, ins, c))
    by_key n key (free_net l g i) f h = ap bits (one_key N n l key i h)
    by_key n key (no_net e) f h = absurd (not_None (sym f.0 ∙ e))

    by_table : (n : Name) (table : List Bool) (ins : List (Option Name)) (s : Shape N n) → Computed N n table ins → by_shape bits value s ≡ table_value table (map (at value) ins)
    unfolding by_shape
    by_table n table ins (supply_net d e) c = absurd (not_None (sym (same_Some (sym c.unsupplied ∙ e))))
    by_table n table ins (computed_net t i d) c =
        let e = one_table N n t table i ins d c in
        ap₂ (λ x y. table_value x (map (at value) y)) e.0 e.1
    by_table n table ins (free_net key f h) c = absurd (f.1 (table, ins, c))
    by_table n table ins (no_net e) c = absurd (not_None (sym c.unsupplied ∙ e))

    by_none : (n : Name) (s : Shape N n) → get N.nets n ≡ None → by_shape bits value s ≡ false
    unfolding by_shape
    by_none n (supply_net d e) f = absurd (not_None (sym e ∙ f))
    by_none n (computed_net t i c) f = absurd (not_None (sym c.unsupplied ∙ f))
    by_none n (free_net key g h) f = absurd (not_None (sym g.0 ∙ f))
    by_none n (no_net e) f = refl

    pub solves : Solves N bits value
    solves = record {
      supplied = λ n b e. fixed n ∙ by_supply n b (shape N n) e;
      free = λ n key f h. fixed n ∙ by_key n key (shape N n) f h;
      computed = λ n table ins c. fixed n ∙ by_table n table ins (shape N n) c;
      none = λ n e. fixed n ∙ by_none n (shape N n) e;
    }
