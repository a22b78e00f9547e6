-- A loop-free netlist has exactly one valuation
use Rattle.std.proofs.Common.{◌≡◌, Bool, true, false, List, [], ◌∷◌, map, Option, Some, None, refl, sym, ap, ◌∙◌, cond, is_some, true≢false}
use Rattle.std.specs.Option.{unwrap_or}
use Rattle.std.specs.Ordering.{eq_by_cmp}
use Rattle.std.specs.Cmp.Lexicographic.{nat_list_cmp_total}
use Rattle.std.specs.FinMap.{get, entries, from_entries, find, contains_key, same_map, get-entries, get-from_entries}
use Rattle.std.proofs.lemmas.Map.Lookups.{exact_bytes}
use Rattle.eco_net.specs.Netlist.{Name, name_cmp, Netlist}
use Rattle.eco_net.specs.Drivers.{Computed, IsFree}
use Rattle.eco_net.specs.CutKeys.{CutKey, KeyOf, CutBits, IsChoice}
use Rattle.eco_net.specs.Valuation.{Valuation, IsValuation, HasOneValuation, table_value, read}
use Rattle.eco_net.specs.Walks.{IsLoopFree}
use Rattle.eco_net.proofs.Basics.{Has, contains_from_has, same_of_cmp, map_agree}
use Rattle.eco_net.proofs.Decide.{Shape, supply_net, computed_net, free_net, no_net, shape}
use Rattle.eco_net.proofs.Grounded.{Grounded, grounded, all_grounded}
use Rattle.eco_net.proofs.Solved.{Solves, at, reads_agree, value, solves}

-- ---- no other

module _ (N : Netlist) (bits : CutKey → Bool) (v w : Name → Bool) (a : Solves N bits v) (b : Solves N bits w) where
  agree_by : (n : Name) (s : Shape N n) → ((table : List Bool) (ins : List (Option Name)) → Computed N n table ins → v n ≡ w n) → v n ≡ w n
  agree_by n (supply_net d e) h = a.supplied n d e ∙ sym (b.supplied n d e)
  agree_by n (computed_net table ins c) h = h table ins c
  agree_by n (free_net key f k) h = a.free n key f k ∙ sym (b.free n key f k)
  agree_by n (no_net e) h = a.none n e ∙ sym (b.none n e)

  same_value : (n : Name) → Grounded N n → v n ≡ w n
  same_value n (grounded below) = agree_by n (shape N n) (λ table ins c.
      a.computed n table ins c
      ∙ ap (table_value table) (reads_agree N bits v w ins (λ m h. agree_by m (shape N m) (λ t j d.
      same_value m (below m (record { from = (t, j, d); table = table; inputs = ins; to = c; reads = contains_from_has ins (Some m) h })))))
      ∙ sym (b.computed n table ins c))

-- ---- the values of a map, and a map of values

abbrev bit : Valuation → Name → Bool
bit v n = unwrap_or (get v n) false

abbrev chosen : CutBits → CutKey → Bool
chosen cut key = unwrap_or (get cut key) false

read_at : (v : Valuation) (f : Name → Bool) → ((n : Name) → bit v n ≡ f n) → (ins : List (Option Name)) → map (read v) ins ≡ map (at f) ins
read_at v f h ins = map_agree (read v) (at f) ins go
  where
    go : (x : Option Name) → Has ins x → read v x ≡ at f x
    go None i = refl
    go (Some n) i = h n

-- what a valuation says is a solution
valuation_solves : (N : Netlist) (cut : CutBits) (v : Valuation) → IsValuation N cut v → Solves N (chosen cut) (bit v)
valuation_solves N cut v a = record {
  supplied = λ n b e. ap (λ o. unwrap_or o false) (a.supplied n b e);
  free = λ n key f k. ap (λ o. unwrap_or o false) (a.free n key f k);
  computed = λ n table ins c. ap (λ o. unwrap_or o false) (a.computed n table ins c) ∙ ap (table_value table) (read_at v (bit v) (λ m. refl) ins);
  none = λ n e. no_bit (get v n) (a.keys n ∙ ap is_some e);
}
  where
    no_bit : (o : Option Bool) → is_some o ≡ false → unwrap_or o false ≡ false
    no_bit None e = refl
    no_bit (Some b) e = absurd (true≢false e)

abbrev valued : (Name → Bool) → List (Name × Option Bool) → List (Name × Bool)
valued f es = map (λ e. (e.0, f e.0)) es

found_value : (f : Name → Bool) (es : List (Name × Option Bool)) (q : Name) → find name_cmp q (valued f es) ≡ cond (is_some (find name_cmp q es)) (Some (f q)) None
found_value f [] q = refl
found_value f (e ∷ es) q = go (found_value f es q) (eq_by_cmp name_cmp q e.0) refl
  where
    go : find name_cmp q (valued f es) ≡ cond (is_some (find name_cmp q es)) (Some (f q)) None → (b : Bool) → eq_by_cmp name_cmp q e.0 ≡ b → cond b (Some (f e.0)) (find name_cmp q (valued f es)) ≡ cond (is_some (cond b (Some e.1) (find name_cmp q es))) (Some (f q)) None
    go rest true s = ap (λ n. Some (f n)) (sym (same_of_cmp q e.0 s))
    go rest false s = rest

abbrev map_of : Netlist → (Name → Bool) → Valuation
map_of N f = from_entries (valued f (entries N.nets))

value_of : (N : Netlist) (f : Name → Bool) (n : Name) → get (map_of N f) n ≡ cond (contains_key N.nets n) (Some (f n)) None
value_of N f n = get-from_entries nat_list_cmp_total (valued f (entries N.nets)) n ∙ found_value f (entries N.nets) n ∙ ap (λ o. cond (is_some o) (Some (f n)) None) (sym (get-entries N.nets n))

value_at : (N : Netlist) (f : Name → Bool) (n : Name) (s : Option Bool) → get N.nets n ≡ Some s → get (map_of N f) n ≡ Some (f n)
value_at N f n s e = value_of N f n ∙ ap (λ o. cond (is_some o) (Some (f n)) None) e

some_keys : (b : Bool) (x : Bool) → is_some (cond b (Some x) None) ≡ b
some_keys true x = refl
some_keys false x = refl

some_bit : (o : Option Bool) → is_some o ≡ true → o ≡ Some (unwrap_or o false)
some_bit None e = absurd (true≢false (sym e))
some_bit (Some b) e = refl

-- each key of a free net has a bit
bit_of_key : (N : Netlist) (cut : CutBits) (n : Name) (key : CutKey) → IsChoice N cut → IsFree N n → KeyOf N n key → get cut key ≡ Some (chosen cut key)
bit_of_key N cut n key c f k = some_bit (get cut key) ((c key).0 (n, f, k))

solution_values : (N : Netlist) (cut : CutBits) (f : Name → Bool) → IsChoice N cut → Solves N (chosen cut) f → IsValuation N cut (map_of N f)
solution_values N cut f choice s = record {
  keys = λ n. ap is_some (value_of N f n) ∙ some_keys (contains_key N.nets n) (f n);
  supplied = λ n b e. value_at N f n (Some b) e ∙ ap Some (s.supplied n b e);
  free = λ n key g k. value_at N f n None g.0 ∙ ap Some (s.free n key g k) ∙ sym (bit_of_key N cut n key choice g k);
  computed = λ n table ins c.
      value_at N f n None c.unsupplied
      ∙ ap Some (s.computed n table ins c ∙ ap (table_value table) (sym (read_at (map_of N f) f (λ a. go a (get N.nets a) refl) ins)));
}
  where
    go : (a : Name) (o : Option (Option Bool)) → get N.nets a ≡ o → bit (map_of N f) a ≡ f a
    go a (Some x) e = ap (λ o. unwrap_or o false) (value_at N f a x e)
    go a None e = ap (λ o. unwrap_or o false) (value_of N f a ∙ ap (λ o. cond (is_some o) (Some (f a)) None) e) ∙ sym (s.none a e)

-- two maps with the same keys and the same bits at nets
same_at : (N : Netlist) (v w : Valuation) (n : Name) → contains_key v n ≡ contains_key N.nets n → contains_key w n ≡ contains_key N.nets n → (bit w n ≡ bit v n) → get w n ≡ get v n
same_at N v w n a b h = go (get N.nets n) refl (get w n) refl (get v n) refl
  where
    go : (o : Option (Option Bool)) → get N.nets n ≡ o → (p : Option Bool) → get w n ≡ p → (q : Option Bool) → get v n ≡ q → p ≡ q
    go None e None f None g = refl
    go None e (Some x) f q g = absurd (true≢false (sym (ap is_some f) ∙ b ∙ ap is_some e))
    go None e None f (Some y) g = absurd (true≢false (sym (ap is_some g) ∙ a ∙ ap is_some e))
    go (Some s) e None f q g = absurd (true≢false (sym (ap is_some e) ∙ sym b ∙ ap is_some f))
    go (Some s) e (Some x) f None g = absurd (true≢false (sym (ap is_some e) ∙ sym a ∙ ap is_some g))
    go (Some s) e (Some x) f (Some y) g = ap Some (sym (ap (λ o. unwrap_or o false) f) ∙ h ∙ ap (λ o. unwrap_or o false) g)

pub one_of : (N : Netlist) (cut : CutBits) (v w : Valuation) → IsLoopFree N → IsValuation N cut v → IsValuation N cut w → w ≡ v
one_of N cut v w free a b = same_map nat_list_cmp_total exact_bytes w v (λ n.
    same_at N v w n (a.keys n) (b.keys n) (same_value N (chosen cut) (bit w) (bit v) (valuation_solves N cut w b) (valuation_solves N cut v a) n (all_grounded N free n)))

pub one_valuation : (N : Netlist) → IsLoopFree N → HasOneValuation N
one_valuation N free cut choice =
    let v = map_of N (value N (chosen cut) free) in
    let is = solution_values N cut (value N (chosen cut) free) choice (solves N (chosen cut) free) in
    (v, is, λ w b. one_of N cut v w free is b)
