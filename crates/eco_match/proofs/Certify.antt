use Rattle.std.proofs.Common.{ℕ, ◌<◌, ◌≡◌, Option, Some, None, IsSome, IfSome, refl, sym, subst, ℤ, pos, ◌-ℤ◌, ◌≤ℤ◌}
use Rattle.eco_match.specs.declared.table.Table.{Table}
use Rattle.eco_match.specs.declared.answer.MatchOut.{MatchOut}
use Rattle.eco_match.specs.Checks.{IsChosen, KeepsRule, AreChosen, AllDiffer, AllKeep}
use Rattle.eco_match.specs.Least.{Certifies, signed_price_of}
use Rattle.eco_match.specs.MatchOut.{out_spare, out_worth, out_price}
use Rattle.eco_match.specs.Table.{spare_at, table_cost, AreRising}
use Rattle.eco_match.proofs.Find.{table-some, table-pair, Pair}
use Rattle.eco_match.proofs.Order.{below, same, above, compare'}

some-from : (o : Option ℕ) (w p : ℤ) → IsChosen o w p → IsSome o
some-from None w p h = absurd h
some-from (Some c) w p h = refl

price-from : (o : Option ℕ) (w p : ℤ) → IsChosen o w p → pos 0 ≤ℤ p
price-from None w p h = absurd h
price-from (Some c) w p h = h.0

equal-from : (o : Option ℕ) (w p : ℤ) → IsChosen o w p → IfSome o (λ c. (w -ℤ p) ≡ pos c)
equal-from None w p h = absurd h
equal-from (Some c) w p h = h.1

chosen-to : (o : Option ℕ) (w p : ℤ) → IsSome o → pos 0 ≤ℤ p → IfSome o (λ c. (w -ℤ p) ≡ pos c) → IsChosen o w p
chosen-to None w p some low e = absurd (cc)
chosen-to (Some c) w p some low e = (low, e)

within-from : (t : Table) (out : MatchOut) (gates g s : ℕ) → AllKeep t out gates → g < gates → (o : Option ℕ) → table_cost t g s ≡ o → IfSome o (λ c. (out_worth out g -ℤ signed_price_of (out_spare out) (out_price out) gates s) ≤ℤ pos c)
within-from t out gates g s keep less None is = tt
within-from t out gates g s keep less (Some c) is =
    let p : Pair t g s c = table-some t g s c is in
    let k : KeepsRule t out gates g p.place = keep g less p.place p.row in
    subst (λ (x : ℕ). (out_worth out g -ℤ signed_price_of (out_spare out) (out_price out) gates x) ≤ℤ pos c) p.spare_is
    (subst (λ (y : ℕ). (out_worth out g -ℤ signed_price_of (out_spare out) (out_price out) gates (spare_at t p.place)) ≤ℤ pos y) p.cost_is k)

pub certifies-from : (gates : ℕ) (t : Table) (out : MatchOut) → AreChosen gates (table_cost t) out → AllDiffer out gates → AllKeep t out gates →
    Certifies gates (table_cost t) (out_spare out) (out_worth out) (out_price out)
certifies-from gates t out chosen differ keep = record {
  mapping = record {
    candidate = λ g less. some-from (table_cost t g (out_spare out g)) (out_worth out g) (out_price out g) (chosen g less);
    one_to_one = λ g h less more e. elim (compare' g h) [
      | below b ↦ absurd (differ h more g b e)
      | same q ↦ q
      | above b ↦ absurd (differ g less h b (sym e))
    ];
  };
  prices = λ g less. price-from (table_cost t g (out_spare out g)) (out_worth out g) (out_price out g) (chosen g less);
  within = λ g s less. within-from t out gates g s keep less (table_cost t g s) refl;
  chosen = λ g less. equal-from (table_cost t g (out_spare out g)) (out_worth out g) (out_price out g) (chosen g less);
}

pub keep-from : (gates : ℕ) (t : Table) (out : MatchOut) → AreRising t → Certifies gates (table_cost t) (out_spare out) (out_worth out) (out_price out) → AllKeep t out gates
keep-from gates t out rising cert = λ g less j row.
    subst (λ (o : Option ℕ). IfSome o (λ c. (out_worth out g -ℤ signed_price_of (out_spare out) (out_price out) gates (spare_at t j)) ≤ℤ pos c)) (table-pair t g j rising row) (cert.within g (spare_at t j) less)
