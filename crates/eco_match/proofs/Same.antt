use Rattle.std.proofs.Common.{ℕ, zero, suc, ◌≤◌, ◌≡◌, Option, IsSome, IfSome, Bool, refl, sym, ap, arith, subst, ℤ, pos, ◌-ℤ◌, ◌≤ℤ◌}
use Rattle.std.specs.Prelude.{unwrap_or}
use Rattle.eco_match.specs.declared.answer.MatchOut.{MatchOut}
use Rattle.eco_match.specs.declared.answer.Matching.{Matching}
use Rattle.eco_match.specs.declared.answer.Matching.TheVariants.{Matched, Short}
use Rattle.eco_match.specs.Least.{IsMatching, IsLeastMatching, HasNone, Certifies, IsShort, AreSameCosts, is_wanted, one_if, total, cost_on, signed_price_of}
use Rattle.eco_match.specs.MatchOut.{IsAnswer, IsExact, out_spare, out_worth, out_price, out_short}
use Rattle.eco_match.proofs.Sums.{sum-same}

same-back : (gates : ℕ) (a b : ℕ → ℕ → Option ℕ) → AreSameCosts gates a b → AreSameCosts gates b a
same-back gates a b same = λ g s less. sym (same g s less)

pub mapping-same : (gates : ℕ) (a b : ℕ → ℕ → Option ℕ) (spare : ℕ → ℕ) → AreSameCosts gates a b → IsMatching gates a spare → IsMatching gates b spare
mapping-same gates a b spare same map = record {
  candidate = λ g less. subst (λ (o : Option ℕ). IsSome o) (same g (spare g) less) (map.candidate g less);
  one_to_one = map.one_to_one;
}

total-same : (gates : ℕ) (a b : ℕ → ℕ → Option ℕ) (spare : ℕ → ℕ) → AreSameCosts gates a b → total gates a spare ≡ total gates b spare
total-same gates a b spare same = sum-same (cost_on a spare) (cost_on b spare) gates (λ g less. ap (λ (o : Option ℕ). unwrap_or o 0) (same g (spare g) less))

pub certifies-same : (gates : ℕ) (a b : ℕ → ℕ → Option ℕ) (spare : ℕ → ℕ) (worth price : ℕ → ℤ) → AreSameCosts gates a b → Certifies gates a spare worth price → Certifies gates b spare worth price
certifies-same gates a b spare worth price same cert = record {
  mapping = mapping-same gates a b spare same cert.mapping;
  prices = cert.prices;
  within = λ g s less. subst (λ (o : Option ℕ). IfSome o (λ c. (worth g -ℤ signed_price_of spare price gates s) ≤ℤ pos c)) (same g s less) (cert.within g s less);
  chosen = λ g less. subst (λ (o : Option ℕ). IfSome o (λ c. (worth g -ℤ price g) ≡ pos c)) (same g (spare g) less) (cert.chosen g less);
}

pub least-same : (gates : ℕ) (a b : ℕ → ℕ → Option ℕ) (spare : ℕ → ℕ) → AreSameCosts gates a b → IsLeastMatching gates a spare → IsLeastMatching gates b spare
least-same gates a b spare same least = (
  mapping-same gates a b spare same least.0,
  λ other map.
      (let less = least.1 other (mapping-same gates b a other (same-back gates a b same) map) in
      let mine = total-same gates a b spare same in
      let its = total-same gates a b other same in
      omega (arith, less, mine, its)),
)

pub none-same : (gates : ℕ) (a b : ℕ → ℕ → Option ℕ) → AreSameCosts gates a b → HasNone gates a → HasNone gates b
none-same gates a b same none = λ other map. none other (mapping-same gates b a other (same-back gates a b same) map)

wanted-alike : (n gates : ℕ) (a b : ℕ → ℕ → Option ℕ) (short : ℕ → Bool) (s : ℕ) → n ≤ gates → AreSameCosts gates a b → is_wanted a short n s ≡ is_wanted b short n s
wanted-alike zero gates a b short s most same = refl
wanted-alike (suc n) gates a b short s most same =
    let here : a n s ≡ b n s = same n s (omega arith) in
    let before : is_wanted a short n s ≡ is_wanted b short n s = wanted-alike n gates a b short s (omega arith) same in
    rw (here, before) refl

pub short-alike : (gates spares : ℕ) (a b : ℕ → ℕ → Option ℕ) (short : ℕ → Bool) → AreSameCosts gates a b → IsShort gates spares a short → IsShort gates spares b short
short-alike gates spares a b short same few =
    let e = sum-same (λ s. one_if (is_wanted a short gates s)) (λ s. one_if (is_wanted b short gates s)) spares (λ s less. ap one_if (wanted-alike gates gates a b short s (omega arith) same)) in
    omega (arith, e, few)

pub answer-same : (gates spares : ℕ) (a b : ℕ → ℕ → Option ℕ) (out : MatchOut) (matching : Matching) → AreSameCosts gates a b → IsAnswer gates spares a out matching → IsAnswer gates spares b out matching
answer-same gates spares a b out Matched same answer = certifies-same gates a b (out_spare out) (out_worth out) (out_price out) same answer
answer-same gates spares a b out Short same answer = short-alike gates spares a b (out_short out) same answer

pub exact-same : (gates : ℕ) (a b : ℕ → ℕ → Option ℕ) (out : MatchOut) (matching : Matching) → AreSameCosts gates a b → IsExact gates a out matching → IsExact gates b out matching
exact-same gates a b out Matched same exact = least-same gates a b (out_spare out) same exact
exact-same gates a b out Short same exact = none-same gates a b same exact
