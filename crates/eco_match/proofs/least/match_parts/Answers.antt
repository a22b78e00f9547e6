use Rattle.std.proofs.Common.{arith, subst, ℕ, Option}
use Rattle.eco_match.specs.Least.{Certifies, IsShort, IsLeastMatching, HasNone}
use Rattle.eco_match.specs.MatchOut.{out_spare, out_worth, out_price, out_short}
use Rattle.eco_match.specs.Table.{table_cost}
use Rattle.eco_match.proofs.Parts.{answer-all, answer-short, least-all, none-short}
use Rattle.eco_match.proofs.least.match_parts.Goals as goal

pub returns-then-solve : goal.returns-then-solve
returns-then-solve c =
    let r = c.args.rows.now in
    let t = c.table_of-table in
    let out = c.solve.new.out in
    let m = c.solve.ensures.matched c.if-solve.true in
    let cert : Certifies r.gates (table_cost t.result) (out_spare out) (out_worth out) (out_price out) =
    answer-all r t.result c.solve.new.owner out t.ensures.table (omega arith) m.0 m.1 in
    record {
      answer = subst (λ (costs : ℕ → ℕ → Option ℕ). Certifies r.gates costs (out_spare out) (out_worth out) (out_price out)) t.ensures.costs cert;
      exact = subst (λ (costs : ℕ → ℕ → Option ℕ). IsLeastMatching r.gates costs (out_spare out)) t.ensures.costs (least-all r.gates (table_cost t.result) out cert);
    }

pub returns : goal.returns
returns c =
    let r = c.args.rows.now in
    let t = c.table_of-table in
    let out = c.set_short.new.out in
    let s = c.solve.ensures.stuck c.if-solve.false in
    let short : IsShort r.gates r.spares (table_cost t.result) (out_short out) =
    answer-short r t.result c.solve.new.owner s.0 s.1 c.solve.new.out c.solve.new.tree out t.ensures.table (omega arith) s.2 c.set_short.ensures in
    record {
      answer = subst (λ (costs : ℕ → ℕ → Option ℕ). IsShort r.gates r.spares costs (out_short out)) t.ensures.costs short;
      exact = subst (λ (costs : ℕ → ℕ → Option ℕ). HasNone r.gates costs) t.ensures.costs (none-short r t.result out t.ensures.table short);
    }
