use Rattle.std.proofs.Common.{ap, ◌∙◌, List, ℕ, take}
use Rattle.eco_match.specs.declared.table.Table.{Table}
use Rattle.eco_match.proofs.Parts.{FromParts, is-table, table-costs}
use Rattle.eco_match.proofs.pairs.table_of.Goals as goal

pub returns : goal.returns
returns c =
    let r = c.args.rows.now in
    let t : Table = record { starts = c.split_at.result.0; ends = c.split_at.result.1; spares = c.split_at-2.result.0; costs = c.split_at-4.result.0 } in
    let f : FromParts r c.args.head.now c.args.columns.now t = record {
      parts = c.requires;
      starts = c.split_at.ensures.front;
      ends = c.split_at.ensures.back;
      spares = c.split_at-2.ensures.front;
      costs = c.split_at-4.ensures.front ∙ ap (λ (xs : List ℕ). take r.filled xs) c.split_at-3.ensures.back;
    } in
    record {
      table = is-table r c.args.head.now c.args.columns.now t f;
      costs = table-costs r c.args.head.now c.args.columns.now t f;
    }
