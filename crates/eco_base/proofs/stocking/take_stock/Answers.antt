use Rattle.std.proofs.Common.{◌≤◌, length, List, map, sym, ap, ◌∙◌, subst}
use Rattle.std.specs.Prelude.{IsSome}
use Rattle.std.specs.List.{All}
use Rattle.std.proofs.lemmas.Result.{err_from_is_err_and}
use Rattle.eco_common.specs.declared.limits.TheConstants.{MAX_STOCK}
use Rattle.eco_net.specs.Listing.{netlist}
use Rattle.eco_desk_file.specs.Desk.{Desk}
use Rattle.eco_def.specs.declared.design.Comp.{Comp}
use Rattle.eco_def.specs.declared.design.Design.{Design}
use Rattle.eco_base.specs.declared.stock.Spare.{Spare}
use Rattle.eco_base.specs.SparePoints.{HasPoint, ArePlacedAlike}
use Rattle.eco_base.proofs.SparePoints.{placed_alike}
use Rattle.eco_base.specs.Bases.{stock_names}
use Rattle.eco_base.specs.Stocks.{entry_at}
use Rattle.eco_base.specs.Stocked.{BlamesTies}
use Rattle.eco_base.proofs.StockFaults.{ties_first, count_first, loop_first}
use Rattle.eco_base.proofs.Counting.{census_is}
use Rattle.eco_base.proofs.Ordered.{ordered_by}
use Rattle.eco_base.proofs.StockTaken.{tie_is_net, all_entries, count_is, base_is, stocked_is, both_tied}
use Rattle.eco_base.proofs.stocking.take_stock.Goals as goal

pub returns-in_err-check_ties-clause-fault : goal.returns-in_err-check_ties-clause-fault
returns-in_err-check_ties-clause-fault c =
    let p = err_from_is_err_and c.from_residual.result c.from_residual.ensures.1 in
    let full = c.args.full in
    let same = c.requires.listed.netlist in
    rw (p.1, p.2) (ties_first c.args.texts.now c.requires.faultless (netlist full) same c.in_err-check_ties.field-0.0 (subst (λ (d : Desk). BlamesTies d (netlist full) c.in_err-check_ties.field-0.0) c.desk-desk.ensures c.in_err-check_ties.ensures.fault))

pub returns-in_err-check_count-clause-fault : goal.returns-in_err-check_count-clause-fault
returns-in_err-check_count-clause-fault c =
    let p = err_from_is_err_and c.from_residual-in_err-check_count.result c.from_residual-in_err-check_count.ensures.1 in
    let t = c.args.texts.now in
    let full = c.args.full in
    let same = c.requires.listed.netlist in
    let names = c.requires.numbers in
    let spares = c.in_ok-stock.stock.spares.items in
    let count = count_is t full c.facts.ensures.listing same names c.desk-desk.result.now c.desk-desk.ensures spares c.in_ok-stock.ensures.rows in
    rw (p.1, p.2) (count_first t c.requires.faultless (both_tied t (netlist full) same c.desk-desk.result.now c.desk-desk.ensures c.in_ok-check_ties.ensures.high c.in_ok-check_ties.ensures.low)
    (length c.deref.result.now) (ap length c.deref.ensures.value ∙ count) c.in_err-check_count.field-0.0 c.in_err-check_count.ensures.fault)

pub returns-in_err-stock-clause-fault : goal.returns-in_err-stock-clause-fault
returns-in_err-stock-clause-fault c =
    let p = err_from_is_err_and c.from_residual-in_err-stock.result c.from_residual-in_err-stock.ensures.1 in
    rw (p.1, p.2) (λ lef def functions desk read. tt)

pub find_stock-requires : goal.find_stock-requires
find_stock-requires c =
    subst (ArePlacedAlike c.args.full.comps) (sym (c.as_slice-comps.ensures ∙ ap (λ (d : Design). d.comps) c.design.ensures))
    (placed_alike c.args.texts.now c.args.full c.facts.ensures.listing c.requires)

pub functions_of-requires : goal.functions_of-requires
functions_of-requires c =
    let t = c.args.texts.now in
    let full = c.args.full in
    let same = c.requires.listed.netlist in
    let names = c.requires.numbers in
    let spares = c.in_ok-stock.stock.spares.items in
    subst (All (λ (s : Spare). IsSome (entry_at t s.comp))) (sym c.deref-2.ensures.value)
    (all_entries t full c.facts.ensures.listing same names c.desk-desk.result.now c.desk-desk.ensures spares c.in_ok-stock.ensures.rows c.in_ok-stock.ensures.numbers)

pub without_stock-requires-clause-high : goal.without_stock-requires-clause-high
without_stock-requires-clause-high c = tie_is_net c.desk-desk.result.now.prefixes (netlist c.args.full) c.desk-desk.result.now.high _ c.in_ok-check_ties.ensures.high

pub without_stock-requires-clause-low : goal.without_stock-requires-clause-low
without_stock-requires-clause-low c = tie_is_net c.desk-desk.result.now.prefixes (netlist c.args.full) c.desk-desk.result.now.low _ c.in_ok-check_ties.ensures.low

pub returns-in_err-depth-clause-fault : goal.returns-in_err-depth-clause-fault
returns-in_err-depth-clause-fault c =
    let p = err_from_is_err_and c.from_residual-in_err-depth.result c.from_residual-in_err-depth.ensures.1 in
    let t = c.args.texts.now in
    let full = c.args.full in
    let same = c.requires.listed.netlist in
    let names = c.requires.numbers in
    let desk = c.desk-desk.result.now in
    let spares = c.in_ok-stock.stock.spares.items in
    let count = count_is t full c.facts.ensures.listing same names desk c.desk-desk.ensures spares c.in_ok-stock.ensures.rows in
    let few : length (stock_names t) ≤ MAX_STOCK = subst (λ n. n ≤ MAX_STOCK) (ap length c.deref.ensures.value ∙ count) c.in_ok-check_count.ensures.few in
    rw (p.1, p.2) (loop_first t c.requires.faultless (both_tied t (netlist full) same desk c.desk-desk.ensures c.in_ok-check_ties.ensures.high c.in_ok-check_ties.ensures.low) few (netlist c.in_ok-netlist.netlist)
    (base_is t full c.facts.ensures.listing same names desk c.desk-desk.ensures spares c.in_ok-stock.ensures.rows (netlist c.in_ok-netlist.netlist) c.in_ok-netlist.ensures.base)
    c.in_err-depth.field-0.0 c.in_err-depth.ensures.fault)

pub returns-clause-stocked : goal.returns-clause-stocked
returns-clause-stocked c =
    let t = c.args.texts.now in
    let full = c.args.full in
    let same = c.requires.listed.netlist in
    let names = c.requires.numbers in
    let stock = c.in_ok-stock.stock in
    let few = subst (λ (xs : List Spare). length xs ≤ MAX_STOCK) c.deref.ensures.value c.in_ok-check_count.ensures.few in
    let functions = c.in_ok-functions.ensures ∙ ap (map (λ (x : Spare). entry_at t x.comp)) c.deref-2.ensures.value in
    let points = subst (λ (cs : List Comp). All (HasPoint cs) stock.spares.items) (c.as_slice-comps.ensures ∙ ap (λ (d : Design). d.comps) c.design.ensures) c.in_ok-stock.ensures.points in
    stocked_is t full c.facts.ensures.listing same names (record { netlist = c.in_ok-netlist.netlist; spares = stock.spares; functions = c.in_ok-functions.functions; skipped = stock.skipped; census = c.census_of-census.result; depth = c.in_ok-depth.depth })
    c.facts.ensures.whole few c.in_ok-stock.ensures.numbers points functions c.in_ok-depth.ensures.free c.in_ok-depth.ensures.depth
    (census_is t full c.facts.ensures.listing same names c.desk-desk.result.now c.desk-desk.ensures stock c.census_of-census.result c.in_ok-stock.ensures.rows c.in_ok-stock.ensures.skipped c.census_of-census.ensures)
    c.desk-desk.result.now c.desk-desk.ensures c.in_ok-check_ties.ensures.high c.in_ok-check_ties.ensures.low c.in_ok-stock.ensures.rows c.in_ok-stock.ensures.skipped c.in_ok-netlist.ensures.base
    (ordered_by t full c.facts.ensures.listing same names c.desk-desk.result.now c.desk-desk.ensures c.in_ok-netlist.netlist c.in_ok-netlist.ensures.order)
