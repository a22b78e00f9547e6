-- Components that are taken out of a netlist (LEF/DEF 5.8, "Components"); which those are is said by a mark for each.
use Rattle.std.specs.Prelude.{Bool, not, List, map}
use Rattle.std.specs.List.{filter, list_any, zip}
use Rattle.std.specs.Ordering.{eq_by_cmp}
use Rattle.std.specs.FinMap.{retain_keys}
use Rattle.eco_net.specs.declared.rows.CompRow.{CompRow}
use Rattle.eco_net.specs.Netlist.{Name, name_cmp, Netlist}

-- the rows that are not marked, in their order
abbrev pub unmarked_rows : List Bool → List CompRow → List CompRow
unmarked_rows marks rows = map (λ p. p.1) (filter (λ p. not p.0) (zip marks rows))

-- the names of the rows that are marked
abbrev pub marked_names : List Bool → List CompRow → List Name
marked_names marks rows = map (λ p. p.1.name) (filter (λ p. p.0) (zip marks rows))

-- without the components of these names
abbrev pub without_comps : Netlist → List Name → Netlist
without_comps N names = record N { comps = retain_keys N.comps (λ c. not (list_any (eq_by_cmp name_cmp c) names)) }
