use Rattle.std.proofs.Common.{◌∙◌, ap}
use Rattle.std.specs.List.{each_same}
use Rattle.std.specs.FinMap as map
use Rattle.std.proofs.lemmas.Map.Entries.{entries_from_clone}
use Rattle.eco_net.specs.Index.{by_bytes, placed_names}
use Rattle.eco_net.specs.Netlist.{name_cmp}
use Rattle.eco_net.proofs.Indexed.{same_entries}
use Rattle.eco_net.proofs.index.NameIndex.copy.Goals as goal

pub returns : goal.returns
returns c =
    let s = c.self.inside in
    let shorts = entries_from_clone _ _ (λ _ _ same. same) (λ _ _ same. same) s.shorts.entries c.in_ok-clone.field-0.entries c.in_ok-clone.ensures.cases in
    let longs = same_entries _ (λ d e r. (each_same _ _ r.0.0, r.1)) s.longs.entries c.in_ok-clone-2.field-0.entries c.in_ok-clone-2.ensures.cases in
    ap (λ es. map.from_entries {R = name_cmp} (placed_names es (by_bytes c.in_ok-clone-2.field-0.entries))) shorts
    ∙ ap (λ es. map.from_entries {R = name_cmp} (placed_names s.shorts.entries es)) longs
    ∙ c.self.view_is
