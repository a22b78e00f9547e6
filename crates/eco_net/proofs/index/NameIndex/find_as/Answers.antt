use Rattle.std.proofs.Common.{◌∙◌, true, false, sym, ap}
use Rattle.std.specs.FinMap as map
use Rattle.std.specs.Map.{lookup}
use Rattle.std.specs.Str.{bytes_eq}
use Rattle.eco_net.specs.Index.{by_bytes}
use Rattle.eco_net.proofs.Indexed.{place_found, text_found, short_is, long_is}
use Rattle.eco_net.proofs.index.NameIndex.find_as.Goals as goal

pub returns-in-Some : goal.returns-in-Some
returns-in-Some c =
    let s = c.self.inside in
    let q = c.args.name.now in
    let short = short_is q c.in-Some.short (sym c.requires ∙ c.in-Some.is) in
    c.copied.ensures
    ∙ c.get.ensures.value
    ∙ ap (λ n. lookup (bytes_eq n) s.shorts.entries) short.1
    ∙ sym (place_found s.shorts.entries (by_bytes s.longs.entries) q true short.0)
    ∙ ap (λ m. map.get m q) c.self.view_is

pub returns-in-None : goal.returns-in-None
returns-in-None c =
    let s = c.self.inside in
    let q = c.args.name.now in
    c.copied-in-None.ensures
    ∙ c.get-in-None.ensures.value
    ∙ sym (place_found s.shorts.entries (by_bytes s.longs.entries) q false (long_is q (sym c.requires ∙ c.in-None.is)) ∙ text_found q s.longs.entries)
    ∙ ap (λ m. map.get m q) c.self.view_is
