use Rattle.std.proofs.Common.{◌≡◌, ◌∙◌, sym, ap}
use Rattle.std.specs.FinMap as map
use Rattle.eco_net.specs.Index.{by_bytes}
use Rattle.eco_net.proofs.Indexed.{short_given, long_given, text_given, short_is, long_is}
use Rattle.eco_net.proofs.index.NameIndex.insert.Goals as goal

pub returns-in_ok-insert-in-Some-clause-ok : goal.returns-in_ok-insert-in-Some-clause-ok
returns-in_ok-insert-in-Some-clause-ok c =
    let s = c.self.inside in
    let q = c.args.name.now in
    let short = short_is q c.in-Some.short (sym c.of.ensures ∙ c.in-Some.is) in
    let same : c.in-Some.short ≡ q = short.1 in
    short_given s.shorts.entries c.insert.new.self.entries (by_bytes s.longs.entries) q c.args.place short.0 (rw (← same) c.in_ok-insert-in-Some.ensures.updates.0)
    ∙ ap (λ m. map.insert m q c.args.place) c.self.view_is

pub returns-in_ok-insert-in-None-clause-ok : goal.returns-in_ok-insert-in-None-clause-ok
returns-in_ok-insert-in-None-clause-ok c =
    let s = c.self.inside in
    let q = c.args.name.now in
    let u = c.in_ok-insert-in-None.ensures.updates in
    let same : c.in_ok-long-in-None.long.items ≡ q = c.in_ok-long-in-None.ensures.items in
    long_given s.shorts.entries (by_bytes s.longs.entries) (by_bytes c.insert-in-None.new.self.entries) q c.args.place (long_is q (sym c.of.ensures ∙ c.in-None.is)) (rw (← same) (text_given s.longs.entries c.insert-in-None.new.self.entries c.in_ok-long-in-None.long.items c.args.place u.1 u.3))
    ∙ ap (λ m. map.insert m q c.args.place) c.self.view_is
