use Rattle.std.proofs.Common.{sym, ◌∙◌, ◌≡◌, ◌-◌, pos, slice_index_or, rules}
use Rattle.eco_match.specs.Work.{natural}
use Rattle.eco_match.proofs.Numbers.{worth_at-gate}
use Rattle.eco_match.proofs.work.worth_of.Goals as goal

pub returns : goal.returns
returns c =
    let e : c.natural_of.result ≡ natural (slice_index_or c.args.out.now.worth (c.args.place - 1) (pos 0)) = search rules in
    e ∙ sym (worth_at-gate c.args.out.now c.args.place c.requires.0)
