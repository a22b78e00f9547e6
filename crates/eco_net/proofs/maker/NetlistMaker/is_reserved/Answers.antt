use Rattle.std.proofs.Common.{◌∙◌, sym, ap, is_some}
use Rattle.std.specs.Cmp.Lexicographic.{nat_list_cmp_total}
use Rattle.std.specs.FinSet.{contains, contains-from_list}
use Rattle.eco_net.specs.Listing.{Listing, netlist}
use Rattle.eco_net.proofs.maker.NetlistMaker.is_reserved.Goals as goal

pub returns : goal.returns
returns c =
    c.is_some.ensures
    ∙ ap is_some c.find.ensures
    ∙ c.self.invariant.reserved c.args.name.now
    ∙ sym (contains-from_list nat_list_cmp_total c.self.inside.reserved.items c.args.name.now)
    ∙ ap (λ (L : Listing). contains (netlist L).reserved c.args.name.now) c.self.view_is
