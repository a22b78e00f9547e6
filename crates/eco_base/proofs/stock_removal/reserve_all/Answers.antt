use Rattle.std.proofs.Common.{refl, ◌≡◌, length, take, slice_get, Some, sym, ap, ◌∙◌, subst}
use Rattle.std.specs.Option.{option_map}
use Rattle.std.specs.FinSet.{from_list, from_list_push}
use Rattle.std.specs.Cmp.Lexicographic.{nat_list_cmp_total}
use Rattle.std.proofs.lemmas.Option.{slice_get_read}
use Rattle.std.proofs.lemmas.Map.Lookups.{exact_bytes}
use Rattle.eco_net.specs.Netlist.{Name, Netlist}
use Rattle.eco_net.specs.Listing.{Listing, netlist}
use Rattle.eco_net.specs.Changes.{with_reserved}
use Rattle.eco_base.specs.declared.stock.Spare.{Spare}
use Rattle.eco_base.specs.Without.{spare_names}
use Rattle.eco_base.specs.Order.{HasSameOrder}
use Rattle.eco_base.proofs.Lists.{map_more}
use Rattle.eco_base.proofs.Ordered.{order_twice}
use Rattle.eco_base.proofs.stock_removal.reserve_all.Goals as goal

pub loop-spare-preserved : goal.loop-spare-preserved
loop-spare-preserved c =
    let L : Listing = c.loop-spare.maker in
    let N : Netlist = netlist c.args.maker.now in
    let spares = c.args.spares.now in
    let i = c.loop-spare.spare-index in
    let ns = spare_names (take i spares) in
    let name : Name = c.bytes.result.now in
    let here : slice_get spares i ≡ Some c.spare-item.result = slice_get_read spares (length spares) i c.spare-item.result refl c.loop-spare-test.true c.spare-item.is in
    let named : option_map (λ (s : Spare). s.name) (slice_get spares i) ≡ Some name = ap (option_map (λ (s : Spare). s.name)) here ∙ ap Some (sym c.bytes.ensures) in
    let more : HasSameOrder L c.reserve_name.new.self = subst (HasSameOrder L) (sym c.in_ok-reserve_name.ensures.ok) (record { comps = refl; nets = refl; tops = refl }) in
    record {
      named = c.in_ok-reserve_name.ensures.named
          ∙ ap (λ M. with_reserved M name) c.loop-spare.invariant.named
          ∙ ap (λ s. record N { reserved = s }) (sym (from_list_push nat_list_cmp_total exact_bytes ns name) ∙ ap from_list (sym (map_more (λ (s : Spare). s.name) spares i name named)));
      order = order_twice c.args.maker.now L c.reserve_name.new.self c.loop-spare.invariant.order more;
    }
