use Rattle.std.proofs.Common.{◌≡◌, ap, sym, ◌∙◌, subst}
use Rattle.eco_net.specs.Netlist.{Netlist, IsNet}
use Rattle.eco_net.specs.Listing.{Listing, netlist}
use Rattle.eco_net.specs.Removal.{marked_names, without_comps}
use Rattle.eco_base.specs.Without.{spare_names, with_ties, without_spares}
use Rattle.eco_base.specs.Order.{without_stock_rows, HasSameOrder}
use Rattle.eco_base.proofs.Without.{set_apart, if_ok}
use Rattle.eco_base.proofs.Ordered.{order_itself, order_twice, taken_out}
use Rattle.eco_base.proofs.stock_removal.without_stock.Goals as goal

pub mark_ties-requires-clause-low : goal.mark_ties-requires-clause-low
mark_ties-requires-clause-low c =
    let desk = c.args.desk.now in
    let L : Listing = c.args.full in
    let M : Listing = c.in_ok-maker.maker in
    let out : netlist M ≡ without_comps (netlist L) (marked_names c.deref.result.now L.comps) = c.in_ok-maker.ensures.named in
    let apart = set_apart desk L M (netlist c.reserve_all.new.maker) c.deref.result.now c.args.stock.now.spares.items c.deref-2.result.now out (c.deref.ensures.value ∙ c.requires.marks) c.requires.rows c.deref-2.ensures.value c.in_ok-reserve_all.ensures.named in
    subst (λ (N : Netlist). IsNet N desk.low) (sym apart) c.requires.low

pub returns-clause-base : goal.returns-clause-base
returns-clause-base c =
    let desk = c.args.desk.now in
    let L : Listing = c.args.full in
    let M : Listing = c.in_ok-maker.maker in
    let out : netlist M ≡ without_comps (netlist L) (marked_names c.deref.result.now L.comps) = c.in_ok-maker.ensures.named in
    let apart = set_apart desk L M (netlist c.reserve_all.new.maker) c.deref.result.now c.args.stock.now.spares.items c.deref-2.result.now out (c.deref.ensures.value ∙ c.requires.marks) c.requires.rows c.deref-2.ensures.value c.in_ok-reserve_all.ensures.named in
    if_ok
    (λ (n : Listing). n ≡ c.mark_ties.new.maker)
    (λ (n : Listing). netlist n ≡ without_spares (netlist L) desk (spare_names c.args.stock.now.spares.items))
    c.finish.result
    (λ n e. ap netlist e ∙ c.mark_ties.ensures.named ∙ ap (λ (N : Netlist). with_ties N desk) apart)
    c.finish.ensures.listed

pub returns-clause-order : goal.returns-clause-order
returns-clause-order c =
    let desk = c.args.desk.now in
    let L : Listing = c.args.full in
    let M : Listing = c.in_ok-maker.maker in
    let first : HasSameOrder (without_stock_rows desk L) M = subst (λ K. HasSameOrder K M) (taken_out desk L M c.deref.result.now c.in_ok-maker.ensures.rows (c.deref.ensures.value ∙ c.requires.marks)) (order_itself M) in
    let rest = order_twice M c.reserve_all.new.maker c.mark_ties.new.maker c.in_ok-reserve_all.ensures.order c.mark_ties.ensures.order in
    if_ok
    (λ (n : Listing). n ≡ c.mark_ties.new.maker)
    (HasSameOrder (without_stock_rows desk L))
    c.finish.result
    (λ n e. subst (HasSameOrder (without_stock_rows desk L)) (sym e) (order_twice (without_stock_rows desk L) M c.mark_ties.new.maker first rest))
    c.finish.ensures.listed
