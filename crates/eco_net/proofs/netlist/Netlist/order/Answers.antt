use Rattle.std.proofs.Common.{◌≡◌, ◌∙◌, [], ap, sym, subst, length, arith, ⊎_elim, replicate}
use Rattle.eco_net.specs.declared.search.Mark.{Mark}
use Rattle.eco_net.specs.declared.search.Mark.TheVariants.{Unseen}
use Rattle.eco_net.specs.Listing.{Listing}
use Rattle.eco_net.specs.Search.{IsMark, IsSearch, IsComputedNet}
use Rattle.eco_net.proofs.SearchPaths.{begun, ordered, lt_cases}
use Rattle.eco_net.proofs.netlist.Netlist.order.Goals as goal

pub loop-net-init : goal.loop-net-init
loop-net-init c =
    let L = c.args.self.now in
    let n : c.net_count-nets.result ≡ length L.nets = c.net_count-nets.ensures.count ∙ ap (λ (M : Listing). length M.nets) c.self.view_is in
    record {
      is_search =
          subst (λ ms. IsSearch L ms c.new.result.items c.new-2.result.items) (sym (c.in_ok-no_marks.ensures ∙ ap (λ k. replicate {A = Mark} k Unseen) n))
          (subst (λ xs. IsSearch L (replicate (length L.nets) Unseen) xs c.new-2.result.items) (sym c.new.ensures.items)
          (subst (λ xs. IsSearch L (replicate (length L.nets) Unseen) [] xs) (sym c.new-2.ensures.items) (begun L)));
      no_path = c.new.ensures.items;
      seen = λ k h. absurd (omega arith);
    }

pub loop-net-preserved : goal.loop-net-preserved
loop-net-preserved c =
    let L = c.args.self.now in
    let e = c.in_ok-visit.ensures in
    record {
      is_search = e.is_search;
      no_path = e.no_path;
      seen = λ k h m u. ⊎_elim
          (λ l. c.loop-net.invariant.seen k l m (e.stays k u))
          (λ s. e.seen (subst (IsComputedNet L) s m) (subst (λ j. IsMark c.visit.new.search.marks.items j Unseen) s u))
          (lt_cases k c.loop-net.net h);
    }

pub returns-clause-ok : goal.returns-clause-ok
returns-clause-ok c =
    let L = c.args.self.now in
    let n : c.net_count-nets.result ≡ length L.nets = c.net_count-nets.ensures.count ∙ ap (λ (M : Listing). length M.nets) c.self.view_is in
    let i = c.loop-net.invariant in
    ordered L c.loop-net.search.marks.items c.loop-net.search.path.items c.loop-net.search.order.items i.is_search i.no_path (λ k h. i.seen k (omega (arith, h, n, c.loop-net-test.false)))
