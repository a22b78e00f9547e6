use Rattle.std.proofs.Common.{◌++◌, ◌∷◌, [], sym, subst, slice_set, List, ℕ}
use Rattle.eco_net.specs.declared.search.Mark.TheVariants.{Unseen, Open}
use Rattle.eco_net.specs.Search.{IsMark, IsSearch, Stays, Chain}
use Rattle.eco_net.proofs.Searching.{entered, set_stays, mark_same, one_mark, open_unseen}
use Rattle.eco_net.proofs.netlist.Netlist.settle.Goals as goal

pub loop-net-init : goal.loop-net-init
loop-net-init c =
    let L = c.args.self.now in
    let s = c.args.search.now in
    let a = c.args.root in
    let e = c.in_ok-enter.ensures in
    let chain : Chain L (s.path.items ++ a ∷ []) = subst (λ (p : List ℕ). Chain L (p ++ a ∷ [])) (sym c.requires.no_path) tt in
    record {
      is_search =
          subst (λ ms. IsSearch L ms c.enter.new.search.path.items c.enter.new.search.order.items) (sym e.marks)
          (subst (λ xs. IsSearch L (slice_set s.marks.items a Open) xs c.enter.new.search.order.items) (sym e.path)
          (subst (λ xs. IsSearch L (slice_set s.marks.items a Open) (s.path.items ++ a ∷ []) xs) (sym e.order)
          (entered L s.marks.items s.path.items s.order.items c.requires.is_search a c.requires.unseen c.requires.computed chain)));
      stays = subst (Stays s.marks.items) (sym e.marks) (set_stays s.marks.items a Open Unseen c.requires.unseen open_unseen);
      seen = λ u. open_unseen (one_mark (slice_set s.marks.items a Open) a Open Unseen (mark_same s.marks.items a Open Unseen c.requires.unseen) (subst (λ ms. IsMark ms a Unseen) e.marks u));
    }
