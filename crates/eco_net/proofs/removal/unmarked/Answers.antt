use Rattle.std.proofs.Common.{◌∙◌, cond, [], ◌∷◌, ◌++◌, length, sym, ap, arith}
use Rattle.std.specs.List.{zip}
use Rattle.std.specs.Slice.Iter.{iter_rest}
use Rattle.std.specs.Vec.Iter.{into_iter_items, into_iter_len}
use Rattle.std.specs.Iterator.Adapters.{zip_first, zip_second}
use Rattle.std.proofs.lemmas.List.{length_push, take_all}
use Rattle.std.proofs.lemmas.Iterator.{YieldsList-from_slice, YieldsList-from_zip}
use Rattle.std.proofs.lemmas.Iterator.Adapters.{YieldsList-from_vec}
use Rattle.std.proofs.lemmas.Iterator.Consumers.{YieldsList-turn, YieldsList-end}
use Rattle.eco_net.proofs.Removed.{unmarked_of, unmarked_more}
use Rattle.eco_net.proofs.removal.unmarked.Goals as goal

pub loop-marked-preserved : goal.loop-marked-preserved
loop-marked-preserved c =
    let h = c.zip-marked-items.ensures in
    let g = c.into_iter-marked-iterator.ensures.into_iter_gives in
    let marks = YieldsList-from_slice c.args.marks.now (ap (λ s. iter_rest (zip_first s)) g ∙ ap iter_rest h.first ∙ c.iter.ensures.rest) in
    let rows = YieldsList-from_vec c.args.comps.items (ap (λ s. into_iter_items (zip_second s)) g ∙ h.second.0) (ap (λ s. into_iter_len (zip_second s)) g ∙ h.second.1 ∙ c.args.comps.ok.0) in
    let turn = YieldsList-turn (YieldsList-from_zip marks rows) c.loop-marked.yielded c.loop-marked.marked-iterator c.loop-marked.yielded_by c.next.result c.next.new.self (c.in-Some.marked, c.in-Some.row) c.in-Some.is c.next.ensures.steps in
    c.in_ok-add_unmarked.ensures
    ∙ ap (λ left. left ++ cond c.in-Some.marked.now [] (c.in-Some.row ∷ [])) c.loop-marked.invariant
    ∙ sym (unmarked_more (zip c.args.marks.now c.args.comps.items) (length c.loop-marked.yielded) _ (c.in-Some.marked.now, c.in-Some.row) (length_push c.loop-marked.yielded (c.in-Some.marked, c.in-Some.row)) turn.0 turn.1)

pub returns : goal.returns
returns c =
    let h = c.zip-marked-items.ensures in
    let g = c.into_iter-marked-iterator.ensures.into_iter_gives in
    let marks = YieldsList-from_slice c.args.marks.now (ap (λ s. iter_rest (zip_first s)) g ∙ ap iter_rest h.first ∙ c.iter.ensures.rest) in
    let rows = YieldsList-from_vec c.args.comps.items (ap (λ s. into_iter_items (zip_second s)) g ∙ h.second.0) (ap (λ s. into_iter_len (zip_second s)) g ∙ h.second.1 ∙ c.args.comps.ok.0) in
    let end = YieldsList-end (YieldsList-from_zip marks rows) c.loop-marked.yielded c.loop-marked.marked-iterator c.loop-marked.yielded_by c.next.result c.next.new.self c.in-None.is c.next.ensures.steps in
    c.loop-marked.invariant ∙ ap unmarked_of (take_all (length c.loop-marked.yielded) (zip c.args.marks.now c.args.comps.items) (omega (arith, end.1)))
