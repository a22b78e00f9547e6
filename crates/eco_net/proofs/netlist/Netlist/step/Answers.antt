use Rattle.std.proofs.Common.{◌<◌, ◌∙◌, ◌++◌, ◌∷◌, [], ap, sym, refl, subst, Some, ℕ, slice_set, arith, length, sum_by, true≢false}
use Rattle.std.proofs.lemmas.Option.{slice_get_read}
use Rattle.eco_net.specs.declared.search.Mark.TheVariants.{Unseen, Open, Done}
use Rattle.eco_net.specs.Gates.{FeedsNet}
use Rattle.eco_net.specs.Among.{Has}
use Rattle.eco_net.specs.Search.{IsMark, IsSearch, Stays, Chain, IsRing, weight}
use Rattle.eco_net.proofs.Searching.{entered, left, set_stays, lighter, push_chain, open_unseen, done_unseen}
use Rattle.eco_net.proofs.SearchPaths.{on_ok, on_ok3, last_known, last_marked, met_marked, last_has, met_unseen, ring_is}
use Rattle.eco_net.proofs.netlist.Netlist.step.Goals as goal

pub next_unfinished-requires-clause-known : goal.next_unfinished-requires-clause-known
next_unfinished-requires-clause-known c = last_known _ _ _ _ c.requires.is_search c.args.net c.requires.last

pub leave-requires : goal.leave-requires
leave-requires c = record { known = last_marked _ _ _ _ c.requires.is_search c.args.net c.requires.last }

pub index-requires : goal.index-requires
index-requires c =
    let h = met_marked _ _ _ _ c.requires.is_search c.in-Some.input c.args.net c.in-Some.ensures.0 in
    omega (arith, h, c.args.search.now.marks.ok.0)

pub ring-requires : goal.ring-requires
ring-requires c =
    let ms = c.args.search.now.marks.items in
    let h = met_marked _ _ _ _ c.requires.is_search c.in-Some.input c.args.net c.in-Some.ensures.0 in
    let open_ : IsMark ms c.in-Some.input Open = slice_get_read ms (length ms) c.in-Some.input c.index.result.now refl h c.index.ensures ∙ ap Some (c.is_open.ensures.0 c.if-is_open.true) in
    subst (λ p. Has p c.in-Some.input) (sym c.deref-then-is_open.ensures.value) ((c.requires.is_search.on_path c.in-Some.input).1 open_)

pub returns-then-is_open-clause-stop : goal.returns-then-is_open-clause-stop
returns-then-is_open-clause-stop c =
    let L = c.args.self.now in
    let w = c.in_ok-ring-in-Some.ensures in
    let is = c.requires.is_search in
    subst (IsRing L) (sym w.3) (ring_is L c.args.search.now.path.items w.0 c.requires.last.0 w.1 c.args.net c.in-Some.input is.chain is.path_distinct c.requires.last.1 (sym c.deref-then-is_open.ensures.value ∙ w.2) c.in-Some.ensures.0)

pub enter-requires : goal.enter-requires
enter-requires c = record { known = met_marked _ _ _ _ c.requires.is_search c.in-Some.input c.args.net c.in-Some.ensures.0 }

pub returns-in-None-clause-is_search : goal.returns-in-None-clause-is_search
returns-in-None-clause-is_search c =
    let L = c.args.self.now in
    let s = c.args.search.now in
    let n = c.args.net in
    let e = c.requires.last in
    let done : (a : ℕ) → FeedsNet L a n → IsMark s.marks.items a Done = λ a r. subst (λ ms. IsMark ms a Done) c.deref.ensures.value (c.in-None.ensures a r) in
    on_ok3 c.leave.result (λ p q o.
    subst (λ ms. IsSearch L ms c.leave.new.search.path.items c.leave.new.search.order.items) (sym p)
    (subst (λ xs. IsSearch L (slice_set s.marks.items n Done) xs c.leave.new.search.order.items) (sym (q e.0 e.1))
    (subst (λ xs. IsSearch L (slice_set s.marks.items n Done) e.0 xs) (sym o) (left L s.marks.items s.path.items s.order.items c.requires.is_search e.0 n e.1 done))))
    c.leave.ensures.marks c.leave.ensures.path c.leave.ensures.order

pub returns-in-None-clause-lighter : goal.returns-in-None-clause-lighter
returns-in-None-clause-lighter c =
    let ms = c.args.search.now.marks.items in
    let here = (c.requires.is_search.on_path c.args.net).0 (last_has _ c.args.net c.requires.last) in
    on_ok c.leave.result (λ p. subst (λ xs. sum_by weight xs < sum_by weight ms) (sym p) (lighter ms c.args.net Done Open here (omega arith))) c.leave.ensures.marks

pub returns-in-None-clause-stays : goal.returns-in-None-clause-stays
returns-in-None-clause-stays c =
    let ms = c.args.search.now.marks.items in
    let here = (c.requires.is_search.on_path c.args.net).0 (last_has _ c.args.net c.requires.last) in
    on_ok c.leave.result (λ p. subst (Stays ms) (sym p) (set_stays ms c.args.net Done Open here done_unseen)) c.leave.ensures.marks

pub returns-else-is_open-clause-is_search : goal.returns-else-is_open-clause-is_search
returns-else-is_open-clause-is_search c =
    let h = met_marked _ _ _ _ c.requires.is_search c.in-Some.input c.args.net c.in-Some.ensures.0 in
    let met = met_unseen c.args.search.now.marks.items c.in-Some.input c.index.result.now h c.index.ensures (λ o. true≢false (sym (c.is_open.ensures.1 o) ∙ c.if-is_open.false)) (λ d. c.in-Some.ensures.1 (subst (λ xs. IsMark xs c.in-Some.input Done) (sym c.deref.ensures.value) d)) in
    let L = c.args.self.now in
    let s = c.args.search.now in
    let a = c.in-Some.input in
    let r = c.in-Some.ensures.0 in
    let e = c.requires.last in
    let chain : Chain L (s.path.items ++ a ∷ []) = subst (λ p. Chain L (p ++ a ∷ [])) (sym e.1) (push_chain L e.0 c.args.net a (subst (Chain L) e.1 c.requires.is_search.chain) r) in
    on_ok3 c.enter.result (λ p q o.
    subst (λ ms. IsSearch L ms c.enter.new.search.path.items c.enter.new.search.order.items) (sym p)
    (subst (λ xs. IsSearch L (slice_set s.marks.items a Open) xs c.enter.new.search.order.items) (sym q)
    (subst (λ xs. IsSearch L (slice_set s.marks.items a Open) (s.path.items ++ a ∷ []) xs) (sym o) (entered L s.marks.items s.path.items s.order.items c.requires.is_search a met (r.source, r.from) chain))))
    c.enter.ensures.marks c.enter.ensures.path c.enter.ensures.order

pub returns-else-is_open-clause-lighter : goal.returns-else-is_open-clause-lighter
returns-else-is_open-clause-lighter c =
    let h = met_marked _ _ _ _ c.requires.is_search c.in-Some.input c.args.net c.in-Some.ensures.0 in
    let met = met_unseen c.args.search.now.marks.items c.in-Some.input c.index.result.now h c.index.ensures (λ o. true≢false (sym (c.is_open.ensures.1 o) ∙ c.if-is_open.false)) (λ d. c.in-Some.ensures.1 (subst (λ xs. IsMark xs c.in-Some.input Done) (sym c.deref.ensures.value) d)) in
    let ms = c.args.search.now.marks.items in
    on_ok c.enter.result (λ p. subst (λ xs. sum_by weight xs < sum_by weight ms) (sym p) (lighter ms c.in-Some.input Open Unseen met (omega arith))) c.enter.ensures.marks

pub returns-else-is_open-clause-stays : goal.returns-else-is_open-clause-stays
returns-else-is_open-clause-stays c =
    let h = met_marked _ _ _ _ c.requires.is_search c.in-Some.input c.args.net c.in-Some.ensures.0 in
    let met = met_unseen c.args.search.now.marks.items c.in-Some.input c.index.result.now h c.index.ensures (λ o. true≢false (sym (c.is_open.ensures.1 o) ∙ c.if-is_open.false)) (λ d. c.in-Some.ensures.1 (subst (λ xs. IsMark xs c.in-Some.input Done) (sym c.deref.ensures.value) d)) in
    let ms = c.args.search.now.marks.items in
    on_ok c.enter.result (λ p. subst (Stays ms) (sym p) (set_stays ms c.in-Some.input Open Unseen met open_unseen)) c.enter.ensures.marks
