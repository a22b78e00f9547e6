use Rattle.std.proofs.Common.{◌≡◌, ◌∙◌, ◌∷◌, ap, length, arith, slice_index, slice_range, Some, sym}
use Rattle.std.proofs.lemmas.List.{get_or_default}
use Rattle.eco_net.proofs.Filling.{list_within, list_found}
use Rattle.eco_net.proofs.pin_lists.PinLists.pins_of.Goals as goal

pub start_of-start-requires : goal.start_of-start-requires
start_of-start-requires c =
    omega (arith, list_within c.self.inside.ends.items c.self.inside.pins.items c.args.list c.args.self.now c.self.view_is c.requires, ap length c.deref.ensures.value)

pub index-requires : goal.index-requires
index-requires c =
    omega (arith, list_within c.self.inside.ends.items c.self.inside.pins.items c.args.list c.args.self.now c.self.view_is c.requires, c.self.inside.ends.ok.0)

pub slice_bounds-result-count : goal.slice_bounds-result-count
slice_bounds-result-count c =
    let h = list_within c.self.inside.ends.items c.self.inside.pins.items c.args.list c.args.self.now c.self.view_is c.requires in
    let is = c.self.invariant c.args.list h in
    omega (arith, is.0, c.start_of-start.ensures, ap (λ ends. slice_index (0 ∷ ends) c.args.list) c.deref.ensures.value, c.index.ensures, get_or_default c.self.inside.ends.items c.args.list 0 c.index.result.now h)

pub slice_bounds-result-start : goal.slice_bounds-result-start
slice_bounds-result-start c =
    let h = list_within c.self.inside.ends.items c.self.inside.pins.items c.args.list c.args.self.now c.self.view_is c.requires in
    let is = c.self.invariant c.args.list h in
    omega (arith, is.0, is.1, c.start_of-start.ensures, ap (λ ends. slice_index (0 ∷ ends) c.args.list) c.deref.ensures.value, ap length c.deref-2.ensures.value, c.index.ensures, get_or_default c.self.inside.ends.items c.args.list 0 c.index.result.now h)

pub slice_bounds-result-end : goal.slice_bounds-result-end
slice_bounds-result-end c =
    let h = list_within c.self.inside.ends.items c.self.inside.pins.items c.args.list c.args.self.now c.self.view_is c.requires in
    let is = c.self.invariant c.args.list h in
    omega (arith, is.0, is.1, c.start_of-start.ensures, ap (λ ends. slice_index (0 ∷ ends) c.args.list) c.deref.ensures.value, ap length c.deref-2.ensures.value, c.index.ensures, get_or_default c.self.inside.ends.items c.args.list 0 c.index.result.now h)

pub returns : goal.returns
returns c =
    let h = list_within c.self.inside.ends.items c.self.inside.pins.items c.args.list c.args.self.now c.self.view_is c.requires in
    let start : c.start_of-start.result ≡ slice_index (0 ∷ c.self.inside.ends.items) c.args.list = c.start_of-start.ensures ∙ ap (λ ends. slice_index (0 ∷ ends) c.args.list) c.deref.ensures.value in
    let end : c.index.result.now ≡ slice_index c.self.inside.ends.items c.args.list = c.index.ensures ∙ get_or_default c.self.inside.ends.items c.args.list c.index.result.now 0 h in
    list_found c.self.inside.ends.items c.self.inside.pins.items c.args.list c.args.self.now c.self.view_is c.requires
    ∙ sym (λ i. Some (slice_range (c.deref-2.ensures.value i) (start i) (end i)))
