use Rattle.std.proofs.Common.{◌≡◌, ◌∷◌, ◌++◌, [], ◌∙◌, ap, sym, subst, map, length, take, suc, arith, List}
use Rattle.std.specs.List.{zip}
use Rattle.std.proofs.lemmas.List.{length_push}
use Rattle.std.proofs.lemmas.Slice.Zip.{zip_turn, zip_end}
use Rattle.eco_net.specs.Netlist.{Name}
use Rattle.eco_embed.specs.declared.feed.Feed.{Feed}
use Rattle.eco_patch_laws.specs.Realisation.{feed_joints}
use Rattle.eco_one_gate.specs.OneGates.{gate_of}
use Rattle.eco_overlay.specs.PinMoves.{joint_by_names}
use Rattle.eco_one_gate.proofs.FedPins.{zip_more, zip_whole, fed_more}
use Rattle.eco_one_gate.proofs.gate_joints.add_all_fed.Goals as goal

pub loop-pin-preserved : goal.loop-pin-preserved
loop-pin-preserved c =
    let one = c.args.one.now in
    let feeds = one.feeds.items in
    let pins = c.args.pins.now in
    let first : c.into_iter-pin-iterator.result.a.rest.now ≡ pins = ap (λ z. z.a.rest.now) c.into_iter-pin-iterator.ensures.into_iter_gives ∙ ap (λ z. z.rest.now) c.zip-pin-items.ensures.first ∙ c.iter.ensures.rest in
    let second : c.into_iter-pin-iterator.result.b.rest.now ≡ feeds = ap (λ z. z.b.rest.now) c.into_iter-pin-iterator.ensures.into_iter_gives ∙ ap (λ z. z.rest.now) c.zip-pin-items.ensures.second ∙ c.iter-2.ensures.rest ∙ c.deref.ensures.value in
    let t = zip_turn pins feeds c.loop-pin.yielded c.into_iter-pin-iterator.result c.loop-pin.pin-iterator c.next.new.self c.next.result first second c.loop-pin.yielded_by (c.in-Some.pin, c.in-Some.feed) c.in-Some.is c.next.ensures.steps in
    let pairs : List (Name × Feed) = zip pins feeds in
    let n = length c.loop-pin.yielded in
    let more = zip_more pins feeds n c.in-Some.pin.now c.in-Some.feed.now t.0 t.1 t.2 t.3 in
    let longer : suc n ≡ length (c.loop-pin.yielded ++ (c.in-Some.pin, c.in-Some.feed) ∷ []) = omega (arith, length_push c.loop-pin.yielded (c.in-Some.pin, c.in-Some.feed)) in
    subst (λ (ps : List (Name × Feed)). map joint_by_names c.add_fed.new.joints.items ≡ map joint_by_names c.args.joints.now.items ++ feed_joints c.args.low.now c.args.high.now (gate_of one) one.spare ps)
    (sym more ∙ ap (λ k. take k pairs) longer)
    (fed_more c.args.low.now c.args.high.now (gate_of one) one.spare (take n pairs) c.args.joints.now.items (c.in-Some.pin.now, c.in-Some.feed.now) c.loop-pin.joints.items c.add_fed.new.joints.items c.loop-pin.invariant c.in_ok-add_fed.ensures)

pub returns : goal.returns
returns c =
    let one = c.args.one.now in
    let feeds = one.feeds.items in
    let pins = c.args.pins.now in
    let first : c.into_iter-pin-iterator.result.a.rest.now ≡ pins = ap (λ z. z.a.rest.now) c.into_iter-pin-iterator.ensures.into_iter_gives ∙ ap (λ z. z.rest.now) c.zip-pin-items.ensures.first ∙ c.iter.ensures.rest in
    let second : c.into_iter-pin-iterator.result.b.rest.now ≡ feeds = ap (λ z. z.b.rest.now) c.into_iter-pin-iterator.ensures.into_iter_gives ∙ ap (λ z. z.rest.now) c.zip-pin-items.ensures.second ∙ c.iter-2.ensures.rest ∙ c.deref.ensures.value in
    let count = zip_end pins feeds c.loop-pin.yielded c.into_iter-pin-iterator.result c.loop-pin.pin-iterator c.next.new.self c.next.result first second c.loop-pin.yielded_by c.in-None.is c.next.ensures.steps in
    subst (λ (ps : List (Name × Feed)). map joint_by_names c.loop-pin.joints.items ≡ map joint_by_names c.args.joints.now.items ++ feed_joints c.args.low.now c.args.high.now (gate_of one) one.spare ps)
    (zip_whole pins feeds (length c.loop-pin.yielded) count)
    c.loop-pin.invariant
