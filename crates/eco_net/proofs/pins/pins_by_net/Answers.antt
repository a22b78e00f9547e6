use Rattle.std.proofs.Common.{◌∙◌, ℕ, [], ap, replicate, arith}
use Rattle.eco_net.specs.declared.ids.PinRef.TheVariants.{Top}
use Rattle.eco_net.specs.PinLists.{Places}
use Rattle.eco_net.proofs.Filling.{counted_few, room_ends, room_few, filled_within, filled_lists}
use Rattle.eco_net.proofs.pins.pins_by_net.Goals as goal

abbrev none : ℕ → Places
none n = record { ends = replicate n 0; pins = [] }

pub with_places-requires : goal.with_places-requires
with_places-requires c =
    omega (arith, counted_few c.args.listed.now c.net_count.ensures.listing c.in_ok-counted.counted c.put_pins.new.on (c.in_ok-counted.ensures ∙ ap none c.net_count.ensures.count) c.put_pins.ensures)

pub put_pins-requires-2-clause-each_net : goal.put_pins-requires-2-clause-each_net
put_pins-requires-2-clause-each_net c =
    room_ends c.args.listed.now c.net_count.ensures.listing c.in_ok-counted.counted c.put_pins.new.on (c.in_ok-counted.ensures ∙ ap none c.net_count.ensures.count) c.put_pins.ensures
    c.in_ok-filled.filled (Top (record { 0 = 0 })) c.in_ok-filled.ensures

pub put_pins-requires-2-clause-few : goal.put_pins-requires-2-clause-few
put_pins-requires-2-clause-few c n =
    omega (
      arith,
      room_few c.args.listed.now c.net_count.ensures.listing c.in_ok-counted.counted c.put_pins.new.on (c.in_ok-counted.ensures ∙ ap none c.net_count.ensures.count) c.put_pins.ensures
          c.in_ok-filled.filled (Top (record { 0 = 0 })) c.in_ok-filled.ensures n,
    )

pub finish-requires : goal.finish-requires
finish-requires c =
    filled_within c.args.listed.now c.net_count.ensures.listing c.in_ok-counted.counted c.put_pins.new.on (c.in_ok-counted.ensures ∙ ap none c.net_count.ensures.count) c.put_pins.ensures
    c.in_ok-filled.filled (Top (record { 0 = 0 })) c.in_ok-filled.ensures c.put_pins-2.new.on c.put_pins-2.ensures

pub returns : goal.returns
returns c =
    c.finish.ensures
    ∙ filled_lists c.args.listed.now c.net_count.ensures.listing c.in_ok-counted.counted c.put_pins.new.on (c.in_ok-counted.ensures ∙ ap none c.net_count.ensures.count) c.put_pins.ensures
    c.in_ok-filled.filled (Top (record { 0 = 0 })) c.in_ok-filled.ensures c.put_pins-2.new.on c.put_pins-2.ensures
