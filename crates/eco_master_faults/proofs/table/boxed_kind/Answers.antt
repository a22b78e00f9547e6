use Rattle.std.proofs.Common.{◌≡◌, ◌<◌, ◌^◌, length, ap, arith}
use Rattle.eco_master_faults.proofs.MadeKinds.{box_kind}
use Rattle.eco_master_faults.proofs.table.boxed_kind.Goals as goal

pub returns : goal.returns
returns c =
    let pins = c.in_ok-pins.pins.items in
    let all : length c.as_slice-count.result.now ≡ length pins = ap length c.as_slice-count.ensures.value in
    let few : length pins < 2 ^ 32 = omega arith in
    box_kind c.args.master.now pins c.in_ok-of.field-0 c.in_ok-pins.ensures c.in_ok-of.ensures few c.requires
