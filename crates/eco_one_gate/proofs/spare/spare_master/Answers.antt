use Rattle.std.proofs.Common.{◌≡◌, ◌∙◌, sym, ap, length, List, Some}
use Rattle.std.specs.List.{position}
use Rattle.std.specs.Str.{bytes_eq}
use Rattle.eco_base.specs.declared.stock.Spare.{Spare}
use Rattle.eco_one_gate.proofs.Spares.{no_spare, in_stock, spare_at, spare_gate, one_output}
use Rattle.eco_one_gate.proofs.spare.spare_master.Goals as goal

pub returns-in_default : goal.returns-in_default
returns-in_default c =
    no_spare c.args.base.now c.stock.ensures.open c.args.name.now
    (ap (λ (ss : List Spare). position (λ (s : Spare). bytes_eq s.name c.args.name.now) ss) (sym c.stock.ensures.value) ∙ sym c.in_default.ensures)

pub returns-then-outputs-eq1 : goal.returns-then-outputs-eq1
returns-then-outputs-eq1 c =
    let at : position (λ (s : Spare). bytes_eq s.name c.args.name.now) c.args.base.now.stock ≡ Some c.in-Some.place = ap (λ (ss : List Spare). position (λ (s : Spare). bytes_eq s.name c.args.name.now) ss) (sym c.stock.ensures.value) ∙ sym c.in-Some.ensures in
    spare_gate c.args.base.now c.stock.ensures.open c.args.name.now c.spare_fn-master.result.now
    (spare_at c.args.base.now c.stock.ensures.open c.args.name.now c.in-Some.place at c.spare_fn-master.result.now c.spare_fn-master.ensures.value)
    c.outputs.ensures.is_master
    (sym (ap length c.outputs.ensures.value) ∙ c.if-outputs-eq1.true)

pub returns-else-outputs-eq1 : goal.returns-else-outputs-eq1
returns-else-outputs-eq1 c s =
    let at : position (λ (s : Spare). bytes_eq s.name c.args.name.now) c.args.base.now.stock ≡ Some c.in-Some.place = ap (λ (ss : List Spare). position (λ (s : Spare). bytes_eq s.name c.args.name.now) ss) (sym c.stock.ensures.value) ∙ sym c.in-Some.ensures in
    c.if-outputs-eq1.false (ap length c.outputs.ensures.value
    ∙ one_output c.args.base.now c.stock.ensures.open c.args.name.now c.spare_fn-master.result.now
    (spare_at c.args.base.now c.stock.ensures.open c.args.name.now c.in-Some.place at c.spare_fn-master.result.now c.spare_fn-master.ensures.value)
    s)

pub spare_fn-master-requires : goal.spare_fn-master-requires
spare_fn-master-requires c =
    in_stock c.args.base.now c.stock.ensures.open c.args.name.now c.in-Some.place
    (ap (λ (ss : List Spare). position (λ (s : Spare). bytes_eq s.name c.args.name.now) ss) (sym c.stock.ensures.value) ∙ sym c.in-Some.ensures)
