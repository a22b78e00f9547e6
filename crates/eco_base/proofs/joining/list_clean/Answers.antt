use Rattle.std.proofs.Common.{◌≡◌, true, false, rules}
use Rattle.eco_elaborate.specs.declared.fault.DesignFault.TheVariants.{Memory}
use Rattle.eco_base.proofs.Fitting.{refused_known, clean_known, not_clean, right_known}
use Rattle.eco_base.proofs.joining.list_clean.Goals as goal

pub list_numbered-requires : goal.list_numbered-requires
list_numbered-requires c = rw (c.text.ensures.value, c.design.ensures) c.text.ensures.read.reading

pub returns-in-Err : goal.returns-in-Err
returns-in-Err c =
    let other : c.in-Err.field-0 ≡ Memory → ⊥ = search rules in
    record {
      lists = refused_known c.args.texts.now c.args.table.now c.text.result.now c.design.result.now c.requires.table c.text.ensures.value c.design.ensures c.text.ensures.read c.requires.fit c.in-Err.field-0 other c.in-Err.ensures.lists;
      memory = tt;
    }

pub returns-then-branch-clause-lists : goal.returns-then-branch-clause-lists
returns-then-branch-clause-lists c =
    clean_known c.args.texts.now c.args.table.now c.text.result.now c.design.result.now c.requires.table c.text.ensures.value c.design.ensures c.text.ensures.read c.in-Ok.maker c.in-Ok.ensures.lists c.in-Ok.ensures.numbers
    (right_known c.args.texts.now c.text-2.result.now c.design-2.result.now c.text-2.ensures.value c.design-2.ensures c.in_ok-tops_agree.field-0 true c.in_ok-tops_agree.ensures c.if-branch.true)

pub returns-else-branch-clause-lists : goal.returns-else-branch-clause-lists
returns-else-branch-clause-lists c =
    not_clean c.args.texts.now c.text.ensures.read
    (right_known c.args.texts.now c.text-2.result.now c.design-2.result.now c.text-2.ensures.value c.design-2.ensures c.in_ok-tops_agree.field-0 false c.in_ok-tops_agree.ensures c.if-branch.false)
