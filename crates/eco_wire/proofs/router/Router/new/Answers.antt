use Rattle.std.proofs.Common.{ap, ◌∙◌}
use Rattle.std.specs.Prelude.{codes}
use Rattle.eco_wire.specs.Table.{table, with_text}
use Rattle.eco_wire.specs.declared.routes.Pattern.TheVariants.{Front, Spares, Order, Revision, Plan, Commit, Withdraw, Hold, Release}
use Rattle.eco_wire.proofs.router.Router.new.Goals as goal

pub invariant_of-result : goal.invariant_of-result
unfolding table
invariant_of-result c =
    record {
      rows =
          c.in_ok-add-9.ensures ∙ ap (with_text (codes "/release") Release) (
          c.in_ok-add-8.ensures ∙ ap (with_text (codes "/hold") Hold) (
          c.in_ok-add-7.ensures ∙ ap (with_text (codes "/withdraw") Withdraw) (
          c.in_ok-add-6.ensures ∙ ap (with_text (codes "/commit") Commit) (
          c.in_ok-add-5.ensures ∙ ap (with_text (codes "/plan") Plan) (
          c.in_ok-add-4.ensures ∙ ap (with_text (codes "/revision/{n}/def") Revision) (
          c.in_ok-add-3.ensures ∙ ap (with_text (codes "/orders/{name}") Order) (
          c.in_ok-add-2.ensures ∙ ap (with_text (codes "/spares") Spares) (
          c.in_ok-add.ensures ∙ ap (with_text (codes "/front") Front) c.new-patterns.ensures))))))));
    }
