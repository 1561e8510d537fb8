-- What passed every check gives both orders.
use Rattle.std.proofs.Common.{◌≡◌, Ok, sym, ap, ◌∙◌, subst, rules}
use Rattle.plans.specs.Plan.{Ordered}
use Rattle.plans.specs.Reader.{plan_made, plan_result}
use Rattle.plans.proofs.PlanOrders.{read_orders}
use Rattle.plans.proofs.reader.read.Goals as goal

pub returns-clause-ordered : goal.returns-clause-ordered
unfolding plan_result
returns-clause-ordered c =
    let bytes = c.args.bytes.now in
    let passed : plan_result bytes ≡ Ok tt = search rules in
    subst Ordered (sym (c.fill.ensures ∙ ap (plan_made bytes) c.lay_out-layout.ensures)) (read_orders bytes passed)
