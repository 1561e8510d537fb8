use Rattle.std.proofs.Common.{rules, tests}
use Rattle.plans.specs.Role.{no_role}
use Rattle.plans.proofs.Filled.{mapped}
use Rattle.plans.proofs.plan.rows_of.Goals as goal

pub returns : goal.returns
returns c =
    let xs = c.args.roles.now in
    mapped _ (λ x. x.row) _ xs c.map.result 16 no_role (λ p q x y called. search (rules, tests)) (search rules) c.map.ensures.items
