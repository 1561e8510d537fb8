use Rattle.std.proofs.Common.{rules, tests}
use Rattle.plans.specs.Branch.{no_branch}
use Rattle.plans.proofs.Filled.{mapped}
use Rattle.plans.proofs.plan.parents_of.Goals as goal

pub returns : goal.returns
returns c =
    let xs = c.args.branches.now in
    mapped _ (λ x. x.parent) _ xs c.map.result 64 no_branch (λ p q x y called. search (rules, tests)) (search rules) c.map.ensures.items
