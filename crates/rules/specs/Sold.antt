-- What is sold with a plan: its two orders, and a register that is a grid.
use Rattle.std.specs.Prelude.{◌≡◌, ℕ, ◌<◌, cond, List, Ok, nat_lt}
use Rattle.orders.specs.Parents.{tree_above}
use Rattle.orders.specs.Rows.{row_above}
use Rattle.plans.specs.Layout.{layout_of}
use Rattle.plans.specs.Plan.{Ordered, parents_of, rows_of}
use Rattle.plans.specs.Reader.{plan_made, plan_result}
use Rattle.plans.specs.declared.plan.Plan.{Plan}
use Rattle.rules.specs.Isolation.{Sound}
use Rattle.rules.specs.Setup.{Hierarchy, Setup}

-- the order of the branches of a plan, by their parents
abbrev pub branch_order : Plan → Hierarchy
branch_order plan = record { members = plan.branch_count; above = tree_above (parents_of plan.branches) plan.branch_count }

-- the order of the roles of a plan, by their rows
abbrev pub role_order : Plan → Hierarchy
role_order plan = record { members = plan.role_count; above = row_above (rows_of plan.roles) plan.role_count }

-- what is sold with a plan and a grid: its own orders, and 1,024 postings at each of its branches
abbrev pub sold_with : Plan → Setup
sold_with plan =
    record {
      plan = plan;
      branches = branch_order plan;
      roles = role_order plan;
      register_branches = plan.branch_count;
      share = λ branch. cond (nat_lt branch plan.branch_count) 1024 0;
    }

-- every plan that has a branch and gives both orders meets the conditions of the isolation law
abbrev pub PlansSound : Type 0
PlansSound = (plan : Plan) → 0 < plan.branch_count → Ordered plan → Sound (sold_with plan)

-- and so does every plan that was read
abbrev pub ReadPlansSound : Type 0
ReadPlansSound = (bytes : List ℕ) → plan_result bytes ≡ Ok tt → Sound (sold_with (plan_made bytes (layout_of bytes)))
