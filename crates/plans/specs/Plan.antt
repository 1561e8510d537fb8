-- The plan and what the orders take from it.
use Rattle.std.specs.Prelude.{◌≡◌, ℕ, List, map, replicate, Ok}
use Rattle.orders.specs.Parents.{parents_checked}
use Rattle.orders.specs.Rows.{rows_checked}
use Rattle.plans.specs.declared.branch.Branch.{Branch}
use Rattle.plans.specs.declared.role.Role.{Role}
use Rattle.plans.specs.declared.plan.Plan.{Plan}
use Rattle.plans.specs.Branch.{no_branch}
use Rattle.plans.specs.Role.{no_role}
use Rattle.plans.specs.Line.{no_line}
use Rattle.plans.specs.Set.{no_set}
use Rattle.plans.specs.Piece.{no_piece}

-- the parent of each branch
abbrev pub parents_of : List Branch → List ℕ
parents_of branches = map (λ branch. branch.parent) branches

-- the row of each role
abbrev pub rows_of : List Role → List ℕ
rows_of roles = map (λ role. role.row) roles

-- the plan gives both orders: its parents and its rows pass
pub record Ordered (plan : Plan) : Type 0 where
  pub branches : parents_checked (parents_of plan.branches) plan.branch_count ≡ Ok tt
  pub roles : rows_checked 16 (rows_of plan.roles) plan.role_count ≡ Ok tt

-- the plan that holds nothing
unfoldable pub empty_plan : Plan
empty_plan =
    record {
      branches = replicate 64 no_branch;
      branch_count = 0;
      roles = replicate 16 no_role;
      role_count = 0;
      principal = 0;
      grants = replicate 64 no_line;
      grant_count = 0;
      takes = replicate 64 no_line;
      take_count = 0;
      sets = replicate 8 no_set;
      set_count = 0;
      pieces = replicate 1024 no_piece;
      piece_count = 0;
    }
