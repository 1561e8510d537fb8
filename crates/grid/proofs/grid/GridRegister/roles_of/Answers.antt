-- A cell has a bit for just the roles that the person is posted to.
use Rattle.std.proofs.Common.{◌<◌, get_or, ap, ◌∙◌, subst, arith, rules}
use Rattle.grid.proofs.GridFacts.{grid_mask}
use Rattle.grid.proofs.grid.GridRegister.roles_of.Goals as goal
use Rattle.grid.specs.Grid.{grid_branches}
use Rattle.orders.specs.Masks.{has_bit}

pub returns-then-branch-branch_count : goal.returns-then-branch-branch_count
returns-then-branch-branch_count c q =
    let s = c.args.self.now in
    let branch : c.args.branch < grid_branches s.cells.now s.branches = omega arith in
    ap (λ k. has_bit (get_or s.cells.now k 0) q) c.place.ensures
    ∙ grid_mask s.cells.now s.branches c.args.person q c.args.branch (omega arith) branch
    (subst (λ k. get_or s.cells.now k 0 < 65536) c.place.ensures (search rules))
