-- The row of the branch tells how many others are posted.
use Rattle.std.proofs.Common.{ℕ, not, ◌&&◌, eqb, List, length, get_or, is_err, sym, ap, ◌∙◌, arith, rules, tests}
use Rattle.grid.proofs.GridFacts.{row_length, row_others}
use Rattle.grid.proofs.grid.GridRegister.others.Goals as goal
use Rattle.grid.specs.Grid.{grid_branches, grid_posted}
use Rattle.orders.specs.Masks.{has_bit}
use Rattle.refusals.specs.Checks.{in_order}
use Rattle.registers.proofs.PostingFacts.{count_most, others_none, own_numbers}
use Rattle.registers.specs.Meaning.{Inside, number_steps}
use Rattle.search.specs.Searches.{count_below}

pub returns-then-is_err : goal.returns-then-is_err
returns-then-is_err c =
    let s = c.args.self.now in
    let it = c.args.posting in
    let inside : Inside (grid_posted s.cells.now s.branches) (grid_branches s.cells.now s.branches) = search (rules, tests) in
    sym (others_none (grid_posted s.cells.now s.branches) (grid_branches s.cells.now s.branches) it.person it.role it.branch inside
    (sym (c.if-is_err.ensures.value ∙ ap is_err (c.check.ensures.answer ∙ ap (λ n. in_order (number_steps n it.person it.role it.branch)) c.branch_count.ensures))))

pub overflow_cast-result : goal.overflow_cast-result
overflow_cast-result c =
    let s = c.args.self.now in
    let it = c.args.posting in
    let own = own_numbers c.check.result _ (sym c.if-is_err.ensures.value) c.check.ensures.passed in
    let size = row_length s.cells.now s.branches it.branch (omega (arith, c.branch_count.ensures, own.2)) in
    omega (arith, c.others_in.ensures, count_most (λ x. not (eqb x it.person) && has_bit (get_or c.row.result.now x 0) it.role) (length c.row.result.now), ap length c.row.ensures, size)

pub returns : goal.returns
returns c =
    let s = c.args.self.now in
    let it = c.args.posting in
    let own = own_numbers c.check.result _ (sym c.if-is_err.ensures.value) c.check.ensures.passed in
    c.others_in.ensures
    ∙ ap (λ (row : List ℕ). count_below (length row) (λ x. not (eqb x it.person) && has_bit (get_or row x 0) it.role)) c.row.ensures
    ∙ row_others s.cells.now s.branches it.person it.role it.branch own.0 own.1 (omega (arith, c.branch_count.ensures, own.2))
