use Rattle.std.proofs.Common.{◌≡◌, Ok}
use Rattle.orders.proofs.rows.Rows.new.Given as goal
use Rattle.orders.specs.Rows.{row_check}
use Rattle.refusals.specs.Checks.{every}

-- the rows so far stand
abbrev pub invariant-loop-q : goal.invariant-loop-q
invariant-loop-q l = every l.q (row_check 16 l.rows l.count) ≡ Ok tt
