use Rattle.std.proofs.Common.{◌≡◌, Ok}
use Rattle.orders.proofs.parents.Parents.new.Given as goal
use Rattle.orders.specs.Parents.{parent_check}
use Rattle.refusals.specs.Checks.{every}

-- the members so far have lower parents
abbrev pub invariant-loop-m : goal.invariant-loop-m
invariant-loop-m l = every l.m (parent_check l.parents) ≡ Ok tt
