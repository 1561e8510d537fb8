-- What a grid means: the cell of branch b and person p stands at b * 64 + p, and its bit r posts p to role r at b.
use Rattle.std.specs.Prelude.{ℕ, ◌+◌, ◌*◌, ◌/◌, min, Bool, cond, ◌&&◌, List, length, Result, nat_le, nat_lt, slice_index}
use Rattle.orders.specs.Masks.{has_bit}
use Rattle.refusals.specs.Checks.{must}
use Rattle.registers.specs.declared.fault.RegisterFault.{RegisterFault}
use Rattle.registers.specs.declared.fault.RegisterFault.TheVariants.{Unfit}

-- as many branches as were asked for, where there is a row of 64 cells for each
abbrev pub grid_branches : List ℕ → ℕ → ℕ
grid_branches cells branches = min branches (length cells / 64)

-- who is posted, as the cells say
abbrev pub grid_posted : List ℕ → ℕ → ℕ → ℕ → ℕ → Bool
grid_posted cells branches person role branch =
    nat_lt person 64 && (nat_lt role 16 && (nat_lt branch (grid_branches cells branches) && has_bit (slice_index cells (branch * 64 + person)) role))

-- a branch has room for each of 64 persons in each of 16 roles
abbrev pub grid_share : List ℕ → ℕ → ℕ → ℕ
grid_share cells branches branch = cond (nat_lt branch (grid_branches cells branches)) 1024 0

-- the items of memory are a row for each branch at least, or they are unfit
abbrev pub grid_checked : ℕ → ℕ → Result (Unit {0}) RegisterFault
grid_checked items branches = must (nat_le (64 * branches) items) (Unfit items)
