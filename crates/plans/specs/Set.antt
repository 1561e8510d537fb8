-- A set in the bytes of a plan: mask of roles, bound.
use Rattle.std.specs.Prelude.{ℕ, ◌+◌, ◌&&◌, List, [], ◌∷◌, Result, count_ones, nat_le}
use Rattle.refusals.specs.Checks.{in_order}
use Rattle.fields.specs.Bytes.{byte_at, two_at}
use Rattle.fields.specs.Fields.{field_checked}
use Rattle.fields.specs.declared.fault.FieldFault.{FieldFault}
use Rattle.orders.specs.Masks.{names_members}
use Rattle.plans.specs.declared.set.Set.{Set}
use Rattle.plans.specs.declared.layout.Layout.{Layout}

-- every role in the mask exists, and the bound is from 2 to the number of them
abbrev pub set_checked : List ℕ → Layout → ℕ → ℕ → Result (Unit {0}) FieldFault
set_checked bytes layout at number =
    in_order
    (field_checked bytes at 2 (names_members 16 (two_at bytes at) layout.roles.count)
    ∷ field_checked bytes (at + 2) 1 (nat_le 2 (byte_at bytes (at + 2)) && nat_le (byte_at bytes (at + 2)) (count_ones (two_at bytes at)))
    ∷ [])

abbrev pub set_at : List ℕ → ℕ → Set
set_at bytes at = record { roles = two_at bytes at; bound = byte_at bytes (at + 2) }

abbrev pub no_set : Set
no_set = record { roles = 0; bound = 0 }
