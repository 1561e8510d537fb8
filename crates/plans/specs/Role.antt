-- A role in the bytes of a plan: row, mask of branch kinds, limit.
use Rattle.std.specs.Prelude.{ℕ, ◌+◌, Bool, true, ◌&&◌, List, [], ◌∷◌, Result, nat_le}
use Rattle.refusals.specs.Checks.{in_order}
use Rattle.fields.specs.Bytes.{byte_at, two_at}
use Rattle.fields.specs.Fields.{field_checked}
use Rattle.fields.specs.declared.fault.FieldFault.{FieldFault}
use Rattle.orders.specs.Masks.{has_bit}
use Rattle.plans.specs.declared.branch.Branch.{Branch}
use Rattle.plans.specs.declared.role.Role.{Role}
use Rattle.plans.specs.declared.layout.Layout.{Layout}

-- the role may stand at the branch: its mask has the branch's kind
abbrev pub may_stand : Role → Branch → Bool
may_stand role branch = has_bit role.kinds branch.kind

-- any row and any kinds, and a limit from 1 to 64
abbrev pub role_checked : List ℕ → Layout → ℕ → ℕ → Result (Unit {0}) FieldFault
role_checked bytes layout at number =
    in_order
    (field_checked bytes at 2 true
    ∷ field_checked bytes (at + 2) 1 true
    ∷ field_checked bytes (at + 3) 1 (nat_le 1 (byte_at bytes (at + 3)) && nat_le (byte_at bytes (at + 3)) 64)
    ∷ [])

abbrev pub role_at : List ℕ → ℕ → Role
role_at bytes at = record { row = two_at bytes at; kinds = byte_at bytes (at + 2); limit = byte_at bytes (at + 3) }

abbrev pub no_role : Role
no_role = record { row = 0; kinds = 0; limit = 0 }
