-- The kinds of number that a message says, each with its limit.
use Rattle.std.specs.Prelude.{ℕ, Bool, ◌&&◌, List, Result, nat_le, nat_lt}
use Rattle.fields.specs.Bytes.{byte_at, two_at}
use Rattle.fields.specs.Fields.{field_checked}
use Rattle.fields.specs.declared.fault.FieldFault.{FieldFault}

-- a number from the lower to the upper
abbrev pub within : ℕ → ℕ → ℕ → Bool
within lower n upper = nat_le lower n && nat_le n upper

-- a person stands at an offset
abbrev pub person_checked : List ℕ → ℕ → Result (Unit {0}) FieldFault
person_checked bytes at = field_checked bytes at 1 (nat_lt (byte_at bytes at) 64)

-- a role stands at an offset
abbrev pub role_checked : List ℕ → ℕ → Result (Unit {0}) FieldFault
role_checked bytes at = field_checked bytes at 1 (nat_lt (byte_at bytes at) 16)

-- a branch stands at an offset
abbrev pub branch_checked : List ℕ → ℕ → Result (Unit {0}) FieldFault
branch_checked bytes at = field_checked bytes at 1 (nat_lt (byte_at bytes at) 64)

-- an operation stands at an offset
abbrev pub operation_checked : List ℕ → ℕ → Result (Unit {0}) FieldFault
operation_checked bytes at = field_checked bytes at 1 (nat_lt (byte_at bytes at) 8)

-- a kind stands at an offset
abbrev pub kind_checked : List ℕ → ℕ → Result (Unit {0}) FieldFault
kind_checked bytes at = field_checked bytes at 1 (nat_lt (byte_at bytes at) 16)

-- a piece stands in the two bytes at an offset
abbrev pub piece_checked : List ℕ → ℕ → Result (Unit {0}) FieldFault
piece_checked bytes at = field_checked bytes at 2 (nat_lt (two_at bytes at) 1024)
