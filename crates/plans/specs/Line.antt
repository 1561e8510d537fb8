-- A line in the bytes of a plan: governing role, governed role, needed roles, barred roles.
use Rattle.std.specs.Prelude.{ℕ, ◌+◌, Bool, ◌&&◌, List, [], ◌∷◌, Result, ◌==◌, nat_lt}
use Rattle.refusals.specs.Checks.{in_order}
use Rattle.fields.specs.Bytes.{byte_at, two_at}
use Rattle.fields.specs.Fields.{field_checked}
use Rattle.fields.specs.declared.fault.FieldFault.{FieldFault}
use Rattle.orders.specs.Masks.{names_members}
use Rattle.plans.specs.declared.line.Line.{Line}
use Rattle.plans.specs.declared.layout.Layout.{Layout}

-- the same governing and the same governed role
abbrev pub same_pair : Line → Line → Bool
same_pair a b = a.governing == b.governing && a.governed == b.governed

-- every role that the line names exists, in the masks too
abbrev pub line_checked : List ℕ → Layout → ℕ → ℕ → Result (Unit {0}) FieldFault
line_checked bytes layout at number =
    in_order
    (field_checked bytes at 1 (nat_lt (byte_at bytes at) layout.roles.count)
    ∷ field_checked bytes (at + 1) 1 (nat_lt (byte_at bytes (at + 1)) layout.roles.count)
    ∷ field_checked bytes (at + 2) 2 (names_members 16 (two_at bytes (at + 2)) layout.roles.count)
    ∷ field_checked bytes (at + 4) 2 (names_members 16 (two_at bytes (at + 4)) layout.roles.count)
    ∷ [])

abbrev pub line_at : List ℕ → ℕ → Line
line_at bytes at =
    record { governing = byte_at bytes at; governed = byte_at bytes (at + 1); needed = two_at bytes (at + 2); barred = two_at bytes (at + 4) }

abbrev pub no_line : Line
no_line = record { governing = 0; governed = 0; needed = 0; barred = 0 }
