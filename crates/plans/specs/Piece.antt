-- A piece in the bytes of a plan: kind, home.
use Rattle.std.specs.Prelude.{ℕ, ◌+◌, List, [], ◌∷◌, Result, nat_lt}
use Rattle.refusals.specs.Checks.{in_order}
use Rattle.fields.specs.Bytes.{byte_at}
use Rattle.fields.specs.Fields.{field_checked}
use Rattle.fields.specs.declared.fault.FieldFault.{FieldFault}
use Rattle.plans.specs.declared.piece.Piece.{Piece}
use Rattle.plans.specs.declared.layout.Layout.{Layout}

-- one of the 16 piece kinds, and a home that exists
abbrev pub piece_checked : List ℕ → Layout → ℕ → ℕ → Result (Unit {0}) FieldFault
piece_checked bytes layout at number =
    in_order
    (field_checked bytes at 1 (nat_lt (byte_at bytes at) 16)
    ∷ field_checked bytes (at + 1) 1 (nat_lt (byte_at bytes (at + 1)) layout.branches.count)
    ∷ [])

abbrev pub piece_at : List ℕ → ℕ → Piece
piece_at bytes at = record { kind = byte_at bytes at; home = byte_at bytes (at + 1) }

abbrev pub no_piece : Piece
no_piece = record { kind = 0; home = 0 }
