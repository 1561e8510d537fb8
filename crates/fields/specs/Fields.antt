-- The checks that the header, every field and the end of a plan or a message meet.
use Rattle.std.specs.Prelude.{ℕ, ◌+◌, ◌-◌, Bool, ◌&&◌, List, [], ◌∷◌, length, Result, ◌==◌, nat_le}
use Rattle.refusals.specs.Checks.{must, in_order}
use Rattle.fields.specs.Bytes.{byte_at, two_at}
use Rattle.fields.specs.declared.fault.FieldFault.{FieldFault}
use Rattle.fields.specs.declared.fault.FieldFault.TheVariants.{Version, Length, Misfit, Value}

-- three bytes at least; version 1; a length of at most `most` that says how many bytes follow
abbrev pub header_checked : List ℕ → ℕ → Result (Unit {0}) FieldFault
header_checked bytes most =
    in_order
    (must (nat_le 3 (length bytes)) (Length (length bytes))
    ∷ must (byte_at bytes 0 == 1) Version
    ∷ must (nat_le (two_at bytes 1) most && length bytes == 3 + two_at bytes 1) (Length (length bytes))
    ∷ [])

-- the field of so many bytes at an offset fits, and then its rule holds
abbrev pub field_checked : List ℕ → ℕ → ℕ → Bool → Result (Unit {0}) FieldFault
field_checked bytes at size rule =
    in_order (must (nat_le at (length bytes) && nat_le size (length bytes - at)) (Misfit at) ∷ must rule (Value at) ∷ [])

-- no bytes are left over from an offset on
abbrev pub end_checked : List ℕ → ℕ → Result (Unit {0}) FieldFault
end_checked bytes at = must (nat_le (length bytes) at) (Misfit at)
