-- The arguments of each call as they stand in bytes.
use Rattle.std.specs.Prelude.{ℕ, ◌+◌, ◌/◌, ◌%◌, cond, List, [], ◌∷◌, Ok, Result, ◌==◌}
use Rattle.refusals.specs.Checks.{in_order}
use Rattle.fields.specs.Bytes.{byte_at, two_at}
use Rattle.fields.specs.declared.fault.FieldFault.{FieldFault}
use Rattle.messages.specs.Numbers.{within, person_checked, role_checked, branch_checked, operation_checked, kind_checked, piece_checked}
use Rattle.messages.specs.declared.call.Call.{Call}
use Rattle.messages.specs.declared.call.Call.TheVariants.{Decide, Grant, Take, Throughout, Enrol, Strike, Open, Close, Permit, Forbid, Sit}

-- the arguments of the call with a number stand at an offset
abbrev pub arguments_checked : List ℕ → ℕ → ℕ → Result (Unit {0}) FieldFault
arguments_checked bytes number at =
    cond (number == 1) (in_order (operation_checked bytes at ∷ piece_checked bytes (at + 1) ∷ []))
    (cond (within 2 number 4) (in_order (person_checked bytes at ∷ role_checked bytes (at + 1) ∷ branch_checked bytes (at + 2) ∷ []))
    (cond (within 5 number 6) (in_order (person_checked bytes at ∷ branch_checked bytes (at + 1) ∷ []))
    (cond (within 7 number 8) (branch_checked bytes at)
    (cond (within 9 number 10) (in_order (operation_checked bytes at ∷ kind_checked bytes (at + 1) ∷ role_checked bytes (at + 2) ∷ []))
    (Ok tt)))))

-- how many bytes the arguments of the call with a number have
abbrev pub arguments_width : ℕ → ℕ
arguments_width number =
    cond (within 1 number 4) 3 (cond (within 5 number 6) 2 (cond (within 7 number 8) 1 (cond (within 9 number 10) 3 0)))

-- the call with a number whose arguments stand at an offset
abbrev pub call_at : List ℕ → ℕ → ℕ → Call
call_at bytes number at =
    cond (number == 1) (Decide (byte_at bytes at) (two_at bytes (at + 1)))
    (cond (number == 2) (Grant (byte_at bytes at) (byte_at bytes (at + 1)) (byte_at bytes (at + 2)))
    (cond (number == 3) (Take (byte_at bytes at) (byte_at bytes (at + 1)) (byte_at bytes (at + 2)))
    (cond (number == 4) (Throughout (byte_at bytes at) (byte_at bytes (at + 1)) (byte_at bytes (at + 2)))
    (cond (number == 5) (Enrol (byte_at bytes at) (byte_at bytes (at + 1)))
    (cond (number == 6) (Strike (byte_at bytes at) (byte_at bytes (at + 1)))
    (cond (number == 7) (Open (byte_at bytes at))
    (cond (number == 8) (Close (byte_at bytes at))
    (cond (number == 9) (Permit (byte_at bytes at) (byte_at bytes (at + 1)) (byte_at bytes (at + 2)))
    (cond (number == 10) (Forbid (byte_at bytes at) (byte_at bytes (at + 1)) (byte_at bytes (at + 2)))
    Sit)))))))))

-- a number in two bytes, big-endian
abbrev pub two_bytes : ℕ → List ℕ
two_bytes n = n / 256 ∷ n % 256 ∷ []

-- the bytes of a call's arguments
abbrev pub arguments_of : Call → List ℕ
arguments_of (Decide operation piece) = operation ∷ two_bytes piece
arguments_of (Grant person role branch) = person ∷ role ∷ branch ∷ []
arguments_of (Take person role branch) = person ∷ role ∷ branch ∷ []
arguments_of (Throughout person role branch) = person ∷ role ∷ branch ∷ []
arguments_of (Enrol person branch) = person ∷ branch ∷ []
arguments_of (Strike person branch) = person ∷ branch ∷ []
arguments_of (Open branch) = branch ∷ []
arguments_of (Close branch) = branch ∷ []
arguments_of (Permit operation kind role) = operation ∷ kind ∷ role ∷ []
arguments_of (Forbid operation kind role) = operation ∷ kind ∷ role ∷ []
arguments_of Sit = []
