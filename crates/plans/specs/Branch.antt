-- A branch in the bytes of a plan: parent, kind.
use Rattle.std.specs.Prelude.{ℕ, ◌+◌, Bool, cond, List, [], ◌∷◌, Result, ◌==◌, nat_lt}
use Rattle.refusals.specs.Checks.{in_order}
use Rattle.fields.specs.Bytes.{byte_at}
use Rattle.fields.specs.Fields.{field_checked}
use Rattle.fields.specs.declared.fault.FieldFault.{FieldFault}
use Rattle.plans.specs.declared.branch.Branch.{Branch}
use Rattle.plans.specs.declared.layout.Layout.{Layout}

-- branch 0 names itself, and any other branch one with a lower number
abbrev pub may_be_parent : ℕ → ℕ → Bool
may_be_parent parent number = cond (number == 0) (parent == 0) (nat_lt parent number)

-- a parent that the branch may name, and one of the 8 branch kinds
abbrev pub branch_checked : List ℕ → Layout → ℕ → ℕ → Result (Unit {0}) FieldFault
branch_checked bytes layout at number =
    in_order
    (field_checked bytes at 1 (may_be_parent (byte_at bytes at) number)
    ∷ field_checked bytes (at + 1) 1 (nat_lt (byte_at bytes (at + 1)) 8)
    ∷ [])

abbrev pub branch_at : List ℕ → ℕ → Branch
branch_at bytes at = record { parent = byte_at bytes at; kind = byte_at bytes (at + 1) }

abbrev pub no_branch : Branch
no_branch = record { parent = 0; kind = 0 }
