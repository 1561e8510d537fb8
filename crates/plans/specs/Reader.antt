-- What the reader of plans answers for every byte string, and the plan that it then leaves.
use Rattle.std.specs.Prelude.{ℕ, ◌+◌, ◌*◌, Bool, not, ◌&&◌, List, [], ◌∷◌, Ok, Err, Result, nat_le, nat_lt}
use Rattle.refusals.specs.Checks.{must, in_order, every}
use Rattle.fields.specs.Bytes.{byte_at, two_at}
use Rattle.fields.specs.Fields.{header_checked, field_checked, end_checked}
use Rattle.fields.specs.Records.{filled}
use Rattle.fields.specs.declared.fault.FieldFault.{FieldFault}
use Rattle.orders.specs.Rows.{rows_checked}
use Rattle.orders.specs.declared.rows.RowsFault.{RowsFault}
use Rattle.plans.specs.declared.role.Role.{Role}
use Rattle.plans.specs.declared.line.Line.{Line}
use Rattle.plans.specs.declared.layout.Span.{Span}
use Rattle.plans.specs.declared.layout.Layout.{Layout}
use Rattle.plans.specs.declared.fault.PlanFault.{PlanFault}
use Rattle.plans.specs.declared.fault.PlanFault.TheVariants.{Field, Rows, Repeated}
use Rattle.plans.specs.declared.plan.Plan.{Plan}
use Rattle.plans.specs.Branch.{branch_checked, branch_at, no_branch}
use Rattle.plans.specs.Role.{may_stand, role_checked, role_at, no_role}
use Rattle.plans.specs.Line.{same_pair, line_checked, line_at, no_line}
use Rattle.plans.specs.Set.{set_checked, set_at, no_set}
use Rattle.plans.specs.Piece.{piece_checked, piece_at, no_piece}
use Rattle.plans.specs.Layout.{layout_of}
use Rattle.plans.specs.Plan.{rows_of}

-- the offset of a record in a list of records of so many bytes
abbrev pub offset_of : Span → ℕ → ℕ → ℕ
offset_of list size number = list.first + size * number

-- the principal is a role, and may stand at branch 0
abbrev pub principal_stands : List ℕ → Layout → Bool
principal_stands bytes layout =
    nat_lt (byte_at bytes layout.principal) layout.roles.count
    && may_stand (role_at bytes (offset_of layout.roles 4 (byte_at bytes layout.principal))) (branch_at bytes (offset_of layout.branches 2 0))

-- the count of a list, of so many bytes, is within its bounds
abbrev pub count_checked : List ℕ → Span → ℕ → ℕ → ℕ → Result (Unit {0}) FieldFault
count_checked bytes list width least most = field_checked bytes list.at width (nat_le least list.count && nat_le list.count most)

-- the header, the branches, the roles and the principal, field by field
abbrev pub body_steps : List ℕ → Layout → List (Result (Unit {0}) FieldFault)
body_steps bytes layout =
    header_checked bytes 65535
    ∷ count_checked bytes layout.branches 1 1 64
    ∷ every layout.branches.count (λ k. branch_checked bytes layout (offset_of layout.branches 2 k) k)
    ∷ count_checked bytes layout.roles 1 1 16
    ∷ every layout.roles.count (λ k. role_checked bytes layout (offset_of layout.roles 4 k) k)
    ∷ field_checked bytes layout.principal 1 (principal_stands bytes layout)
    ∷ []

-- the grant lines and the take lines, field by field
abbrev pub line_steps : List ℕ → Layout → List (Result (Unit {0}) FieldFault)
line_steps bytes layout =
    count_checked bytes layout.grants 1 0 64
    ∷ every layout.grants.count (λ k. line_checked bytes layout (offset_of layout.grants 6 k) k)
    ∷ count_checked bytes layout.takes 1 0 64
    ∷ every layout.takes.count (λ k. line_checked bytes layout (offset_of layout.takes 6 k) k)
    ∷ []

-- the sets and the pieces, field by field, and nothing behind them
abbrev pub piece_steps : List ℕ → Layout → List (Result (Unit {0}) FieldFault)
piece_steps bytes layout =
    count_checked bytes layout.sets 1 0 8
    ∷ every layout.sets.count (λ k. set_checked bytes layout (offset_of layout.sets 3 k) k)
    ∷ count_checked bytes layout.pieces 2 0 1024
    ∷ every layout.pieces.count (λ k. piece_checked bytes layout (offset_of layout.pieces 2 k) k)
    ∷ end_checked bytes (offset_of layout.pieces 2 layout.pieces.count)
    ∷ []

-- all fields, in the order of the format
abbrev pub field_steps : List ℕ → Layout → List (Result (Unit {0}) FieldFault)
field_steps bytes layout = in_order (body_steps bytes layout) ∷ in_order (line_steps bytes layout) ∷ in_order (piece_steps bytes layout) ∷ []

-- the roles in an array of 16
abbrev pub roles_read : List ℕ → Layout → List Role
roles_read bytes layout = filled 16 layout.roles.count no_role (λ k. role_at bytes (offset_of layout.roles 4 k))

-- the rows of the roles are an order
abbrev pub rows_read : List ℕ → Layout → Result (Unit {0}) RowsFault
rows_read bytes layout = rows_checked 16 (rows_of (roles_read bytes layout)) (byte_at bytes layout.roles.at)

abbrev pub line_in : List ℕ → Span → ℕ → Line
line_in bytes lines k = line_at bytes (offset_of lines 6 k)

-- line k has another pair than line j, or line k is refused
abbrev pub pair_apart : List ℕ → Span → ℕ → ℕ → Result (Unit {0}) PlanFault
pair_apart bytes lines k j = must (not (same_pair (line_in bytes lines j) (line_in bytes lines k))) (Repeated (offset_of lines 6 k))

-- line k repeats the pair of no earlier line
abbrev pub line_apart : List ℕ → Span → ℕ → Result (Unit {0}) PlanFault
line_apart bytes lines k = every k (pair_apart bytes lines k)

-- no line of the list repeats the pair of an earlier one
abbrev pub lines_apart : List ℕ → Span → Result (Unit {0}) PlanFault
lines_apart bytes lines = every lines.count (line_apart bytes lines)

-- a check of fields, among those of the plan
abbrev pub of_fields : Result (Unit {0}) FieldFault → Result (Unit {0}) PlanFault
of_fields (Ok passed) = Ok passed
of_fields (Err fault) = Err (Field fault)

-- a check of rows, among those of the plan
abbrev pub of_rows : Result (Unit {0}) RowsFault → Result (Unit {0}) PlanFault
of_rows (Ok passed) = Ok passed
of_rows (Err fault) = Err (Rows fault)

-- all checks of a plan: fields, rows, grant lines, take lines
abbrev pub plan_steps : List ℕ → Layout → List (Result (Unit {0}) PlanFault)
plan_steps bytes layout =
    of_fields (in_order (field_steps bytes layout))
    ∷ of_rows (rows_read bytes layout)
    ∷ lines_apart bytes layout.grants
    ∷ lines_apart bytes layout.takes
    ∷ []

-- what the reader answers
unfoldable pub plan_result : List ℕ → Result (Unit {0}) PlanFault
plan_result bytes = in_order (plan_steps bytes (layout_of bytes))

-- the plan that the bytes hold
unfoldable pub plan_made : List ℕ → Layout → Plan
plan_made bytes layout =
    record {
      branches = filled 64 layout.branches.count no_branch (λ k. branch_at bytes (offset_of layout.branches 2 k));
      branch_count = byte_at bytes layout.branches.at;
      roles = roles_read bytes layout;
      role_count = byte_at bytes layout.roles.at;
      principal = byte_at bytes layout.principal;
      grants = filled 64 layout.grants.count no_line (line_in bytes layout.grants);
      grant_count = byte_at bytes layout.grants.at;
      takes = filled 64 layout.takes.count no_line (line_in bytes layout.takes);
      take_count = byte_at bytes layout.takes.at;
      sets = filled 8 layout.sets.count no_set (λ k. set_at bytes (offset_of layout.sets 3 k));
      set_count = byte_at bytes layout.sets.at;
      pieces = filled 1024 layout.pieces.count no_piece (λ k. piece_at bytes (offset_of layout.pieces 2 k));
      piece_count = two_at bytes layout.pieces.at;
    }

-- what the lent plan holds then: the plan of the bytes, or after a refusal what it held
abbrev pub plan_after : Plan → List ℕ → Result (Unit {0}) PlanFault → Plan
plan_after found bytes (Ok passed) = plan_made bytes (layout_of bytes)
plan_after found bytes (Err fault) = found
