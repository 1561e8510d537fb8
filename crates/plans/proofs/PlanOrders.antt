-- A plan whose bytes pass every check gives both orders.
use Rattle.std.proofs.Common.{◌≡◌, ℕ, ◌+◌, ◌-◌, ◌<◌, ◌≤◌, Bool, true, false, cond, ◌&&◌, ◌||◌, eqb, ltb, leb, List, [], ◌∷◌, length, get_or, Ok, Err, Result, refl, ap, ◌∙◌, arith}
use Rattle.std.proofs.lemmas.List.{get_or-map}
use Rattle.std.proofs.lemmas.Bool.{and_parts, leb-true}
use Rattle.refusals.specs.Checks.{must, in_order, every}
use Rattle.refusals.proofs.Rows.{Passed, all_passed, must_true, must_of, every_at, every_of}
use Rattle.fields.specs.Bytes.{byte_at}
use Rattle.fields.specs.Fields.{field_checked}
use Rattle.fields.specs.Records.{filled}
use Rattle.fields.proofs.Filled.{filled_at, filled_long}
use Rattle.fields.specs.declared.fault.FieldFault.{FieldFault}
use Rattle.fields.specs.declared.fault.FieldFault.TheVariants.{Misfit, Value}
use Rattle.orders.specs.Limits.{limit_met}
use Rattle.orders.specs.Parents.{parents_checked, parent_check, stands_lower}
use Rattle.orders.specs.declared.parents.ParentsFault.TheVariants.{TooMany, NotLower}
use Rattle.orders.specs.declared.rows.RowsFault.{RowsFault}
use Rattle.plans.specs.declared.branch.Branch.{Branch}
use Rattle.plans.specs.declared.layout.Layout.{Layout}
use Rattle.plans.specs.declared.layout.Span.{Span}
use Rattle.plans.specs.Branch.{may_be_parent, branch_checked, branch_at, no_branch}
use Rattle.plans.specs.Layout.{layout_of, branches_in, roles_in}
use Rattle.plans.specs.Plan.{parents_of, Ordered}
use Rattle.plans.specs.Reader.{offset_of, count_checked, body_steps, field_steps, of_fields, of_rows, rows_read, plan_steps, plan_result, plan_made}

-- a field that passed keeps its rule
field_rule : (bytes : List ℕ) (at size : ℕ) (rule : Bool) → field_checked bytes at size rule ≡ Ok tt → rule ≡ true
field_rule bytes at size rule e =
    must_true rule (Value at) (all_passed (must (leb at (length bytes) && leb size (length bytes - at)) (Misfit at) ∷ must rule (Value at) ∷ []) e).1.0

fields_passed : (r : Result (Unit {0}) FieldFault) → of_fields r ≡ Ok tt → r ≡ Ok tt
fields_passed (Ok tt) e = refl
fields_passed (Err f) e = cc

rows_passed : (r : Result (Unit {0}) RowsFault) → of_rows r ≡ Ok tt → r ≡ Ok tt
rows_passed (Ok tt) e = refl
rows_passed (Err f) e = cc

-- what may be a parent in a plan stands lower in the order
parent_lower : (top named lower : Bool) → cond top named lower ≡ true → (top || lower) ≡ true
parent_lower true named lower e = refl
parent_lower false named lower e = e

-- the parent of a branch that was read
parent_read : (n k : ℕ) (f : ℕ → Branch) → k < n → n ≤ 64 → get_or (parents_of (filled 64 n no_branch f)) k 0 ≡ (f k).parent
parent_read n k f h few =
    let long = filled_long 64 n no_branch f in
    get_or-map (λ branch. branch.parent) (filled 64 n no_branch f) k no_branch 0 (omega (arith, long))
    ∙ ap (λ branch. branch.parent) (filled_at 64 n no_branch f k no_branch h few)

-- a count that passed is within its bounds
pub count_passed : (bytes : List ℕ) (list : Span) (width least most : ℕ) → count_checked bytes list width least most ≡ Ok tt → (leb least list.count ≡ true) × (leb list.count most ≡ true)
count_passed bytes list width least most e =
    and_parts (leb least list.count) (leb list.count most) (field_rule bytes list.at width (leb least list.count && leb list.count most) e)

module _ (bytes : List ℕ) (layout : Layout) where
  parents_pass : count_checked bytes layout.branches 1 1 64 ≡ Ok tt
      → every layout.branches.count (λ k. branch_checked bytes layout (offset_of layout.branches 2 k) k) ≡ Ok tt
      → parents_checked (parents_of (filled 64 layout.branches.count no_branch (λ k. branch_at bytes (offset_of layout.branches 2 k)))) layout.branches.count ≡ Ok tt
  parents_pass counted passed =
      let n = layout.branches.count in
      let f : ℕ → Branch = λ k. branch_at bytes (offset_of layout.branches 2 k) in
      let few = (count_passed bytes layout.branches 1 1 64 counted).1 in
      let ps = parents_of (filled 64 n no_branch f) in
      limit_met n 64 TooMany (every n (parent_check ps)) (leb-true n 64 few)
      ∙ every_of (parent_check ps) n (λ k h.
      let at = offset_of layout.branches 2 k in
      let steps = all_passed (field_checked bytes at 1 (may_be_parent (byte_at bytes at) k) ∷ field_checked bytes (at + 1) 1 (ltb (byte_at bytes (at + 1)) 8) ∷ []) (every_at (λ j. branch_checked bytes layout (offset_of layout.branches 2 j) j) n k h passed) in
      let allowed = field_rule bytes at 1 (may_be_parent (byte_at bytes at) k) steps.0 in
      must_of (stands_lower k (get_or ps k 0)) (NotLower k)
      (ap (λ parent. stands_lower k parent) (parent_read n k f h (leb-true n 64 few)) ∙ parent_lower (eqb k 0) (eqb (byte_at bytes at) 0) (ltb (byte_at bytes at) k) allowed))

-- the header, the branches, the roles and the principal of a plan that was read have passed
body_passed : (bytes : List ℕ) → plan_result bytes ≡ Ok tt → Passed (body_steps bytes (layout_of bytes))
unfolding plan_result
body_passed bytes e =
    let layout = layout_of bytes in
    let fields = fields_passed (in_order (field_steps bytes layout)) (all_passed (plan_steps bytes layout) e).0 in
    all_passed (body_steps bytes layout) (all_passed (field_steps bytes layout) fields).0

-- every plan that was read gives both orders
pub read_orders : (bytes : List ℕ) → plan_result bytes ≡ Ok tt → Ordered (plan_made bytes (layout_of bytes))
unfolding plan_result plan_made layout_of branches_in roles_in
read_orders bytes e =
    let layout = layout_of bytes in
    let body = body_passed bytes e in
    record { branches = parents_pass bytes layout body.1.0 body.1.1.0; roles = rows_passed (rows_read bytes layout) (all_passed (plan_steps bytes layout) e).1.0 }

-- and has a branch at least
pub read_branches : (bytes : List ℕ) → plan_result bytes ≡ Ok tt → 0 < (plan_made bytes (layout_of bytes)).branch_count
unfolding plan_made layout_of branches_in
read_branches bytes e =
    let layout = layout_of bytes in
    leb-true 1 layout.branches.count (count_passed bytes layout.branches 1 1 64 (body_passed bytes e).1.0).0
