-- Lines beside each other: a look at all earlier ones at once; and both lists of lines, which fit in an array.
use Rattle.std.proofs.Common.{◌≡◌, ℕ, ◌<◌, ◌≤◌, not, List, length, get_or, take, Ok, sym, ap, ◌∙◌, arith}
use Rattle.std.specs.List.{list_any}
use Rattle.std.proofs.lemmas.List.{get_or-take}
use Rattle.std.proofs.lemmas.Bool.{leb-true}
use Rattle.refusals.specs.Checks.{must, in_order}
use Rattle.refusals.proofs.Rows.{Passed, all_passed, every_same, every_none}
use Rattle.fields.specs.Records.{filled}
use Rattle.fields.proofs.Filled.{filled_at, filled_long}
use Rattle.plans.specs.Line.{same_pair, no_line}
use Rattle.plans.specs.Reader.{offset_of, line_steps, field_steps, line_in, line_apart}
use Rattle.plans.specs.declared.line.Line.{Line}
use Rattle.plans.specs.declared.layout.Span.{Span}
use Rattle.plans.specs.declared.layout.Layout.{Layout}
use Rattle.plans.specs.declared.fault.PlanFault.TheVariants.{Repeated}
use Rattle.plans.proofs.PlanOrders.{count_passed}

-- a line repeats no earlier pair where none of the lines before it has the same pair
pub looks_back : (bytes : List ℕ) (list : Span) (k : ℕ) (lines : List Line) → lines ≡ filled 64 list.count no_line (line_in bytes list) → k < list.count → list.count ≤ 64
    → line_apart bytes list k ≡ must (not (list_any (λ earlier. same_pair earlier (get_or (take list.count lines) k no_line)) (take k lines))) (Repeated (offset_of list 6 k))
looks_back bytes list k lines read h few =
    let fault = Repeated (offset_of list 6 k) in
    let line = get_or (take list.count lines) k no_line in
    let at : (j : ℕ) → j < list.count → line_in bytes list j ≡ get_or lines j no_line = λ j l. sym (ap (λ xs. get_or xs j no_line) read ∙ filled_at 64 list.count no_line (line_in bytes list) j no_line l few) in
    let long : length lines ≡ 64 = ap length read ∙ filled_long 64 list.count no_line (line_in bytes list) in
    let here : line_in bytes list k ≡ line = at k h ∙ sym (get_or-take list.count lines k no_line h) in
    every_same (λ j. must (not (same_pair (line_in bytes list j) (line_in bytes list k))) fault) (λ j. must (not (same_pair (get_or lines j no_line) line)) fault) k
    (λ j l. λ i. must (not (same_pair (at j (omega arith) i) (here i))) fault)
    ∙ every_none (λ earlier. same_pair earlier line) lines no_line fault k (omega arith)

-- where the fields have passed, both lists of lines fit in an array
module _ (bytes : List ℕ) (layout : Layout) (passed : in_order (field_steps bytes layout) ≡ Ok tt) where
  lines_passed : Passed (line_steps bytes layout)
  lines_passed = all_passed (line_steps bytes layout) (all_passed (field_steps bytes layout) passed).1.0

  pub grants_few : layout.grants.count ≤ 64
  grants_few = leb-true layout.grants.count 64 (count_passed bytes layout.grants 1 0 64 lines_passed.0).1

  pub takes_few : layout.takes.count ≤ 64
  takes_few = leb-true layout.takes.count 64 (count_passed bytes layout.takes 1 0 64 lines_passed.1.1.0).1
