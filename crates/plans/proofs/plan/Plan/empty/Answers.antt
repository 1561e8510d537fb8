-- Each array holds default values alone.
use Rattle.std.proofs.Common.{◌≡◌, replicate, rules}
use Rattle.plans.proofs.Blank.{blanks}
use Rattle.plans.proofs.Filled.{same_plan}
use Rattle.plans.specs.Branch.{no_branch}
use Rattle.plans.specs.Line.{no_line}
use Rattle.plans.specs.Piece.{no_piece}
use Rattle.plans.specs.Plan.{empty_plan}
use Rattle.plans.specs.Role.{no_role}
use Rattle.plans.specs.Set.{no_set}
use Rattle.plans.proofs.plan.Plan.empty.Goals as goal

pub returns : goal.returns
unfolding empty_plan
returns c =
    let plan = c.default.result in
    let branches : plan.branches ≡ replicate 64 no_branch = blanks _ no_branch plan.branches 64 (λ x d. search rules) c.default.ensures.0 in
    let roles : plan.roles ≡ replicate 16 no_role = blanks _ no_role plan.roles 16 (λ x d. search rules) c.default.ensures.1.1.0 in
    let grants : plan.grants ≡ replicate 64 no_line = blanks _ no_line plan.grants 64 (λ x d. search rules) c.default.ensures.1.1.1.1.1.0 in
    let takes : plan.takes ≡ replicate 64 no_line = blanks _ no_line plan.takes 64 (λ x d. search rules) c.default.ensures.1.1.1.1.1.1.1.0 in
    let sets : plan.sets ≡ replicate 8 no_set = blanks _ no_set plan.sets 8 (λ x d. search rules) c.default.ensures.1.1.1.1.1.1.1.1.1.0 in
    let pieces : plan.pieces ≡ replicate 1024 no_piece = blanks _ no_piece plan.pieces 1024 (λ x d. search rules) c.default.ensures.1.1.1.1.1.1.1.1.1.1.1.0 in
    same_plan branches c.default.ensures.1.0 roles c.default.ensures.1.1.1.0 c.default.ensures.1.1.1.1.0 grants c.default.ensures.1.1.1.1.1.1.0 takes c.default.ensures.1.1.1.1.1.1.1.1.0 sets c.default.ensures.1.1.1.1.1.1.1.1.1.1.0 pieces c.default.ensures.1.1.1.1.1.1.1.1.1.1.1.1
