-- Every plan that has a branch and gives both orders meets the conditions of the isolation law: so do all that were read, and the class.
use Rattle.std.proofs.Common.{◌≡◌, ◌<◌, is_ok, refl, ap, arith}
use Rattle.std.proofs.lemmas.Bool.{lt-ltb}
use Rattle.orders.specs.Masks.{names_members}
use Rattle.orders.specs.ParentsFacts.{parents_lower, tree_antisymmetric, tree_inside, tree_reflexive, tree_top, tree_transitive}
use Rattle.orders.specs.RowsFacts.{above_inside, rows_antisymmetric, rows_reflexive, rows_transitive}
use Rattle.fields.specs.Records.{filled}
use Rattle.plans.specs.Layout.{layout_of, branches_in, roles_in, principal_in, grants_in, takes_in, sets_in, pieces_in}
use Rattle.plans.specs.Plan.{Ordered, parents_of, rows_of}
use Rattle.plans.specs.Reader.{plan_made}
use Rattle.plans.proofs.PlanOrders.{read_branches, read_orders}
use Rattle.plans.specs.declared.plan.Plan.{Plan}
use Rattle.rules.specs.Marked.{ClassMeetsConditions, class_bytes, class_plan}
use Rattle.rules.specs.Setup.{Lawful}
use Rattle.rules.specs.Sold.{PlansSound, ReadPlansSound, branch_order, role_order, sold_with}

branches_lawful : (plan : Plan) → Ordered plan → Lawful (branch_order plan)
branches_lawful plan o =
    let parents = parents_of plan.branches in
    let n = plan.branch_count in
    let lower = parents_lower parents n (ap is_ok o.branches) in
    record {
      inside = tree_inside parents n;
      reflexive = tree_reflexive parents n lower;
      transitive = tree_transitive parents n lower;
      antisymmetric = tree_antisymmetric parents n lower;
    }

roles_lawful : (plan : Plan) → Ordered plan → Lawful (role_order plan)
roles_lawful plan o =
    let rows = rows_of plan.roles in
    let n = plan.role_count in
    let passed = ap is_ok o.roles in
    record {
      inside = above_inside rows n;
      reflexive = rows_reflexive 16 rows n passed;
      transitive = rows_transitive 16 rows n passed;
      antisymmetric = rows_antisymmetric 16 rows n passed;
    }

pub plans_sound : PlansSound
plans_sound plan some o =
    let parents = parents_of plan.branches in
    let n = plan.branch_count in
    let share : 0 < (sold_with plan).share 0 = rw (lt-ltb 0 n some) (omega arith) in
    record {
      orderly = record { branches = branches_lawful plan o; roles = roles_lawful plan o };
      top = tree_top parents n (parents_lower parents n (ap is_ok o.branches));
      room = share;
    }

pub read_plans_sound : ReadPlansSound
read_plans_sound bytes e = plans_sound (plan_made bytes (layout_of bytes)) (read_branches bytes e) (read_orders bytes e)

class_branches : class_plan.branch_count ≡ 5
unfolding filled layout_of branches_in roles_in principal_in grants_in takes_in sets_in pieces_in plan_made class_bytes class_plan
class_branches = refl

class_ordered : Ordered class_plan
unfolding names_members filled layout_of branches_in roles_in principal_in grants_in takes_in sets_in pieces_in plan_made class_bytes class_plan
class_ordered = record { branches = refl; roles = refl }

pub class_meets_conditions : ClassMeetsConditions
class_meets_conditions =
    record {
      sound = plans_sound class_plan (omega (arith, class_branches)) class_ordered;
      below = λ B some few. (omega (arith, class_branches), λ e. omega arith);
    }
