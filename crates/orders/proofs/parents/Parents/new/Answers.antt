-- Parents that passed lead all the way up to member 0.
use Rattle.std.proofs.Common.{rules}
use Rattle.orders.specs.ParentsFacts.{parents_lower, tree_top}
use Rattle.orders.proofs.parents.Parents.new.Goals as goal

pub returns-clause-top : goal.returns-clause-top
returns-clause-top c = tree_top c.args.parents c.args.count (parents_lower c.args.parents c.args.count (search rules))
