use Rattle.std.proofs.Common.{◌≡◌, ◌<◌}
use Rattle.orders.proofs.parents.ParentsOrder.at_or_above.Given as goal
use Rattle.orders.specs.Parents.{climbs}

-- from the member that the way has come to, the answer is the same as from b
abbrev pub invariant-loop-at : goal.invariant-loop-at
invariant-loop-at l = (l.at < l.self.count) × (climbs l.b l.self.parents l.a l.b ≡ climbs l.at l.self.parents l.a l.at)

abbrev pub decreases-loop-at : goal.decreases-loop-at
decreases-loop-at l = l.at
