-- Each turn goes to a lower number, the parent's, and where it stops only the member itself is left to compare.
use Rattle.std.proofs.Common.{◌≡◌, eqb, ◌∙◌, arith, rules}
use Rattle.orders.specs.ParentsFacts.{climbs_end, climbs_parent, parents_lower}
use Rattle.orders.proofs.parents.ParentsOrder.at_or_above.Goals as goal
use Rattle.orders.specs.Parents.{Lower, climbs}

pub loop-at-smaller : goal.loop-at-smaller
loop-at-smaller c =
    let o = c.args.self.now in
    omega (arith, parents_lower o.parents o.count o.sound c.loop-at.at c.loop-at.invariant.0 (omega arith))

pub loop-at-preserved : goal.loop-at-preserved
loop-at-preserved c =
    let o = c.args.self.now in
    let lower : Lower o.parents o.count = parents_lower o.parents o.count o.sound in (
      omega (arith, lower c.loop-at.at c.loop-at.invariant.0 (omega arith)),
      c.loop-at.invariant.1 ∙ climbs_parent o.parents o.count lower c.args.a c.loop-at.at (omega arith) c.loop-at.invariant.0,
    )

pub returns : goal.returns
returns c =
    let o = c.args.self.now in
    let last : climbs c.args.b o.parents c.args.a c.args.b ≡ eqb c.loop-at.at c.args.a =
    c.loop-at.invariant.1
    ∙ climbs_end o.parents o.count (parents_lower o.parents o.count o.sound) c.args.a c.loop-at.at (omega arith) c.loop-at.invariant.0 in
    search rules
