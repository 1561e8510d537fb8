use Rattle.std.proofs.Common.{rules, tests}
use Rattle.orders.specs.Masks.{bit_of_member, names_members}
use Rattle.orders.proofs.Below.{all_below}
use Rattle.orders.proofs.masks.names_members.Goals as goal

pub returns : goal.returns
unfolding names_members
returns c = all_below (bit_of_member c.args.mask c.args.count) 16 _ c.all.result c.all.ensures.ran (λ x b q k. search (rules, tests))
