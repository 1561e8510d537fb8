use Rattle.std.proofs.Common.{rules, tests}
use Rattle.orders.specs.Rows.{bit_covered}
use Rattle.orders.proofs.Below.{all_below}
use Rattle.orders.proofs.rows.row_covers.Goals as goal

pub returns : goal.returns
returns c = all_below (bit_covered c.args.upper c.args.lower) 16 _ c.all.result c.all.ensures.ran (λ x b q k. search (rules, tests))
