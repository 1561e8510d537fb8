use Rattle.std.proofs.Common.{get_or, rules, tests}
use Rattle.orders.specs.Rows.{stands_over}
use Rattle.orders.proofs.Below.{all_below}
use Rattle.orders.proofs.rows.stands_over_all.Goals as goal

pub returns : goal.returns
returns c =
    let rows = c.args.rows.now in
    let q = c.args.q in
    all_below (λ p. stands_over 16 (get_or rows q 0) q (get_or rows p 0) p) c.args.count _ c.all.result c.all.ensures.ran (λ x b q k. search (rules, tests))
