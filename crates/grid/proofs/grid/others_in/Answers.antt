-- The chain counts the places of the row that pass the test.
use Rattle.std.proofs.Common.{rules, tests, not, ◌&&◌, eqb, ◌∙◌}
use Rattle.std.proofs.lemmas.Iterator.{YieldsList-from_slice}
use Rattle.std.proofs.lemmas.Iterator.Consumers.{YieldsList-at, YieldsList-from_enumerate, YieldsList-from_filter, count_from_yields_List}
use Rattle.grid.proofs.grid.others_in.Goals as goal
use Rattle.orders.specs.Masks.{has_bit}
use Rattle.search.proofs.Sums.{count_enumerated}

pub returns : goal.returns
returns c =
    count_from_yields_List _ c.count.result c.count.ensures.ran
    (YieldsList-from_filter _ (λ p. not (eqb p.0 c.args.posting.person) && has_bit p.1 c.args.posting.role) (YieldsList-at c.filter.ensures.source (YieldsList-from_enumerate (YieldsList-from_slice c.args.row.now (cc)) (cc))) c.filter.ensures.closure (λ x r q k. search (rules, tests)))
    ∙ count_enumerated (λ x cell. not (eqb x c.args.posting.person) && has_bit cell c.args.posting.role) 0 c.args.row.now
