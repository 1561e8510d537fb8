-- The chain adds the share of each branch that has one, and no share is over 65535.
use Rattle.std.proofs.Common.{rules, tests, ◌<◌, ℕ, get_or, take, ◌∙◌, arith}
use Rattle.roll.proofs.roll.shares_before.Goals as goal
use Rattle.search.proofs.Sums.{sum_most, sum_taken}
use Rattle.std.proofs.lemmas.Iterator.{YieldsList-from_map, YieldsList-from_slice, YieldsList-from_take}
use Rattle.std.proofs.lemmas.Iterator.Consumers.{YieldsList-at, fits_by_from_yields_list, sum_by_from_yields_List}

pub sum-requires-clause-fits : goal.sum-requires-clause-fits
sum-requires-clause-fits c =
    let shares = c.args.shares.now in
    let each : (k : ℕ) → get_or shares k 0 < 65536 = λ k. search rules in
    fits_by_from_yields_list (λ x. x) (take c.args.branch shares) _ _
    (YieldsList-from_map _ (λ x. x) (YieldsList-at c.map.ensures.source (YieldsList-from_take c.args.branch (YieldsList-at c.take.ensures.source (YieldsList-from_slice shares (cc))) c.take.ensures.count)) c.map.ensures.closure (λ x r q k. search (rules, tests)))
    (omega (arith, sum_taken shares c.args.branch, sum_most (λ k. get_or shares k 0) 65535 c.args.branch (λ k h. omega (arith, each k))))

pub returns : goal.returns
returns c =
    let shares = c.args.shares.now in
    sum_by_from_yields_List (λ x. x) (take c.args.branch shares) _ c.sum.result c.sum.ensures.ran
    (YieldsList-from_map _ (λ x. x) (YieldsList-at c.map.ensures.source (YieldsList-from_take c.args.branch (YieldsList-at c.take.ensures.source (YieldsList-from_slice shares (cc))) c.take.ensures.count)) c.map.ensures.closure (λ x r q k. search (rules, tests)))
    ∙ sum_taken shares c.args.branch
