-- The chain tests the share of each branch that has one; the others have none.
use Rattle.std.proofs.Common.{rules, tests, ℕ, Bool, leb, refl, ◌∙◌}
use Rattle.roll.proofs.RollFacts.{all_taken}
use Rattle.roll.proofs.roll.none_over.Goals as goal
use Rattle.std.proofs.lemmas.Iterator.{YieldsList-from_slice, YieldsList-from_take}
use Rattle.std.proofs.lemmas.Iterator.Consumers.{YieldsList-at}
use Rattle.std.proofs.lemmas.Iterator.Search.{all_from_yields_List}

pub returns : goal.returns
returns c =
    let test : ℕ → Bool = λ share. leb share 1024 in
    all_from_yields_List test _ _ c.all.result c.all.ensures.ran
    (YieldsList-from_take c.args.branches (YieldsList-at c.take.ensures.source (YieldsList-from_slice c.args.shares.now (cc))) c.take.ensures.count)
    (λ x b q k. search (rules, tests))
    ∙ all_taken test refl c.args.shares.now c.args.branches
