-- The posting stands in the branch's part, or nowhere.
use Rattle.std.proofs.Common.{◌+◌, List, length, is_some, Option, Some, None, sym, ap, ◌∙◌, arith}
use Rattle.registers.specs.declared.posting.Posting.{Posting}
use Rattle.roll.proofs.PartFacts.{posting_found}
use Rattle.roll.proofs.RollFacts.{inside, is_record}
use Rattle.roll.proofs.roll.Roll.place_of.Goals as goal
use Rattle.roll.specs.Part.{among}
use Rattle.search.proofs.Searches.{first_any}

pub returns-in_err-i-clause-there : goal.returns-in_err-i-clause-there
returns-in_err-i-clause-there c =
    let it = c.args.posting in
    ap is_some (c.from_residual.ensures ∙ sym c.in_err-i.was ∙ c.first.ensures None)
    ∙ first_any _ (length c.part.result.now)
    ∙ ap (λ (part : List (Option Posting)). among part (length part) it.person it.role it.branch) c.part.ensures

pub returns-clause-place : goal.returns-clause-place
returns-clause-place c =
    let s = c.args.self.now in
    is_record s.records.now s.shares.now s.branches c.args.posting.branch c.in_ok-i.i c.start.result c.part.result.now (Some c.args.posting) c.part.ensures c.start.ensures.place
    (posting_found c.part.result.now c.args.posting c.in_ok-i.i (sym (c.first.ensures None) ∙ c.in_ok-i.was))

pub overflow_add-result : goal.overflow_add-result
overflow_add-result c =
    let s = c.args.self.now in
    omega (arith, c.start.ensures.fits, inside s.records.now s.shares.now s.branches c.args.posting.branch (c.start.result + c.in_ok-i.i) (Some c.args.posting) (returns-clause-place c))

pub returns-clause-there : goal.returns-clause-there
returns-clause-there c =
    let it = c.args.posting in
    ap is_some (sym c.in_ok-i.was ∙ c.first.ensures None)
    ∙ first_any _ (length c.part.result.now)
    ∙ ap (λ (part : List (Option Posting)). among part (length part) it.person it.role it.branch) c.part.ensures
