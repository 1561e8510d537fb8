-- The record that is found is in the branch's part.
use Rattle.std.proofs.Common.{None, sym, ◌∙◌}
use Rattle.roll.proofs.PartFacts.{free_found}
use Rattle.roll.proofs.RollFacts.{is_record}
use Rattle.roll.proofs.roll.Roll.free_place.Goals as goal

pub returns-clause-place : goal.returns-clause-place
returns-clause-place c =
    let s = c.args.self.now in
    is_record s.records.now s.shares.now s.branches c.args.branch c.in_ok-i.i c.start.result c.part.result.now None c.part.ensures c.start.ensures.place
    (free_found c.part.result.now c.in_ok-i.i (sym c.free_in.ensures ∙ c.in_ok-i.was))
