-- The count is of the others whom the records so far post.
use Rattle.std.proofs.Common.{◌≡◌, not, ◌&&◌, eqb}
use Rattle.roll.proofs.roll.RollRegister.others.Given as goal
use Rattle.roll.specs.Part.{among}
use Rattle.search.specs.Searches.{count_below}

abbrev pub invariant-loop-record : goal.invariant-loop-record
invariant-loop-record l =
    l.count ≡ count_below 64 (λ x. not (eqb x l.posting.person) && among l.record-items l.record-index x l.posting.role l.posting.branch)
