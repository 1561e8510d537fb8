-- What a roll means: each branch has a part of the records, as long as its share, after the parts of the branches before it.
use Rattle.std.specs.Prelude.{◌≡◌, ℕ, ◌+◌, ◌-◌, ◌<◌, ◌≤◌, min, Bool, cond, ◌&&◌, leb, List, length, take, drop, None, Option, Result, ◌==◌, nat_le, nat_lt, slice_index, slice_index_or}
use Rattle.refusals.specs.Checks.{all, must}
use Rattle.registers.specs.Meaning.{Postings}
use Rattle.registers.specs.declared.fault.RegisterFault.{RegisterFault}
use Rattle.registers.specs.declared.fault.RegisterFault.TheVariants.{Unfit}
use Rattle.registers.specs.declared.posting.Posting.{Posting}
use Rattle.roll.specs.Part.{Kept, among}
use Rattle.search.specs.Searches.{sum_below}

-- the shares of the branches before one, together
abbrev pub shares_before : List ℕ → ℕ → ℕ
shares_before shares branch = sum_below branch (λ b. slice_index shares b)

-- where the part of a branch starts, in so many records
abbrev pub roll_start : ℕ → List ℕ → ℕ → ℕ
roll_start items shares branch = min items (shares_before shares branch)

-- how many postings a branch may have: its share, cut off where the records end
abbrev pub roll_share : ℕ → List ℕ → ℕ → ℕ → ℕ
roll_share items shares branches branch = cond (nat_lt branch branches) (min (slice_index shares branch) (items - roll_start items shares branch)) 0

-- the part of a branch
abbrev pub roll_part : List (Option Posting) → List ℕ → ℕ → ℕ → List (Option Posting)
roll_part records shares branches branch = take (roll_share (length records) shares branches branch) (drop (roll_start (length records) shares branch) records)

-- a place among the records is in the part of a branch, and the record there is this
pub record IsRecord (records : List (Option Posting)) (shares : List ℕ) (branches branch at : ℕ) (here : Option Posting) : Type 0 where
  pub from : roll_start (length records) shares branch ≤ at
  pub to : at < roll_start (length records) shares branch + roll_share (length records) shares branches branch
  pub is : slice_index_or records at None ≡ here

-- who is posted: whom the branch's own part says
abbrev pub roll_posted : List (Option Posting) → List ℕ → ℕ → Postings
roll_posted records shares branches person role branch = among (roll_part records shares branches branch) (length (roll_part records shares branches branch)) person role branch

-- what every roll keeps: each branch's part has postings at the branch alone, of persons and to roles that there are, and none twice
abbrev pub KeptParts : List (Option Posting) → List ℕ → ℕ → Type 0
KeptParts records shares branches = (b : ℕ) → Kept (roll_part records shares branches b) b

-- a share for each branch, branch 0 with room for one at least and none over 1024, that go into so many records together
abbrev pub shares_fit : ℕ → List ℕ → ℕ → Bool
shares_fit items shares branches =
    (length shares == branches)
    && (nat_lt 0 (slice_index shares 0) && (all branches (λ b. leb (slice_index shares b) 1024) && nat_le (shares_before shares branches) items))

-- the shares fit the records, or the records are unfit
abbrev pub roll_checked : ℕ → List ℕ → ℕ → Result (Unit {0}) RegisterFault
roll_checked items shares branches = must (shares_fit items shares branches) (Unfit items)
