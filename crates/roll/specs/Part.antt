-- What one branch's part of a roll means: a list of records, of which each is a posting at the branch or, where it is free, None.
use Rattle.std.specs.Prelude.{◌≡◌, ℕ, ◌<◌, Bool, false, not, ◌&&◌, List, Some, None, Option, ◌==◌, slice_index_or}
use Rattle.registers.specs.Meaning.{is_posting}
use Rattle.registers.specs.declared.posting.Posting.{Posting}
use Rattle.search.specs.Searches.{any_below}

-- one of the first n records of a part is this posting
abbrev pub among : List (Option Posting) → ℕ → ℕ → ℕ → ℕ → Bool
among part n person role branch = any_below n (λ k. is_posting (slice_index_or part k None) person role branch)

-- a record posts somebody other than this person to a role
abbrev pub is_other : Option Posting → ℕ → ℕ → Bool
is_other None person role = false
is_other (Some it) person role = it.role == role && not (it.person == person)

-- what holds of the part of a branch
pub record Kept (part : List (Option Posting)) (branch : ℕ) : Type 0 where
  -- each record that is not free posts a person to a role, both of which there are, at the branch
  pub own : (k : ℕ) (it : Posting) → slice_index_or part k None ≡ Some it → (it.person < 64) × (it.role < 16) × (it.branch ≡ branch)
  -- and no two of them are the same posting
  pub once : (j k : ℕ) (it : Posting) → slice_index_or part j None ≡ Some it → slice_index_or part k None ≡ Some it → j ≡ k
