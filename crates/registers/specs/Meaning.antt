-- What a register means, whatever keeps it: a set of postings, and a share for each of its branches.
use Rattle.std.specs.Prelude.{◌≡◌, ℕ, ◌<◌, ◌≤◌, Bool, true, false, cond, not, ◌&&◌, ◌||◌, List, [], ◌∷◌, Some, None, Option, Result, ◌==◌, nat_lt}
use Rattle.refusals.specs.Checks.{in_order, must}
use Rattle.search.specs.Searches.{count_below, sum_below}
use Rattle.registers.specs.declared.fault.RegisterFault.{RegisterFault}
use Rattle.registers.specs.declared.fault.RegisterFault.TheVariants.{NoPerson, NoRole, NoBranch, Posted, NotPosted, Full}
use Rattle.registers.specs.declared.posting.Posting.{Posting}

-- a set of postings: whether a person is posted to a role at a branch
abbrev pub Postings : Type 0
Postings = ℕ → ℕ → ℕ → Bool

-- nobody is posted anywhere
abbrev pub nobody : Postings
nobody person role branch = false

-- only persons, roles and branches that a register has are in a posting
abbrev pub Inside : Postings → ℕ → Type 0
Inside posted branches = (p q b : ℕ) → posted p q b ≡ true → (p < 64) × (q < 16) × (b < branches)

-- a branch that is not the register's own has no share
abbrev pub OwnShares : ℕ → (ℕ → ℕ) → Type 0
OwnShares branches share = (b : ℕ) → branches ≤ b → share b ≡ 0

-- the register has as many branches as before, and each has the share that it had
abbrev pub KeepsShares : ℕ → (ℕ → ℕ) → ℕ → (ℕ → ℕ) → Type 0
KeepsShares branches share branches' share' = (branches' ≡ branches) × ((b : ℕ) → share' b ≡ share b)

-- two postings, (person, role, branch) and (x, y, z), are the same
abbrev pub same_posting : ℕ → ℕ → ℕ → ℕ → ℕ → ℕ → Bool
same_posting person role branch x y z = z == branch && (x == person && y == role)

-- a record, of which a free one is None, is this posting
abbrev pub is_posting : Option Posting → ℕ → ℕ → ℕ → Bool
is_posting None person role branch = false
is_posting (Some it) person role branch = same_posting it.person it.role it.branch person role branch

-- the set with one posting more
abbrev pub added : Postings → ℕ → ℕ → ℕ → Postings
added posted person role branch x y z = same_posting person role branch x y z || posted x y z

-- the set without one posting
abbrev pub removed : Postings → ℕ → ℕ → ℕ → Postings
removed posted person role branch x y z = not (same_posting person role branch x y z) && posted x y z

-- how many postings a branch has, of 64 persons and 16 roles
abbrev pub postings_at : Postings → ℕ → ℕ
postings_at posted branch = sum_below 64 (λ person. count_below 16 (λ role. posted person role branch))

-- how many persons other than one are posted to a role at a branch; other than somebody whom the register lacks, none
abbrev pub others_at : Postings → ℕ → ℕ → ℕ → ℕ
others_at posted person role branch = cond (nat_lt person 64) (count_below 64 (λ x. not (x == person) && posted x role branch)) 0

-- the share that is told of a branch: none of a branch that is not the register's own
abbrev pub share_told : ℕ → (ℕ → ℕ) → ℕ → Option ℕ
share_told branches share branch = cond (nat_lt branch branches) (Some (share branch)) None

-- the register has such a person, such a role and such a branch
abbrev pub number_steps : ℕ → ℕ → ℕ → ℕ → List (Result (Unit {0}) RegisterFault)
number_steps branches person role branch =
    must (nat_lt person 64) NoPerson
    ∷ must (nat_lt role 16) NoRole
    ∷ must (nat_lt branch branches) NoBranch
    ∷ []

-- what putting answers: the numbers, then whether it is there already, then whether its branch has room
abbrev pub put_checked : Postings → ℕ → (ℕ → ℕ) → ℕ → ℕ → ℕ → Result (Unit {0}) RegisterFault
put_checked posted branches share person role branch =
    in_order
    (in_order (number_steps branches person role branch)
    ∷ must (not (posted person role branch)) (Posted branch)
    ∷ must (nat_lt (postings_at posted branch) (share branch)) (Full branch)
    ∷ [])

-- what taking answers: the numbers, then whether it is there
abbrev pub take_checked : Postings → ℕ → ℕ → ℕ → ℕ → Result (Unit {0}) RegisterFault
take_checked posted branches person role branch =
    in_order
    (in_order (number_steps branches person role branch)
    ∷ must (posted person role branch) (NotPosted branch)
    ∷ [])
