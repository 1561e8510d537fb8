-- The numbers that a call says, and the refusal where there is no such thing: the first in the sequence of its message.
use Rattle.std.specs.Prelude.{ℕ, ◌+◌, ◌*◌, List, [], ◌∷◌, length, Result}
use Rattle.refusals.specs.Checks.{in_order, must}
use Rattle.messages.specs.Said.{Said}
use Rattle.messages.specs.declared.call.Call.{Call}
use Rattle.messages.specs.declared.call.Call.TheVariants.{Decide, Grant, Take, Throughout, Enrol, Strike, Open, Close, Permit, Forbid, Sit}
use Rattle.messages.specs.declared.post.Post.{Post}
use Rattle.rules.specs.Setup.{Setup, is_branch, is_kind, is_operation, is_person, is_piece, is_role}
use Rattle.rules.specs.declared.fault.EngineFault.{EngineFault}
use Rattle.rules.specs.declared.fault.EngineFault.TheVariants.{NoSuchNumber}

-- the role and the branch of each post, from an offset on
abbrev pub post_numbers : Setup → ℕ → List Post → List (Result (Unit {0}) EngineFault)
post_numbers w at [] = []
post_numbers w at (post ∷ posts) =
    must (is_role w post.role) (NoSuchNumber at)
    ∷ must (is_branch w post.branch) (NoSuchNumber (at + 1))
    ∷ post_numbers w (at + 2) posts

-- a person, a role and a branch, from an offset on
abbrev pub posting_numbers : Setup → ℕ → ℕ → ℕ → ℕ → List (Result (Unit {0}) EngineFault)
posting_numbers w at person role branch =
    must (is_person person) (NoSuchNumber at)
    ∷ must (is_role w role) (NoSuchNumber (at + 1))
    ∷ must (is_branch w branch) (NoSuchNumber (at + 2))
    ∷ []

-- a person and a branch, from an offset on
abbrev pub enrolment_numbers : Setup → ℕ → ℕ → ℕ → List (Result (Unit {0}) EngineFault)
enrolment_numbers w at person branch = must (is_person person) (NoSuchNumber at) ∷ must (is_branch w branch) (NoSuchNumber (at + 1)) ∷ []

-- a branch at an offset
abbrev pub branch_number : Setup → ℕ → ℕ → List (Result (Unit {0}) EngineFault)
branch_number w at branch = must (is_branch w branch) (NoSuchNumber at) ∷ []

-- an operation, a piece kind and a role, from an offset on
abbrev pub permit_numbers : Setup → ℕ → ℕ → ℕ → ℕ → List (Result (Unit {0}) EngineFault)
permit_numbers w at operation kind role =
    must (is_operation operation) (NoSuchNumber at)
    ∷ must (is_kind kind) (NoSuchNumber (at + 1))
    ∷ must (is_role w role) (NoSuchNumber (at + 2))
    ∷ []

-- the arguments of a call, from an offset on
abbrev pub argument_numbers : Setup → ℕ → Call → List (Result (Unit {0}) EngineFault)
argument_numbers w at (Decide operation piece) =
    must (is_operation operation) (NoSuchNumber at) ∷ must (is_piece w piece) (NoSuchNumber (at + 1)) ∷ []
argument_numbers w at (Grant person role branch) = posting_numbers w at person role branch
argument_numbers w at (Take person role branch) = posting_numbers w at person role branch
argument_numbers w at (Throughout person role branch) = posting_numbers w at person role branch
argument_numbers w at (Enrol person branch) = enrolment_numbers w at person branch
argument_numbers w at (Strike person branch) = enrolment_numbers w at person branch
argument_numbers w at (Open branch) = branch_number w at branch
argument_numbers w at (Close branch) = branch_number w at branch
argument_numbers w at (Permit operation kind role) = permit_numbers w at operation kind role
argument_numbers w at (Forbid operation kind role) = permit_numbers w at operation kind role
argument_numbers w at Sit = []

-- every number that the call says, in the sequence of its message: the person, the posts, the arguments
unfoldable pub numbers_checked : Setup → Said → Result (Unit {0}) EngineFault
numbers_checked w c =
    in_order
    (must (is_person c.person) (NoSuchNumber 4)
    ∷ in_order (post_numbers w 6 c.posts)
    ∷ in_order (argument_numbers w (6 + 2 * length c.posts) c.call)
    ∷ [])
