-- What an accepted call changes, point by point, and that all else stays.
use Rattle.std.specs.Prelude.{◌≡◌, ℕ, true, ◌⊎◌, Decides, ◌≢◌}
use Rattle.messages.specs.Said.{Said}
use Rattle.messages.specs.declared.call.Call.{Call}
use Rattle.messages.specs.declared.call.Call.TheVariants.{Decide, Grant, Take, Throughout, Enrol, Strike, Open, Close, Permit, Forbid, Sit}
use Rattle.rules.specs.Choices.{take_lines}
use Rattle.rules.specs.Conditions.{ServedMet}
use Rattle.rules.specs.Setup.{Setup, State, is_branch, outranks, over}

-- two states have the same postings
abbrev pub SamePosted : State → State → Type 0
SamePosted s s' = (x y z : ℕ) → s'.posted x y z ≡ s.posted x y z

-- two states have the same enrolments
abbrev pub SameEnrolled : State → State → Type 0
SameEnrolled s s' = (x z : ℕ) → s'.enrolled x z ≡ s.enrolled x z

-- two states have the same marks
abbrev pub SameClosed : State → State → Type 0
SameClosed s s' = (z : ℕ) → s'.closed z ≡ s.closed z

-- two states have the same permits
abbrev pub SamePermitted : State → State → Type 0
SamePermitted s s' = (x y z : ℕ) → s'.permitted x y z ≡ s.permitted x y z

-- two states are the same
pub record Same (s s' : State) : Type 0 where
  pub posted : SamePosted s s'
  pub enrolled : SameEnrolled s s'
  pub closed : SameClosed s s'
  pub permitted : SamePermitted s s'

-- just this posting is in the set afterwards, beside those that were
abbrev pub Put : State → State → ℕ → ℕ → ℕ → Type 0
Put s s' person role branch =
    (x y z : ℕ) → Decides (s'.posted x y z) (((x ≡ person) × (y ≡ role) × (z ≡ branch)) ⊎ (s.posted x y z ≡ true))

-- the postings that remain are those that were and that are not named
abbrev pub Gone : State → State → (ℕ → ℕ → ℕ → Type 0) → Type 0
Gone s s' named = (x y z : ℕ) → Decides (s'.posted x y z) ((s.posted x y z ≡ true) × (named x y z → ⊥))

-- throughout takes the posting (x, y, z): it is the person's, to the role or one above it, at a branch that exists, the branch
-- named or above it, and some counting post stands over z with a take line for y that serves the post and that the person meets at z
pub record Taken (w : Setup) (s : State) (c : Said) (person role branch x y z : ℕ) : Type 0 where
  pub whose : x ≡ person
  pub there : is_branch w z ≡ true
  pub higher : over w z branch ≡ true
  pub ranking : outranks w y role ≡ true
  pub served : ServedMet w s c (take_lines w) person y z

-- the postings change so, and nothing else does
pub record PostingsOnly (s s' : State) (postings : Type 0) : Type 0 where
  pub posted : postings
  pub enrolled : SameEnrolled s s'
  pub closed : SameClosed s s'
  pub permitted : SamePermitted s s'

-- the enrolments change so, and nothing else does
pub record EnrolmentsOnly (s s' : State) (enrolments : Type 0) : Type 0 where
  pub posted : SamePosted s s'
  pub enrolled : enrolments
  pub closed : SameClosed s s'
  pub permitted : SamePermitted s s'

-- the marks change so, and nothing else does
pub record MarksOnly (s s' : State) (marks : Type 0) : Type 0 where
  pub posted : SamePosted s s'
  pub enrolled : SameEnrolled s s'
  pub closed : marks
  pub permitted : SamePermitted s s'

-- the permits change so, and nothing else does
pub record PermitsOnly (s s' : State) (permits : Type 0) : Type 0 where
  pub posted : SamePosted s s'
  pub enrolled : SameEnrolled s s'
  pub closed : SameClosed s s'
  pub permitted : permits

-- exactly the change of each call
abbrev pub Makes : Setup → State → State → Said → Call → Type 0
Makes w s s' c (Decide operation piece) = Same s s'
Makes w s s' c (Grant person role branch) = PostingsOnly s s' (Put s s' person role branch)
Makes w s s' c (Take person role branch) = PostingsOnly s s' (Gone s s' (λ x y z. (x ≡ person) × (y ≡ role) × (z ≡ branch)))
Makes w s s' c (Throughout person role branch) = PostingsOnly s s' (Gone s s' (Taken w s c person role branch))
Makes w s s' c (Enrol person branch) =
    EnrolmentsOnly s s' ((x z : ℕ) → Decides (s'.enrolled x z) (((x ≡ person) × (z ≡ branch)) ⊎ (s.enrolled x z ≡ true)))
Makes w s s' c (Strike person branch) =
    EnrolmentsOnly s s' ((x z : ℕ) → Decides (s'.enrolled x z) ((s.enrolled x z ≡ true) × ((x ≡ person) × (z ≡ branch) → ⊥)))
Makes w s s' c (Open branch) = MarksOnly s s' ((z : ℕ) → Decides (s'.closed z) ((s.closed z ≡ true) × (z ≢ branch)))
Makes w s s' c (Close branch) = MarksOnly s s' ((z : ℕ) → Decides (s'.closed z) ((z ≡ branch) ⊎ (s.closed z ≡ true)))
Makes w s s' c (Permit operation kind role) =
    PermitsOnly s s' ((x y z : ℕ) → Decides (s'.permitted x y z) (((x ≡ operation) × (y ≡ kind) × (z ≡ role)) ⊎ (s.permitted x y z ≡ true)))
Makes w s s' c (Forbid operation kind role) =
    PermitsOnly s s' ((x y z : ℕ) → Decides (s'.permitted x y z) ((s.permitted x y z ≡ true) × ((x ≡ operation) × (y ≡ kind) × (z ≡ role) → ⊥)))
Makes w s s' c Sit = Same s s'
