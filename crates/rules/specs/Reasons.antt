-- Why a call is answered as it is: which reason a refusal tells, and what an acceptance names. Each reason says that there is something,
-- or that there is not; where there are several, it is the first or the lowest that is told.
use Rattle.std.specs.Prelude.{◌≡◌, ℕ, ◌+◌, ◌<◌, ◌≤◌, Bool, true, false, ◌⊎◌, List, [], ◌∷◌, ◌++◌, length, Ok, Err, slice_index_or}
use Rattle.plans.specs.Role.{no_role}
use Rattle.plans.specs.Set.{no_set}
use Rattle.registers.specs.Meaning.{others_at, postings_at}
use Rattle.registers.specs.declared.fault.RegisterFault.TheVariants.{NotPosted, Posted, Full}
use Rattle.messages.specs.Said.{Said}
use Rattle.messages.specs.declared.call.Call.{Call}
use Rattle.messages.specs.declared.call.Call.TheVariants.{Decide, Grant, Take, Throughout, Enrol, Strike, Open, Close, Permit, Forbid, Sit}
use Rattle.messages.specs.declared.post.Post.{Post}
use Rattle.rules.specs.Answers.{Answer}
use Rattle.rules.specs.Choices.{Lines, grant_lines, line_at, take_lines}
use Rattle.rules.specs.Conditions.{Belongs, Candidate, Commander, Counts, Holds, Led, Meets, ServedMet, roles_then}
use Rattle.rules.specs.Setup.{Setup, State, home_of, is_branch, is_kind, is_operation, is_person, is_piece, is_role, outranks, over, piece_of, may_stand_at}
use Rattle.rules.specs.Words.{post_at}
use Rattle.rules.specs.declared.answer.Accepted.{Accepted}
use Rattle.rules.specs.declared.answer.Accepted.TheVariants.{Allowed, Governed, Cleared, Ordered, Seated}
use Rattle.rules.specs.declared.fault.EngineFault.{EngineFault}
use Rattle.rules.specs.declared.fault.EngineFault.TheVariants.{NoCandidate, NotGoverned, CannotStand, Closed, Stranger, Unmet, TooManyOf, LimitReached, NoPermit, NotCounting, AlreadySo, NothingFound, Register}

-- the lowest number of which this holds
pub record Lowest (Fits : ℕ → Type 0) (number : ℕ) : Type 0 where
  pub fits : Fits number
  pub none_lower : (lower : ℕ) → lower < number → Fits lower → ⊥

-- what is wanted is not so, and this number is told for it
abbrev pub Lacks : ℕ → Type 0 → ℕ → Type 0
Lacks number Wanted told = (told ≡ number) × (Wanted → ⊥)

-- one reason to refuse: where it holds of a number, the answer is the refusal that tells the number; where it holds of none, the answer
-- is as the rest says
pub data Refuses (Reason : ℕ → Type 0) (fault : ℕ → EngineFault) (Rest : Answer → Type 0) (given : Answer) : Type 0 where
  refused : (told : ℕ) → Reason told → given ≡ Err (fault told) → Refuses Reason fault Rest given
  passed : ((told : ℕ) → Reason told → ⊥) → Rest given → Refuses Reason fault Rest given

-- the answer is an acceptance that names this
pub record Accepts (Named : Accepted → Type 0) (given : Answer) : Type 0 where
  pub accepted : Accepted
  pub named : Named accepted
  pub is : given ≡ Ok accepted

-- t exists, and there is a candidate for it
abbrev pub SomeCandidate : Setup → State → Said → ℕ → Type 0
SomeCandidate w s c t = (is_branch w t ≡ true) × ((place : ℕ) × Candidate w s c t place)

-- t exists, and there is a candidate for opening and closing it
abbrev pub SomeCommander : Setup → State → Said → ℕ → Type 0
SomeCommander w s c t = (is_branch w t ≡ true) × ((place : ℕ) × Commander w s c t place)

-- a branch is at or above t, and its mark is closed
abbrev pub Bars : Setup → State → ℕ → ℕ → Type 0
Bars w s t o = (over w o t ≡ true) × (s.closed o ≡ true)

-- the line with a number is in the list, is for the role, and serves the post at a place
pub record Governs (w : Setup) (c : Said) (lines : Lines) (role place number : ℕ) : Type 0 where
  pub listed : number < lines.count
  pub governed : (line_at lines number).governed ≡ role
  pub serves : outranks w (post_at c.posts place).role (line_at lines number).governing ≡ true

-- the post at a place is a candidate for t that a line for the role serves
abbrev pub ServedAt : Setup → State → Said → Lines → ℕ → ℕ → ℕ → Type 0
ServedAt w s c lines role t place = Candidate w s c t place × ((number : ℕ) × Governs w c lines role place number)

-- the line with a number does so, and the person meets it at t
abbrev pub GovernsMet : Setup → State → Said → Lines → ℕ → ℕ → ℕ → ℕ → ℕ → Type 0
GovernsMet w s c lines person role t place number = Governs w c lines role place number × Meets w s person (line_at lines number) t

-- the post at a place is a candidate for t that such a line serves
abbrev pub MetAt : Setup → State → Said → Lines → ℕ → ℕ → ℕ → ℕ → Type 0
MetAt w s c lines person role t place = Candidate w s c t place × ((number : ℕ) × GovernsMet w s c lines person role t place number)

-- the person meets no line for the role that serves a candidate: told is the lowest line for the role that serves the first candidate
-- that one serves
pub record MeetsNone (w : Setup) (s : State) (c : Said) (lines : Lines) (person role t number : ℕ) : Type 0 where
  pub place : ℕ
  pub first : Lowest (ServedAt w s c lines role t) place
  pub lowest : Lowest (Governs w c lines role place) number
  pub unmet : ServedMet w s c lines person role t → ⊥

-- the role is at or below that of the post at a place, and has the permit
abbrev pub Permits : Setup → State → Said → ℕ → ℕ → ℕ → ℕ → Type 0
Permits w s c operation kind place role = (outranks w (post_at c.posts place).role role ≡ true) × (s.permitted operation kind role ≡ true)

-- the post at a place is a candidate for t with such a role
abbrev pub PermittedAt : Setup → State → Said → ℕ → ℕ → ℕ → ℕ → Type 0
PermittedAt w s c operation kind t place = Candidate w s c t place × ((role : ℕ) × Permits w s c operation kind place role)

-- the post at a place is one of these candidates, and its role is the principal or above
abbrev pub LeadsAt : Setup → Said → (ℕ → Type 0) → ℕ → Type 0
LeadsAt w c Candidates place = Candidates place × (outranks w (post_at c.posts place).role w.plan.principal ≡ true)

-- of the set with a number the person would have as many roles as its bound, or more
abbrev pub TooMany : Setup → State → ℕ → ℕ → ℕ → ℕ → Type 0
TooMany w s person role branch number =
    (number < w.plan.set_count) × ((slice_index_or w.plan.sets number no_set).bound ≤ roles_then w s person role branch number)

-- an acceptance by lines names the first candidate that a line for the role serves which the person meets, and the lowest such line
pub record NamesLine (w : Setup) (s : State) (c : Said) (lines : Lines) (person role t : ℕ) (accepted : Accepted) : Type 0 where
  pub place : ℕ
  pub line : ℕ
  pub names : accepted ≡ Governed place line
  pub first : Lowest (MetAt w s c lines person role t) place
  pub lowest : Lowest (GovernsMet w s c lines person role t place) line

-- a decision names the first candidate with a role that has the permit, and the lowest such role
pub record NamesRole (w : Setup) (s : State) (c : Said) (operation kind t : ℕ) (accepted : Accepted) : Type 0 where
  pub place : ℕ
  pub role : ℕ
  pub names : accepted ≡ Allowed place role
  pub first : Lowest (PermittedAt w s c operation kind t) place
  pub lowest : Lowest (Permits w s c operation kind place) role

-- an order names the first of its candidates that leads
pub record NamesLeader (w : Setup) (c : Said) (Candidates : ℕ → Type 0) (accepted : Accepted) : Type 0 where
  pub place : ℕ
  pub names : accepted ≡ Ordered place
  pub first : Lowest (LeadsAt w c Candidates) place

-- throughout names two numbers; which they are is a promise of its own (CountedThroughout)
pub record NamesCounts (accepted : Accepted) : Type 0 where
  pub taken : ℕ
  pub left : ℕ
  pub names : accepted ≡ Cleared taken left

-- there is a candidate, and one that leads, or the answer says which of the two is lacking; then the rest
abbrev pub ByLeader : Setup → State → Said → ℕ → (Answer → Type 0) → Answer → Type 0
ByLeader w s c t Rest =
    Refuses (Lacks t (SomeCandidate w s c t)) NoCandidate
    (Refuses (Lacks w.plan.principal (Led w c (Candidate w s c t))) NotGoverned
    Rest)

-- the same of those for opening and closing
abbrev pub ByCommander : Setup → State → Said → ℕ → (Answer → Type 0) → Answer → Type 0
ByCommander w s c t Rest =
    Refuses (Lacks t (SomeCommander w s c t)) NoCandidate
    (Refuses (Lacks w.plan.principal (Led w c (Commander w s c t))) NotGoverned
    Rest)

-- the reasons of each call in the sequence in which they are told, and what its acceptance names
abbrev pub Reasoned : Setup → State → Said → Call → Answer → Type 0
Reasoned w s c (Decide operation piece) =
    Refuses (Lacks piece (SomeCandidate w s c (home_of w piece))) NoCandidate
    (Refuses (Lowest (Bars w s (home_of w piece))) Closed
    (Refuses (Lacks (piece_of w piece).kind ((place : ℕ) × PermittedAt w s c operation (piece_of w piece).kind (home_of w piece) place)) NoPermit
    (Accepts (NamesRole w s c operation (piece_of w piece).kind (home_of w piece)))))
Reasoned w s c (Grant person role branch) =
    Refuses (Lacks role (may_stand_at w role branch ≡ true)) CannotStand
    (Refuses (Lacks branch (SomeCandidate w s c branch)) NoCandidate
    (Refuses (Lacks role ((place : ℕ) × ServedAt w s c (grant_lines w) role branch place)) NotGoverned
    (Refuses (Lowest (Bars w s branch)) Closed
    (Refuses (Lacks person (Belongs w s person branch)) Stranger
    (Refuses (MeetsNone w s c (grant_lines w) person role branch) Unmet
    (Refuses (Lowest (TooMany w s person role branch)) TooManyOf
    (Refuses (Lacks role (others_at s.posted person role branch < (slice_index_or w.plan.roles role no_role).limit)) LimitReached
    (Refuses (Lacks branch (s.posted person role branch ≡ false)) (λ b. Register (Posted b))
    (Refuses (Lacks branch (postings_at s.posted branch < w.share branch)) (λ b. Register (Full b))
    (Accepts (NamesLine w s c (grant_lines w) person role branch)))))))))))
Reasoned w s c (Take person role branch) =
    Refuses (Lacks branch (SomeCandidate w s c branch)) NoCandidate
    (Refuses (Lacks role ((place : ℕ) × ServedAt w s c (take_lines w) role branch place)) NotGoverned
    (Refuses (MeetsNone w s c (take_lines w) person role branch) Unmet
    (Refuses (Lacks branch (s.posted person role branch ≡ true)) (λ b. Register (NotPosted b))
    (Accepts (NamesLine w s c (take_lines w) person role branch)))))
Reasoned w s c (Throughout person role branch) =
    Refuses (Lacks branch (SomeCandidate w s c branch)) NoCandidate
    (Refuses (Lacks branch (Holds w s person role branch)) NothingFound
    (Accepts NamesCounts))
Reasoned w s c (Enrol person branch) =
    ByLeader w s c branch
    (Refuses (Lowest (Bars w s branch)) Closed
    (Refuses (Lacks branch (s.enrolled person branch ≡ false)) AlreadySo
    (Accepts (NamesLeader w c (Candidate w s c branch)))))
Reasoned w s c (Strike person branch) =
    ByLeader w s c branch
    (Refuses (Lacks branch (s.enrolled person branch ≡ true)) AlreadySo
    (Accepts (NamesLeader w c (Candidate w s c branch))))
Reasoned w s c (Open branch) =
    ByCommander w s c branch
    (Refuses (Lacks branch (s.closed branch ≡ true)) AlreadySo
    (Accepts (NamesLeader w c (Commander w s c branch))))
Reasoned w s c (Close branch) =
    ByCommander w s c branch
    (Refuses (Lacks branch (s.closed branch ≡ false)) AlreadySo
    (Accepts (NamesLeader w c (Commander w s c branch))))
Reasoned w s c (Permit operation kind role) =
    ByLeader w s c 0
    (Refuses (Lacks kind (s.permitted operation kind role ≡ false)) AlreadySo
    (Accepts (NamesLeader w c (Candidate w s c 0))))
Reasoned w s c (Forbid operation kind role) =
    ByLeader w s c 0
    (Refuses (Lacks kind (s.permitted operation kind role ≡ true)) AlreadySo
    (Accepts (NamesLeader w c (Candidate w s c 0))))
Reasoned w s c Sit =
    Refuses (Lowest (λ place. (place < length c.posts) × (Counts w s c.person (post_at c.posts place) → ⊥))) NotCounting
    (Accepts (λ accepted. accepted ≡ Seated (length c.posts)))

-- of each post, whether its role and its branch exist
abbrev pub posts_exist : Setup → List Post → List Bool
posts_exist w [] = []
posts_exist w (post ∷ posts) = is_role w post.role ∷ is_branch w post.branch ∷ posts_exist w posts

-- of each argument, whether it exists
abbrev pub arguments_exist : Setup → Call → List Bool
arguments_exist w (Decide operation piece) = is_operation operation ∷ is_piece w piece ∷ []
arguments_exist w (Grant person role branch) = is_person person ∷ is_role w role ∷ is_branch w branch ∷ []
arguments_exist w (Take person role branch) = is_person person ∷ is_role w role ∷ is_branch w branch ∷ []
arguments_exist w (Throughout person role branch) = is_person person ∷ is_role w role ∷ is_branch w branch ∷ []
arguments_exist w (Enrol person branch) = is_person person ∷ is_branch w branch ∷ []
arguments_exist w (Strike person branch) = is_person person ∷ is_branch w branch ∷ []
arguments_exist w (Open branch) = is_branch w branch ∷ []
arguments_exist w (Close branch) = is_branch w branch ∷ []
arguments_exist w (Permit operation kind role) = is_operation operation ∷ is_kind kind ∷ is_role w role ∷ []
arguments_exist w (Forbid operation kind role) = is_operation operation ∷ is_kind kind ∷ is_role w role ∷ []
arguments_exist w Sit = []

-- of each number of a call behind the number of posts, whether what it names exists
abbrev pub numbers_exist : Setup → Said → List Bool
numbers_exist w c = posts_exist w c.posts ++ arguments_exist w c.call

-- from an offset on, one byte for each: what the byte at another offset names does not exist
abbrev pub MissingFrom : ℕ → List Bool → ℕ → Type 0
MissingFrom start exist offset = (k : ℕ) × (offset ≡ start + k) × (slice_index_or exist k true ≡ false)

-- what the message names at an offset does not exist: the person at 4, the posts and the arguments from 6 on (a piece is the last of its
-- call, so that all before it have one byte)
abbrev pub Missing : Setup → Said → ℕ → Type 0
Missing w c offset =
    ((offset ≡ 4) × (is_person c.person ≡ false)) ⊎ MissingFrom 6 (numbers_exist w c) offset
