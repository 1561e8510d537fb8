-- When a call is to be accepted, in plain words: each condition says that there is something, or that there is not.
use Rattle.std.specs.Prelude.{◌≡◌, ℕ, ◌<◌, Bool, true, false, ◌&&◌, ◌||◌, ◌⊎◌, length, ◌==◌, ◌≢◌, slice_index_or}
use Rattle.search.specs.Searches.{count_below}
use Rattle.orders.specs.Masks.{has_bit}
use Rattle.plans.specs.Role.{no_role}
use Rattle.plans.specs.Set.{no_set}
use Rattle.plans.specs.declared.line.Line.{Line}
use Rattle.registers.specs.Meaning.{others_at, postings_at}
use Rattle.messages.specs.Said.{Said}
use Rattle.messages.specs.declared.call.Call.{Call}
use Rattle.messages.specs.declared.call.Call.TheVariants.{Decide, Grant, Take, Throughout, Enrol, Strike, Open, Close, Permit, Forbid, Sit}
use Rattle.messages.specs.declared.post.Post.{Post}
use Rattle.rules.specs.Choices.{Lines, grant_lines, line_at, take_lines}
use Rattle.rules.specs.Setup.{Setup, State, home_of, is_branch, is_kind, is_operation, is_person, is_piece, is_role, outranks, over, piece_of, may_stand_at}
use Rattle.rules.specs.Words.{post_at}

-- open: no branch at or above t has its mark closed
abbrev pub Unbarred : Setup → State → ℕ → Type 0
Unbarred w s t = (o : ℕ) → over w o t ≡ true → s.closed o ≡ false

-- the person holds the role at t: there is a branch at or above t, and a role at or above this one, where the person is posted
pub record Holds (w : Setup) (s : State) (person role t : ℕ) : Type 0 where
  pub branch : ℕ
  pub rank : ℕ
  pub higher : over w branch t ≡ true
  pub ranking : outranks w rank role ≡ true
  pub posted : s.posted person rank branch ≡ true

-- the person belongs to t: there is a branch at or above t where the person is enrolled
pub record Belongs (w : Setup) (s : State) (person t : ℕ) : Type 0 where
  pub branch : ℕ
  pub higher : over w branch t ≡ true
  pub enrolled : s.enrolled person branch ≡ true

-- the post counts: its role may stand at its branch, the person holds it, and its branch is open
pub record Counts (w : Setup) (s : State) (person : ℕ) (post : Post) : Type 0 where
  pub stands : may_stand_at w post.role post.branch ≡ true
  pub held : Holds w s person post.role post.branch
  pub unbarred : Unbarred w s post.branch

-- the post at a place of the sitting is a candidate for t: it counts, at a branch at or above t. (Whether t exists is asked apart)
pub record Candidate (w : Setup) (s : State) (c : Said) (t place : ℕ) : Type 0 where
  pub sits : place < length c.posts
  pub higher : over w (post_at c.posts place).branch t ≡ true
  pub counting : Counts w s c.person (post_at c.posts place)

-- it is one for opening and closing t: strictly above t, and every branch strictly above t is at, above or below its branch
pub record Commander (w : Setup) (s : State) (c : Said) (t place : ℕ) : Type 0 where
  pub candidate : Candidate w s c t place
  pub strict : (post_at c.posts place).branch ≡ t → ⊥
  pub beside : (x : ℕ) → over w x t ≡ true → (x ≢ t) →
      (over w x (post_at c.posts place).branch ≡ true) ⊎ (over w (post_at c.posts place).branch x ≡ true)

-- the person meets the line at t: holds every needed role there and no barred one
pub record Meets (w : Setup) (s : State) (person : ℕ) (line : Line) (t : ℕ) : Type 0 where
  pub needed : (role : ℕ) → role < 16 → has_bit line.needed role ≡ true → Holds w s person role t
  pub barred : (role : ℕ) → role < 16 → has_bit line.barred role ≡ true → Holds w s person role t → ⊥

-- there is a candidate for t, and a line for the role that serves it and that the person meets at t
pub record ServedMet (w : Setup) (s : State) (c : Said) (lines : Lines) (person role t : ℕ) : Type 0 where
  pub place : ℕ
  pub number : ℕ
  pub candidate : Candidate w s c t place
  pub listed : number < lines.count
  pub governed : (line_at lines number).governed ≡ role
  pub serves : outranks w (post_at c.posts place).role (line_at lines number).governing ≡ true
  pub met : Meets w s person (line_at lines number) t

-- among these candidates there is one whose role is the principal or above
pub record Led (w : Setup) (c : Said) (candidates : ℕ → Type 0) : Type 0 where
  pub place : ℕ
  pub candidate : candidates place
  pub leads : outranks w (post_at c.posts place).role w.plan.principal ≡ true

-- decide, as role- and organization-based access says it: there is a post that counts, at a branch at or above the home, with
-- at or below its role a role that has the permit for the operation and the piece's kind, and the home exists and is open
pub record CanAccess (w : Setup) (s : State) (c : Said) (operation piece : ℕ) : Type 0 where
  pub home : is_branch w (home_of w piece) ≡ true
  pub place : ℕ
  pub role : ℕ
  pub candidate : Candidate w s c (home_of w piece) place
  pub below : outranks w (post_at c.posts place).role role ≡ true
  pub permit : s.permitted operation (piece_of w piece).kind role ≡ true
  pub unbarred : Unbarred w s (home_of w piece)

-- how many roles of a set the person would be posted to at the branch with one more
abbrev pub roles_then : Setup → State → ℕ → ℕ → ℕ → ℕ → ℕ
roles_then w s person role branch number =
    count_below 16 (λ q. has_bit (slice_index_or w.plan.sets number no_set).roles q && (q == role || s.posted person q branch))

-- grant: the role may stand there, a grant line allows it, the branch is open, the person belongs to it, no set has too many
-- roles of the person then, fewer others than the limit have the role there, the posting is new, and the branch has room for it
pub record MayGrant (w : Setup) (s : State) (c : Said) (person role branch : ℕ) : Type 0 where
  pub stands : may_stand_at w role branch ≡ true
  pub served : ServedMet w s c (grant_lines w) person role branch
  pub unbarred : Unbarred w s branch
  pub belongs : Belongs w s person branch
  pub sets : (number : ℕ) → number < w.plan.set_count → roles_then w s person role branch number < (slice_index_or w.plan.sets number no_set).bound
  pub limit : others_at s.posted person role branch < (slice_index_or w.plan.roles role no_role).limit
  pub fresh : s.posted person role branch ≡ false
  pub room : postings_at s.posted branch < w.share branch

-- take: a take line allows it, and the person is posted there
pub record MayTake (w : Setup) (s : State) (c : Said) (person role branch : ℕ) : Type 0 where
  pub served : ServedMet w s c (take_lines w) person role branch
  pub posted : s.posted person role branch ≡ true

-- throughout: there is a candidate, and the person holds the role at the branch, so that there is something to find
pub record MayClear (w : Setup) (s : State) (c : Said) (person role branch : ℕ) : Type 0 where
  pub place : ℕ
  pub candidate : Candidate w s c branch place
  pub found : Holds w s person role branch

-- enrol: a candidate leads, the branch is open, and the person is not enrolled there
pub record MayEnrol (w : Setup) (s : State) (c : Said) (person branch : ℕ) : Type 0 where
  pub led : Led w c (Candidate w s c branch)
  pub unbarred : Unbarred w s branch
  pub fresh : s.enrolled person branch ≡ false

-- strike: a candidate leads, and the person is enrolled there
pub record MayStrike (w : Setup) (s : State) (c : Said) (person branch : ℕ) : Type 0 where
  pub led : Led w c (Candidate w s c branch)
  pub there : s.enrolled person branch ≡ true

-- open and close: a candidate for that leads, and the mark is the other way
pub record MayMark (w : Setup) (s : State) (c : Said) (branch : ℕ) (closed : Bool) : Type 0 where
  pub led : Led w c (Commander w s c branch)
  pub mark : s.closed branch ≡ closed

-- permit and forbid: there is a branch 0, a candidate for it leads, and the permit is the other way
pub record MayPermit (w : Setup) (s : State) (c : Said) (operation kind role : ℕ) (there : Bool) : Type 0 where
  pub led : Led w c (Candidate w s c 0)
  pub top : is_branch w 0 ≡ true
  pub permit : s.permitted operation kind role ≡ there

-- sit: every post counts
abbrev pub MaySit : Setup → State → Said → Type 0
MaySit w s c = (place : ℕ) → place < length c.posts → Counts w s c.person (post_at c.posts place)

-- the conditions of each call
abbrev pub Allowed : Setup → State → Said → Call → Type 0
Allowed w s c (Decide operation piece) = CanAccess w s c operation piece
Allowed w s c (Grant person role branch) = MayGrant w s c person role branch
Allowed w s c (Take person role branch) = MayTake w s c person role branch
Allowed w s c (Throughout person role branch) = MayClear w s c person role branch
Allowed w s c (Enrol person branch) = MayEnrol w s c person branch
Allowed w s c (Strike person branch) = MayStrike w s c person branch
Allowed w s c (Open branch) = MayMark w s c branch true
Allowed w s c (Close branch) = MayMark w s c branch false
Allowed w s c (Permit operation kind role) = MayPermit w s c operation kind role false
Allowed w s c (Forbid operation kind role) = MayPermit w s c operation kind role true
Allowed w s c Sit = MaySit w s c

-- a person, a role and a branch that exist
abbrev pub KnownPosting : Setup → ℕ → ℕ → ℕ → Type 0
KnownPosting w person role branch = (is_person person ≡ true) × (is_role w role ≡ true) × (is_branch w branch ≡ true)

-- an operation, a piece kind and a role that exist
abbrev pub KnownPermit : Setup → ℕ → ℕ → ℕ → Type 0
KnownPermit w operation kind role = (is_operation operation ≡ true) × (is_kind kind ≡ true) × (is_role w role ≡ true)

-- the arguments of a call exist
abbrev pub KnownArguments : Setup → Call → Type 0
KnownArguments w (Decide operation piece) = (is_operation operation ≡ true) × (is_piece w piece ≡ true)
KnownArguments w (Grant person role branch) = KnownPosting w person role branch
KnownArguments w (Take person role branch) = KnownPosting w person role branch
KnownArguments w (Throughout person role branch) = KnownPosting w person role branch
KnownArguments w (Enrol person branch) = (is_person person ≡ true) × (is_branch w branch ≡ true)
KnownArguments w (Strike person branch) = (is_person person ≡ true) × (is_branch w branch ≡ true)
KnownArguments w (Open branch) = is_branch w branch ≡ true
KnownArguments w (Close branch) = is_branch w branch ≡ true
KnownArguments w (Permit operation kind role) = KnownPermit w operation kind role
KnownArguments w (Forbid operation kind role) = KnownPermit w operation kind role
KnownArguments w Sit = Unit {0}

-- every person, role, branch, operation, kind and piece that the call names exists
pub record Known (w : Setup) (c : Said) : Type 0 where
  pub person : is_person c.person ≡ true
  pub posts : (place : ℕ) → place < length c.posts →
      (is_role w (post_at c.posts place).role ≡ true) × (is_branch w (post_at c.posts place).branch ≡ true)
  pub arguments : KnownArguments w c.call
