-- The eleven calls: the checks of each in the sequence of the rules, and what it is answered where it is accepted.
use Rattle.std.specs.Prelude.{ℕ, Bool, not, ◌&&◌, List, [], ◌∷◌, length, is_some, nat_lt}
use Rattle.std.specs.Option.{unwrap_or}
use Rattle.refusals.specs.Checks.{in_order, must}
use Rattle.registers.specs.Meaning.{put_checked, take_checked}
use Rattle.messages.specs.Said.{Said}
use Rattle.messages.specs.declared.call.Call.{Call}
use Rattle.messages.specs.declared.call.Call.TheVariants.{Decide, Grant, Take, Throughout, Enrol, Strike, Open, Close, Permit, Forbid, Sit}
use Rattle.rules.specs.Answers.{Answer}
use Rattle.rules.specs.Rows.{Check, by_register, refuse_at, unless}
use Rattle.rules.specs.Setup.{Setup, home_of, piece_of, may_stand_at}
use Rattle.rules.specs.Views.{View}
use Rattle.rules.specs.Words.{post_at}
use Rattle.rules.specs.declared.answer.Accepted.{Accepted}
use Rattle.rules.specs.declared.answer.Accepted.TheVariants.{Allowed, Governed, Cleared, Ordered, Seated}
use Rattle.rules.specs.declared.fault.EngineFault.TheVariants.{NoCandidate, NotGoverned, CannotStand, Closed, Stranger, Unmet, NoPermit, NotCounting, AlreadySo, NothingFound}
use Rattle.rules.specs.Choices.{Lines, finds, first_place, grant_lines, met_line, met_place, permitted_place, permitted_role, postings_of, principal_place, served_place, serving_line, sets_and_limits, some_place, take_lines, takes}

-- a line for the role serves a candidate (9)
abbrev pub served_check : Setup → Said → View → Lines → ℕ → Check
served_check w c v lines role = must (is_some (served_place w c v lines role)) (NotGoverned role)

-- the person meets a line for the role that serves a candidate (13)
abbrev pub met_check : Setup → Said → View → Lines → ℕ → ℕ → Check
met_check w c v lines person role = must (is_some (met_place w c v lines person role)) (Unmet (serving_line w c v lines role))

-- there is a candidate (8), and one whose role is the principal or above (9)
abbrev pub principal_steps : Setup → Said → (ℕ → Bool) → ℕ → List Check
principal_steps w c candidates branch =
    must (some_place c candidates) (NoCandidate branch)
    ∷ must (is_some (principal_place w c candidates)) (NotGoverned w.plan.principal)
    ∷ []

-- accepted by the first candidate whose role is the principal or above
abbrev pub principal_answer : Setup → Said → (ℕ → Bool) → Accepted
principal_answer w c candidates = Ordered (unwrap_or (principal_place w c candidates) 0)

-- accepted by the first candidate that is served by a line that the person meets, and the lowest such line
abbrev pub line_answer : Setup → Said → View → Lines → ℕ → ℕ → Accepted
line_answer w c v lines person role = Governed (unwrap_or (met_place w c v lines person role) 0) (met_line w c v lines person role)

-- the branch is open (11)
abbrev pub open_check : View → Check
open_check v = refuse_at Closed v.barrier

-- decide: there is a candidate (8), the home is open (11), and a candidate has a role with the permit (16)
unfoldable pub decide_row : Setup → Said → View → ℕ → ℕ → Answer
decide_row w c v operation piece =
    unless
    (must (some_place c v.candidate) (NoCandidate piece)
    ∷ open_check v
    ∷ must (is_some (permitted_place w c v operation (piece_of w piece).kind)) (NoPermit (piece_of w piece).kind)
    ∷ [])
    (Allowed (unwrap_or (permitted_place w c v operation (piece_of w piece).kind) 0) (permitted_role w c v operation (piece_of w piece).kind))

-- grant: the role may stand there (10), there is a candidate (8), a line serves one (9), the branch is open (11), the person belongs to
-- it (12) and meets a line that serves (13), sets and limits allow it (14, 15), and the register takes it (19, 21)
unfoldable pub grant_row : Setup → Said → View → ℕ → ℕ → ℕ → Answer
grant_row w c v person role branch =
    unless
    (must (may_stand_at w role branch) (CannotStand role)
    ∷ must (some_place c v.candidate) (NoCandidate branch)
    ∷ served_check w c v (grant_lines w) role
    ∷ open_check v
    ∷ must (v.belonging person) (Stranger person)
    ∷ met_check w c v (grant_lines w) person role
    ∷ in_order (sets_and_limits w v person role branch)
    ∷ by_register (put_checked (λ x y z. v.posted x y) w.register_branches w.share person role branch)
    ∷ [])
    (line_answer w c v (grant_lines w) person role)

-- take: there is a candidate (8), a line serves one (9), the person meets one that does (13), and the register lets it go (20)
unfoldable pub take_row : Setup → Said → View → ℕ → ℕ → ℕ → Answer
take_row w c v person role branch =
    unless
    (must (some_place c v.candidate) (NoCandidate branch)
    ∷ served_check w c v (take_lines w) role
    ∷ met_check w c v (take_lines w) person role
    ∷ by_register (take_checked (λ x y z. v.posted x y) w.register_branches person role branch)
    ∷ [])
    (line_answer w c v (take_lines w) person role)

-- throughout: there is a candidate (8), and a posting is found (20); told are those taken, and those found and left
unfoldable pub throughout_row : Setup → Said → (ℕ → View) → ℕ → ℕ → ℕ → Answer
throughout_row w c look person role branch =
    unless
    (must (some_place c (look branch).candidate) (NoCandidate branch)
    ∷ must (nat_lt 0 (postings_of w (finds w look person role branch))) (NothingFound branch)
    ∷ [])
    (Cleared
    (postings_of w (takes w c look person role branch))
    (postings_of w (λ o q. finds w look person role branch o q && not (takes w c look person role branch o q))))

-- enrol: a principal or above is a candidate (8, 9), the branch is open (11), and the person is not enrolled there yet (18)
unfoldable pub enrol_row : Setup → Said → View → ℕ → ℕ → Answer
enrol_row w c v person branch =
    unless
    (in_order (principal_steps w c v.candidate branch)
    ∷ open_check v
    ∷ must (not (v.enrolled person)) (AlreadySo branch)
    ∷ [])
    (principal_answer w c v.candidate)

-- strike: a principal or above is a candidate (8, 9), and the person is enrolled there (18)
unfoldable pub strike_row : Setup → Said → View → ℕ → ℕ → Answer
strike_row w c v person branch =
    unless
    (in_order (principal_steps w c v.candidate branch)
    ∷ must (v.enrolled person) (AlreadySo branch)
    ∷ [])
    (principal_answer w c v.candidate)

-- open: a principal or above commands the branch (8, 9), and its own mark is closed (18)
unfoldable pub open_row : Setup → Said → View → ℕ → Answer
open_row w c v branch =
    unless
    (in_order (principal_steps w c v.commander branch)
    ∷ must v.closed (AlreadySo branch)
    ∷ [])
    (principal_answer w c v.commander)

-- close: a principal or above commands the branch (8, 9), and its own mark is open (18)
unfoldable pub close_row : Setup → Said → View → ℕ → Answer
close_row w c v branch =
    unless
    (in_order (principal_steps w c v.commander branch)
    ∷ must (not v.closed) (AlreadySo branch)
    ∷ [])
    (principal_answer w c v.commander)

-- permit: a principal or above is a candidate for branch 0 (8, 9), and there is no such permit yet (18)
unfoldable pub permit_row : Setup → Said → View → ℕ → ℕ → ℕ → Answer
permit_row w c v operation kind role =
    unless
    (in_order (principal_steps w c v.candidate 0)
    ∷ must (not (v.permitted operation kind role)) (AlreadySo kind)
    ∷ [])
    (principal_answer w c v.candidate)

-- forbid: a principal or above is a candidate for branch 0 (8, 9), and there is such a permit (18)
unfoldable pub forbid_row : Setup → Said → View → ℕ → ℕ → ℕ → Answer
forbid_row w c v operation kind role =
    unless
    (in_order (principal_steps w c v.candidate 0)
    ∷ must (v.permitted operation kind role) (AlreadySo kind)
    ∷ [])
    (principal_answer w c v.candidate)

-- sit: every post counts (17)
unfoldable pub sit_row : Setup → Said → (ℕ → View) → Answer
sit_row w c look =
    unless
    (refuse_at NotCounting (first_place c (λ place. not ((look (post_at c.posts place).branch).counting place)))
    ∷ [])
    (Seated (length c.posts))

-- what a call is answered, by what it sees at each branch
abbrev pub judged : Setup → Said → Call → (ℕ → View) → Answer
judged w c (Decide operation piece) look = decide_row w c (look (home_of w piece)) operation piece
judged w c (Grant person role branch) look = grant_row w c (look branch) person role branch
judged w c (Take person role branch) look = take_row w c (look branch) person role branch
judged w c (Throughout person role branch) look = throughout_row w c look person role branch
judged w c (Enrol person branch) look = enrol_row w c (look branch) person branch
judged w c (Strike person branch) look = strike_row w c (look branch) person branch
judged w c (Open branch) look = open_row w c (look branch) branch
judged w c (Close branch) look = close_row w c (look branch) branch
judged w c (Permit operation kind role) look = permit_row w c (look 0) operation kind role
judged w c (Forbid operation kind role) look = forbid_row w c (look 0) operation kind role
judged w c Sit look = sit_row w c look
