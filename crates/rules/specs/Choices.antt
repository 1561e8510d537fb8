-- What an answer tells: the candidate, the line, the role or the set, and what throughout finds and takes.
use Rattle.std.specs.Prelude.{ℕ, Bool, ◌&&◌, ◌||◌, List, [], ◌∷◌, length, get_or, is_some, Option, ◌==◌, nat_le, nat_lt, slice_index_or}
use Rattle.std.specs.Option.{unwrap_or}
use Rattle.refusals.specs.Checks.{must}
use Rattle.search.specs.Searches.{any_below, count_below, first_below, sum_below}
use Rattle.orders.specs.Masks.{has_bit}
use Rattle.plans.specs.Line.{no_line}
use Rattle.plans.specs.Role.{no_role}
use Rattle.plans.specs.Set.{no_set}
use Rattle.plans.specs.declared.line.Line.{Line}
use Rattle.registers.specs.Meaning.{others_at}
use Rattle.messages.specs.Said.{Said}
use Rattle.rules.specs.Rows.{Check, refuse_at}
use Rattle.rules.specs.Setup.{Setup, outranks, over}
use Rattle.rules.specs.Views.{View}
use Rattle.rules.specs.Words.{is_for, meets, post_at, serves}
use Rattle.rules.specs.declared.fault.EngineFault.TheVariants.{TooManyOf, LimitReached}

-- the first place in the sitting that fits
abbrev pub first_place : Said → (ℕ → Bool) → Option ℕ
first_place c fits = first_below (length c.posts) fits

-- some place in the sitting fits
abbrev pub some_place : Said → (ℕ → Bool) → Bool
some_place c fits = any_below (length c.posts) fits

-- a list of lines, and how many there are
pub record Lines : Type 0 where
  pub entries : List Line
  pub count : ℕ

-- the grant lines of the plan
abbrev pub grant_lines : Setup → Lines
grant_lines w = record { entries = w.plan.grants; count = w.plan.grant_count }

-- the take lines of the plan
abbrev pub take_lines : Setup → Lines
take_lines w = record { entries = w.plan.takes; count = w.plan.take_count }

-- the line with a number
abbrev pub line_at : Lines → ℕ → Line
line_at lines number = slice_index_or lines.entries number no_line

-- the line with a number is for the role and serves the post at a place
unfoldable pub governs : Setup → Said → Lines → ℕ → ℕ → ℕ → Bool
governs w c lines role place number = is_for (line_at lines number) role && serves w (line_at lines number) (post_at c.posts place)

-- it does, and whoever holds these roles meets it
unfoldable pub governs_met : Setup → Said → Lines → ℕ → (ℕ → Bool) → ℕ → ℕ → Bool
governs_met w c lines role holding place number = governs w c lines role place number && meets holding (line_at lines number)

-- the first candidate that a line for the role serves
unfoldable pub served_place : Setup → Said → View → Lines → ℕ → Option ℕ
served_place w c v lines role =
    first_place c (λ place. v.candidate place && any_below lines.count (governs w c lines role place))

-- the lowest line for the role that serves it
unfoldable pub serving_line : Setup → Said → View → Lines → ℕ → ℕ
serving_line w c v lines role =
    unwrap_or (first_below lines.count (governs w c lines role (unwrap_or (served_place w c v lines role) 0))) 0

-- the first candidate that a line for the role serves which the person meets
unfoldable pub met_place : Setup → Said → View → Lines → ℕ → ℕ → Option ℕ
met_place w c v lines person role =
    first_place c (λ place. v.candidate place && any_below lines.count (governs_met w c lines role (v.holding person) place))

-- the lowest line for the role that serves it and that the person meets
unfoldable pub met_line : Setup → Said → View → Lines → ℕ → ℕ → ℕ
met_line w c v lines person role =
    unwrap_or (first_below lines.count (governs_met w c lines role (v.holding person) (unwrap_or (met_place w c v lines person role) 0))) 0

-- the first of these candidates whose role is the principal or above
unfoldable pub principal_place : Setup → Said → (ℕ → Bool) → Option ℕ
principal_place w c candidates =
    first_place c (λ place. candidates place && outranks w (post_at c.posts place).role w.plan.principal)

-- at or below the role of the post at a place, the role has the permit
unfoldable pub has_permit : Setup → Said → View → ℕ → ℕ → ℕ → ℕ → Bool
has_permit w c v operation kind place role = outranks w (post_at c.posts place).role role && v.permitted operation kind role

-- the first candidate with a role that has the permit
unfoldable pub permitted_place : Setup → Said → View → ℕ → ℕ → Option ℕ
permitted_place w c v operation kind =
    first_place c (λ place. v.candidate place && any_below w.roles.members (has_permit w c v operation kind place))

-- the lowest such role
unfoldable pub permitted_role : Setup → Said → View → ℕ → ℕ → ℕ
permitted_role w c v operation kind =
    unwrap_or (first_below w.roles.members (has_permit w c v operation kind (unwrap_or (permitted_place w c v operation kind) 0))) 0

-- how many roles of the set with a number the person would have at the branch with one more
unfoldable pub roles_of_set : Setup → View → ℕ → ℕ → ℕ → ℕ
roles_of_set w v person role number =
    count_below 16 (λ q. has_bit (get_or w.plan.sets number no_set).roles q && (q == role || v.posted person q))

-- the first set of which the person would have too many
unfoldable pub full_set : Setup → View → ℕ → ℕ → Option ℕ
full_set w v person role =
    first_below w.plan.set_count (λ number. nat_le (get_or w.plan.sets number no_set).bound (roles_of_set w v person role number))

-- sets and limits: no set has too many roles of the person, and fewer others than the role's limit are posted to it
abbrev pub sets_and_limits : Setup → View → ℕ → ℕ → ℕ → List Check
sets_and_limits w v person role branch =
    refuse_at TooManyOf (full_set w v person role)
    ∷ must (nat_lt (others_at (λ x y z. v.posted x y) person role branch) (get_or w.plan.roles role no_role).limit) (LimitReached role)
    ∷ []

-- throughout finds the person's posting to role q at branch o: to the role or one above it, at the branch or above
unfoldable pub finds : Setup → (ℕ → View) → ℕ → ℕ → ℕ → ℕ → ℕ → Bool
finds w look person role branch o q = over w o branch && (outranks w q role && (look o).posted person q)

-- throughout takes it: it is found, and some counting post stands over o with a take line for q that serves the post and that
-- the person meets at o
unfoldable pub takes : Setup → Said → (ℕ → View) → ℕ → ℕ → ℕ → ℕ → ℕ → Bool
takes w c look person role branch o q =
    finds w look person role branch o q && is_some (met_place w c (look o) (take_lines w) person q)

-- how many postings of one person fit, of all branches and roles
unfoldable pub postings_of : Setup → (ℕ → ℕ → Bool) → ℕ
postings_of w fits = sum_below w.branches.members (λ o. count_below w.roles.members (fits o))
