-- The words of the rules: open, holds, belongs, stands over, counts, serves, meets. Each reads the state at or above a branch.
use Rattle.std.specs.Prelude.{ℕ, Bool, not, ◌&&◌, ◌||◌, List, is_some, Option, ◌==◌, slice_index_or}
use Rattle.refusals.specs.Checks.{all}
use Rattle.search.specs.Searches.{any_below, first_below}
use Rattle.orders.specs.Masks.{has_bit}
use Rattle.plans.specs.declared.line.Line.{Line}
use Rattle.messages.specs.Posts.{no_post}
use Rattle.messages.specs.declared.post.Post.{Post}
use Rattle.rules.specs.Setup.{Setup, State, over, outranks, may_stand_at}

-- the lowest-numbered branch at or above t whose mark is closed
unfoldable pub closed_over : Setup → State → ℕ → Option ℕ
closed_over w s t = first_below w.branches.members (λ o. over w o t && s.closed o)

-- open: the marks of t and of every branch above it are open
abbrev pub is_open : Setup → State → ℕ → Bool
is_open w s t = not (is_some (closed_over w s t))

-- the person is posted to the role or one above it, right at branch o
unfoldable pub posted_to : Setup → State → ℕ → ℕ → ℕ → Bool
posted_to w s person role o = any_below w.roles.members (λ q. outranks w q role && s.posted person q o)

-- the person holds the role at t: is posted to it or one above it, at t or above
unfoldable pub holds : Setup → State → ℕ → ℕ → ℕ → Bool
holds w s person role t = any_below w.branches.members (λ o. over w o t && posted_to w s person role o)

-- the person belongs to t: is enrolled there or above
unfoldable pub belongs : Setup → State → ℕ → ℕ → Bool
belongs w s person t = any_below w.branches.members (λ o. over w o t && s.enrolled person o)

-- a post stands over t: its role may stand at its own branch, and its branch is at or above t
abbrev pub stands_over : Setup → Post → ℕ → Bool
stands_over w post t = over w post.branch t && may_stand_at w post.role post.branch

-- a post of the person counts: its role may stand at its branch, the person holds it now, and its branch is open
unfoldable pub counts : Setup → State → ℕ → Post → Bool
counts w s person post =
    may_stand_at w post.role post.branch
    && (holds w s person post.role post.branch && is_open w s post.branch)

-- branch o is above t and not t itself
abbrev pub strictly_over : Setup → ℕ → ℕ → Bool
strictly_over w o t = over w o t && not (o == t)

-- branch o commands t: it is strictly above t, and so placed that every branch strictly above t is at, above or below o
unfoldable pub commands : Setup → ℕ → ℕ → Bool
commands w o t =
    strictly_over w o t && all w.branches.members (λ x. not (strictly_over w x t) || (over w x o || over w o x))

-- the post with a place in a sitting
abbrev pub post_at : List Post → ℕ → Post
post_at posts place = slice_index_or posts place no_post

-- a line serves a post: its governing role is at or below the post's role
abbrev pub serves : Setup → Line → Post → Bool
serves w line post = outranks w post.role line.governing

-- a line is for a role: its governed role is exactly that role
abbrev pub is_for : Line → ℕ → Bool
is_for line role = line.governed == role

-- whoever holds these roles meets the line as to one role: has it where it is needed, and has it not where it is barred
abbrev pub meets_as : (ℕ → Bool) → Line → ℕ → Bool
meets_as holding line role =
    (not (has_bit line.needed role) || holding role) && (not (has_bit line.barred role) || not (holding role))

-- whoever holds these roles meets the line: has every needed role and no barred one
unfoldable pub meets : (ℕ → Bool) → Line → Bool
meets holding line = all 16 (meets_as holding line)
