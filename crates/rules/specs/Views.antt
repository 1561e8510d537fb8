-- What a call may look at: the branches at or above those that it is about, the permits, and nothing else of the state.
use Rattle.std.specs.Prelude.{ℕ, Bool, false, cond, ◌&&◌, ◌||◌, List, [], ◌∷◌, map, length, None, Ok, Err, Option, Result, ◌==◌, nat_lt}
use Rattle.messages.specs.Said.{Said}
use Rattle.messages.specs.declared.call.Call.{Call}
use Rattle.messages.specs.declared.call.Call.TheVariants.{Decide, Grant, Take, Throughout, Enrol, Strike, Open, Close, Permit, Forbid, Sit}
use Rattle.messages.specs.declared.post.Post.{Post}
use Rattle.rules.specs.Numbers.{numbers_checked}
use Rattle.rules.specs.Setup.{Setup, State, home_of, is_branch, over}
use Rattle.rules.specs.Words.{belongs, closed_over, commands, counts, holds, post_at, stands_over}
use Rattle.rules.specs.declared.fault.EngineFault.{EngineFault}

-- a list with a branch where it exists, and else with none
abbrev pub if_branch : Setup → ℕ → List ℕ
if_branch w branch = cond (is_branch w branch) (branch ∷ []) []

-- the branches that a call with these posts is about: the piece's home, the branch named, branch 0 for permits, and for sit
-- the branches of its posts
abbrev pub branches_of : Setup → List Post → Call → List ℕ
branches_of w posts (Decide operation piece) = if_branch w (home_of w piece)
branches_of w posts (Grant person role branch) = branch ∷ []
branches_of w posts (Take person role branch) = branch ∷ []
branches_of w posts (Throughout person role branch) = branch ∷ []
branches_of w posts (Enrol person branch) = branch ∷ []
branches_of w posts (Strike person branch) = branch ∷ []
branches_of w posts (Open branch) = branch ∷ []
branches_of w posts (Close branch) = branch ∷ []
branches_of w posts (Permit operation kind role) = 0 ∷ []
branches_of w posts (Forbid operation kind role) = 0 ∷ []
branches_of w posts Sit = map (λ post. post.branch) posts

-- what passed the check of its numbers is about its branches, and what did not is about none
abbrev pub about_if : Result (Unit {0}) EngineFault → List ℕ → List ℕ
about_if (Ok passed) branches = branches
about_if (Err fault) branches = []

-- the branches that a call is about; one with a number that does not exist is about none
unfoldable pub about : Setup → Said → List ℕ
about w c = about_if (numbers_checked w c) (branches_of w c.posts c.call)

-- a candidate: a counting post of the sitting that stands over t
unfoldable pub candidate : Setup → State → Said → ℕ → ℕ → Bool
candidate w s c t place =
    is_branch w t
    && (nat_lt place (length c.posts) && (stands_over w (post_at c.posts place) t && counts w s c.person (post_at c.posts place)))

-- a candidate for opening and closing t: its branch commands t
unfoldable pub commander : Setup → State → Said → ℕ → ℕ → Bool
commander w s c t place = candidate w s c t place && commands w (post_at c.posts place).branch t

-- all that is to be seen at a branch t
pub record View : Type 0 where
  -- by place in the sitting: it is a candidate; it is one for opening and closing; it is a post at t and counts
  pub candidate : ℕ → Bool
  pub commander : ℕ → Bool
  pub counting : ℕ → Bool
  -- the lowest-numbered branch at or above t whose mark is closed
  pub barrier : Option ℕ
  -- the person holds the role at t; the person belongs to t
  pub holding : ℕ → ℕ → Bool
  pub belonging : ℕ → Bool
  -- right at t: the person is posted to the role; the person is enrolled; the mark is closed
  pub posted : ℕ → ℕ → Bool
  pub enrolled : ℕ → Bool
  pub closed : Bool
  -- there is a permit for the operation, the piece kind and the role
  pub permitted : ℕ → ℕ → ℕ → Bool

-- what the sitting of a call sees at a branch
unfoldable pub view : Setup → State → Said → ℕ → View
view w s c t =
    record {
      candidate = candidate w s c t;
      commander = commander w s c t;
      counting = λ place. ((post_at c.posts place).branch == t) && counts w s c.person (post_at c.posts place);
      barrier = closed_over w s t;
      holding = λ person role. holds w s person role t;
      belonging = λ person. belongs w s person t;
      posted = λ person role. s.posted person role t;
      enrolled = λ person. s.enrolled person t;
      closed = s.closed t;
      permitted = s.permitted;
    }

-- what is seen at a branch that may not be looked at: nothing
unfoldable pub blank : View
blank =
    record {
      candidate = λ place. false;
      commander = λ place. false;
      counting = λ place. false;
      barrier = None;
      holding = λ person role. false;
      belonging = λ person. false;
      posted = λ person role. false;
      enrolled = λ person. false;
      closed = false;
      permitted = λ operation kind role. false;
    }

-- branch o is at or above one of these branches
abbrev pub over_some : Setup → List ℕ → ℕ → Bool
over_some w [] o = false
over_some w (t ∷ ts) o = over w o t || over_some w ts o

-- what a call sees: the view at each branch at or above one that it is about, and nothing elsewhere
unfoldable pub sight : Setup → State → Said → ℕ → View
sight w s c o = cond (over_some w (about w c) o) (view w s c o) blank
