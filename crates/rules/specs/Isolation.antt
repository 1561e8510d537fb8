-- No branch below the top acts beyond its reach: a law over every two lists of calls.
use Rattle.std.specs.Prelude.{◌≡◌, ℕ, zero, suc, ◌<◌, Bool, true, cond, not, ◌&&◌, List, [], ◌∷◌, ◌++◌, length, Ok, ◌≢◌, slice_index_or}
use Rattle.messages.specs.Said.{Said}
use Rattle.messages.specs.declared.call.Call.TheVariants.{Sit}
use Rattle.messages.specs.declared.post.Post.{Post}
use Rattle.rules.specs.Answers.{Answer}
use Rattle.rules.specs.Changes.{Same}
use Rattle.rules.specs.Promises.{Orderly}
use Rattle.rules.specs.Runs.{answers, end}
use Rattle.rules.specs.Setup.{Setup, State, new, over}
use Rattle.rules.specs.Views.{about}
use Rattle.rules.specs.declared.answer.Accepted.TheVariants.{Seated}

-- the reach of B: B and every branch below it
abbrev pub in_reach : Setup → ℕ → ℕ → Bool
in_reach w B branch = over w B branch

-- a branch is outside the reach of B
abbrev pub outside : Setup → ℕ → ℕ → Bool
outside w B branch = not (in_reach w B branch)

-- each of these branches is outside the reach of B
abbrev pub all_outside : Setup → ℕ → List ℕ → Bool
all_outside w B [] = true
all_outside w B (branch ∷ branches) = outside w B branch && all_outside w B branches

-- the call is about branches outside the reach of B alone, or about none
abbrev pub abroad : Setup → ℕ → Said → Bool
abroad w B c = all_outside w B (about w c)

-- each of these posts is at a branch in the reach of B
abbrev pub all_within : Setup → ℕ → List Post → Bool
all_within w B [] = true
all_within w B (post ∷ posts) = in_reach w B post.branch && all_within w B posts

-- the call is of a sitting within the reach of B
abbrev pub within : Setup → ℕ → Said → Bool
within w B c = all_within w B c.posts

-- the calls that remain without those of sittings within the reach of B
abbrev pub remaining : Setup → ℕ → List Said → List Said
remaining w B [] = []
remaining w B (c ∷ cs) = cond (within w B c) (remaining w B cs) (c ∷ remaining w B cs)

-- of the answers that a list of calls got, those of the remaining calls
abbrev pub replies : Setup → ℕ → List Said → List Answer → List Answer
replies w B [] given = []
replies w B (c ∷ cs) [] = []
replies w B (c ∷ cs) (a ∷ given) = cond (within w B c) (replies w B cs given) (a ∷ replies w B cs given)

-- two states are alike outside the reach of B: postings, enrolments and marks there, and all permits
pub record Alike (w : Setup) (B : ℕ) (s s' : State) : Type 0 where
  pub posted : (person role branch : ℕ) → outside w B branch ≡ true → s.posted person role branch ≡ s'.posted person role branch
  pub enrolled : (person branch : ℕ) → outside w B branch ≡ true → s.enrolled person branch ≡ s'.enrolled person branch
  pub closed : (branch : ℕ) → outside w B branch ≡ true → s.closed branch ≡ s'.closed branch
  pub permitted : (operation kind role : ℕ) → s.permitted operation kind role ≡ s'.permitted operation kind role

-- the reaches of B and C share no branch
abbrev pub Apart : Setup → ℕ → ℕ → Type 0
Apart w B C = (branch : ℕ) → in_reach w B branch ≡ true → in_reach w C branch ≢ true

-- a list with two neighbours exchanged, those behind the first n
abbrev pub exchanged : {A : Type 0} → ℕ → List A → List A
exchanged zero [] = []
exchanged zero (x ∷ []) = x ∷ []
exchanged zero (x ∷ y ∷ rest) = y ∷ x ∷ rest
exchanged (suc n) [] = []
exchanged (suc n) (x ∷ rest) = x ∷ exchanged n rest

-- what stands behind the end of a list of calls
abbrev pub no_call : Said
no_call = record { person = 0; posts = []; call = Sit }

-- what stands behind the end of a list of answers
abbrev pub no_answer : Answer
no_answer = Ok (Seated 0)

-- a list of calls ran on a new engine: these are its answers, and this is its end
pub record Ran (w : Setup) (calls : List Said) (given : List Answer) (left : State) : Type 0 where
  pub gave : given ≡ answers w (new w) calls
  pub ends : Same (end w (new w) calls) left

-- two runs, xs with answers us to the end s, and ys with answers vs to the end t, keep B within its reach
pub record Isolated (w : Setup) (B : ℕ) (xs : List Said) (us : List Answer) (s : State) (ys : List Said) (vs : List Answer) (t : State) : Type 0 where
  -- where both lists are the same without the calls of sittings within B's reach, the n-th remaining calls have the same answer,
  -- if they are about branches outside the reach alone, or about none
  pub answers_kept : remaining w B xs ≡ remaining w B ys → (n : ℕ) → n < length (remaining w B xs) →
      abroad w B (slice_index_or (remaining w B xs) n no_call) ≡ true →
      slice_index_or (replies w B xs us) n no_answer ≡ slice_index_or (replies w B ys vs) n no_answer
  -- and both end alike outside the reach
  pub ends_alike : remaining w B xs ≡ remaining w B ys → Alike w B s t
  -- for every C whose reach shares no branch with B's: where one list is the other with two neighbouring calls exchanged, one of a
  -- sitting within B's reach and one of a sitting within C's, every call has the same answer in both, and the ends are the same
  -- (here the call within B's reach comes first in xs; where it comes first in ys, take the two runs the other way round)
  pub exchange : (C : ℕ) → Apart w B C → (front rest : List Said) (x y : Said) → within w B x ≡ true → within w C y ≡ true →
      xs ≡ front ++ x ∷ y ∷ rest → ys ≡ front ++ y ∷ x ∷ rest →
      (vs ≡ exchanged (length front) us) × Same s t

-- the conditions: both orders keep the laws, branch 0 is at or above every branch, and it has room for a posting
pub record Sound (w : Setup) : Type 0 where
  pub orderly : Orderly w
  pub top : (branch : ℕ) → branch < w.branches.members → over w 0 branch ≡ true
  pub room : 0 < w.share 0

-- a branch below the top
abbrev pub BelowTop : Setup → ℕ → Type 0
BelowTop w B = (B < w.branches.members) × (B ≢ 0)

-- every two runs keep every branch below the top within its reach
abbrev pub Isolation : Type 0
Isolation =
    (w : Setup) → Sound w → (B : ℕ) → BelowTop w B →
    (xs : List Said) (us : List Answer) (s : State) → Ran w xs us s →
    (ys : List Said) (vs : List Answer) (t : State) → Ran w ys vs t →
    Isolated w B xs us s ys vs t
