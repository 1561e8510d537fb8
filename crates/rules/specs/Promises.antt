-- The promises about the new state and about single calls: when a call is accepted, why it is refused, what it then changes, and what
-- throughout counts.
use Rattle.std.specs.Prelude.{◌≡◌, ℕ, ◌<◌, Bool, true, false, not, ◌&&◌, List, is_ok, Ok, Decides}
use Rattle.messages.specs.Said.{Said}
use Rattle.messages.specs.declared.call.Call.TheVariants.{Decide, Throughout}
use Rattle.messages.specs.declared.post.Post.{Post}
use Rattle.rules.specs.Choices.{postings_of}
use Rattle.rules.specs.Changes.{Makes}
use Rattle.rules.specs.Conditions.{Allowed, CanAccess, Known}
use Rattle.rules.specs.Reasons.{Lowest, Missing, Reasoned, Refuses}
use Rattle.rules.specs.Runs.{answer, next}
use Rattle.rules.specs.Setup.{Lawful, Setup, State, new, outranks, over}
use Rattle.rules.specs.declared.answer.Accepted.TheVariants.{Cleared}
use Rattle.rules.specs.declared.fault.EngineFault.TheVariants.{NoSuchNumber}

-- both orders keep the laws
pub record Orderly (w : Setup) : Type 0 where
  pub branches : Lawful w.branches
  pub roles : Lawful w.roles

-- a call is accepted exactly when all that it names exists and its conditions hold
abbrev pub AcceptedWhenAllowed : Type 0
AcceptedWhenAllowed =
    (w : Setup) → Orderly w → (s : State) (c : Said) → Decides (is_ok (answer w s c)) (Known w c × Allowed w s c c.call)

-- a decision is yes exactly when the access model says so
abbrev pub DecidedAsModelled : Type 0
DecidedAsModelled =
    (w : Setup) → Orderly w → (s : State) (person operation piece : ℕ) (posts : List Post) →
    let c : Said = record { person = person; posts = posts; call = Decide operation piece } in
    Decides (is_ok (answer w s c)) (Known w c × CanAccess w s c operation piece)

-- an accepted call makes exactly its change
abbrev pub MakesItsChange : Type 0
MakesItsChange =
    (w : Setup) → Orderly w → (s : State) (c : Said) → is_ok (answer w s c) ≡ true → Makes w s (next w s c) c c.call

-- a refused call changes nothing
abbrev pub RefusedChangesNothing : Type 0
RefusedChangesNothing = (w : Setup) (s : State) (c : Said) → is_ok (answer w s c) ≡ false → next w s c ≡ s

-- a posting of the person that throughout finds in a state
abbrev pub found_in : Setup → State → ℕ → ℕ → ℕ → ℕ → ℕ → Bool
found_in w s person role branch o q = over w o branch && (outranks w q role && s.posted person q o)

-- throughout's two numbers: of the postings found before, how many are gone after, and how many are still there
abbrev pub CountedThroughout : Type 0
CountedThroughout =
    (w : Setup) → Orderly w → (s : State) (sitter person role branch : ℕ) (posts : List Post) →
    let c : Said = record { person = sitter; posts = posts; call = Throughout person role branch } in
    is_ok (answer w s c) ≡ true →
    answer w s c
    ≡ Ok
    (Cleared
    (postings_of w (λ o q. found_in w s person role branch o q && not ((next w s c).posted person q o)))
    (postings_of w (λ o q. found_in w s person role branch o q && (next w s c).posted person q o)))

-- a new state has the founding posting alone, and has it where the register has that role, a branch 0, and room for one posting there
pub record NewState (w : Setup) : Type 0 where
  pub posted : (x y z : ℕ) →
      Decides ((new w).posted x y z)
      (((x ≡ 0) × (y ≡ w.plan.principal) × (z ≡ 0)) × ((w.plan.principal < 16) × (0 < w.register_branches) × (0 < w.share 0)))
  -- nobody is enrolled, every mark is open, and there are no permits
  pub enrolled : (x z : ℕ) → (new w).enrolled x z ≡ false
  pub closed : (z : ℕ) → (new w).closed z ≡ false
  pub permitted : (x y z : ℕ) → (new w).permitted x y z ≡ false

-- so it is with every plan, all orders and all shares
abbrev pub BeginsFounded : Type 0
BeginsFounded = (w : Setup) → NewState w

-- every answer has its reason: a refusal tells the first of the call's reasons that holds, after the numbers that name nothing, and of what
-- it holds; an acceptance, for which none holds, names the first candidate that will do, and the lowest line or role where one is told
abbrev pub AnsweredForItsReason : Type 0
AnsweredForItsReason =
    (w : Setup) → Orderly w → (s : State) (c : Said) → Refuses (Lowest (Missing w c)) NoSuchNumber (Reasoned w s c c.call) (answer w s c)
