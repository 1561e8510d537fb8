-- One call after the other: the answer, the change that an accepted call makes, and whole lists of calls.
use Rattle.std.specs.Prelude.{ℕ, Bool, not, ◌&&◌, ◌||◌, List, [], ◌∷◌, Ok, Err, ◌==◌}
use Rattle.registers.specs.Meaning.{Postings, added, removed}
use Rattle.messages.specs.Said.{Said}
use Rattle.messages.specs.declared.call.Call.{Call}
use Rattle.messages.specs.declared.call.Call.TheVariants.{Decide, Grant, Take, Throughout, Enrol, Strike, Open, Close, Permit, Forbid, Sit}
use Rattle.rules.specs.Answers.{Answer}
use Rattle.rules.specs.Calls.{judged}
use Rattle.rules.specs.Choices.{takes}
use Rattle.rules.specs.Numbers.{numbers_checked}
use Rattle.rules.specs.Rows.{before}
use Rattle.rules.specs.Setup.{Setup, State}
use Rattle.rules.specs.Views.{sight}

-- the answer to a call: first its numbers, then its own checks, by what it may look at
unfoldable pub answer : Setup → State → Said → Answer
answer w s c = before (numbers_checked w c) (judged w c c.call (sight w s c))

-- the state with other postings
abbrev pub with_posted : State → Postings → State
with_posted s posted = record { posted = posted; enrolled = s.enrolled; closed = s.closed; permitted = s.permitted }

-- the state with other enrolments
abbrev pub with_enrolled : State → (ℕ → ℕ → Bool) → State
with_enrolled s enrolled = record { posted = s.posted; enrolled = enrolled; closed = s.closed; permitted = s.permitted }

-- the state with other marks
abbrev pub with_closed : State → (ℕ → Bool) → State
with_closed s closed = record { posted = s.posted; enrolled = s.enrolled; closed = closed; permitted = s.permitted }

-- the state with other permits
abbrev pub with_permitted : State → (ℕ → ℕ → ℕ → Bool) → State
with_permitted s permitted = record { posted = s.posted; enrolled = s.enrolled; closed = s.closed; permitted = permitted }

-- the person's enrolment at the branch, among enrolments (x, z)
abbrev pub same_enrolment : ℕ → ℕ → ℕ → ℕ → Bool
same_enrolment person branch x z = z == branch && x == person

-- the permit for the operation, the piece kind and the role, among permits (x, y, z)
abbrev pub same_permit : ℕ → ℕ → ℕ → ℕ → ℕ → ℕ → Bool
same_permit operation kind role x y z = x == operation && (y == kind && z == role)

-- the change that an accepted call makes; throughout takes all that it takes by the state before it
abbrev pub changed : Setup → State → Said → Call → State
changed w s c (Decide operation piece) = s
changed w s c (Grant person role branch) = with_posted s (added s.posted person role branch)
changed w s c (Take person role branch) = with_posted s (removed s.posted person role branch)
changed w s c (Throughout person role branch) =
    with_posted s (λ x y z. not (takes w c (sight w s c) person role branch z y && x == person) && s.posted x y z)
changed w s c (Enrol person branch) = with_enrolled s (λ x z. same_enrolment person branch x z || s.enrolled x z)
changed w s c (Strike person branch) = with_enrolled s (λ x z. not (same_enrolment person branch x z) && s.enrolled x z)
changed w s c (Open branch) = with_closed s (λ z. not (z == branch) && s.closed z)
changed w s c (Close branch) = with_closed s (λ z. (z == branch) || s.closed z)
changed w s c (Permit operation kind role) =
    with_permitted s (λ x y z. same_permit operation kind role x y z || s.permitted x y z)
changed w s c (Forbid operation kind role) =
    with_permitted s (λ x y z. not (same_permit operation kind role x y z) && s.permitted x y z)
changed w s c Sit = s

-- the state after an answer: the change where the call was accepted, and after a refusal the state as it was
abbrev pub after : Setup → State → Said → Answer → State
after w s c (Ok accepted) = changed w s c c.call
after w s c (Err fault) = s

-- the state after a call
unfoldable pub next : Setup → State → Said → State
next w s c = after w s c (answer w s c)

-- the answers to a list of calls, each on the state that the one before left
abbrev pub answers : Setup → State → List Said → List Answer
answers w s [] = []
answers w s (c ∷ cs) = answer w s c ∷ answers w (next w s c) cs

-- the state after a list of calls
abbrev pub end : Setup → State → List Said → State
end w s [] = s
end w s (c ∷ cs) = end w (next w s c) cs
