-- What is told of each answer: three numbers.
use Rattle.std.specs.Prelude.{ℕ, List, [], ◌∷◌, Ok, Err, Result}
use Rattle.refusals.specs.declared.refusal.Refusal.{Refusal}
use Rattle.registers.specs.Refusals.{register_refusal}
use Rattle.rules.specs.declared.answer.Accepted.{Accepted}
use Rattle.rules.specs.declared.answer.Accepted.TheVariants.{Allowed, Governed, Cleared, Ordered, Seated}
use Rattle.rules.specs.declared.fault.EngineFault.{EngineFault}
use Rattle.rules.specs.declared.fault.EngineFault.TheVariants.{NoSuchNumber, NoCandidate, NotGoverned, CannotStand, Closed, Stranger, Unmet, TooManyOf, LimitReached, NoPermit, NotCounting, AlreadySo, NothingFound, Register}

-- accepted, or refused with a fault
abbrev pub Answer : Type 0
Answer = Result Accepted EngineFault

-- the two numbers of an acceptance
abbrev pub numbers_of : Accepted → ℕ × ℕ
numbers_of (Allowed place role) = (place, role)
numbers_of (Governed place line) = (place, line)
numbers_of (Cleared taken left) = (taken, left)
numbers_of (Ordered place) = (place, 0)
numbers_of (Seated posts) = (posts, 0)

-- a refusal of the engine's layer
abbrev pub of_engine : ℕ → ℕ → Refusal
of_engine number place = record { number = number; layer = 3; place = place }

-- number, layer and place of each fault
abbrev pub engine_refusal : EngineFault → Refusal
engine_refusal (NoSuchNumber offset) = of_engine 4 offset
engine_refusal (NoCandidate place) = of_engine 8 place
engine_refusal (NotGoverned role) = of_engine 9 role
engine_refusal (CannotStand role) = of_engine 10 role
engine_refusal (Closed branch) = of_engine 11 branch
engine_refusal (Stranger person) = of_engine 12 person
engine_refusal (Unmet line) = of_engine 13 line
engine_refusal (TooManyOf set) = of_engine 14 set
engine_refusal (LimitReached role) = of_engine 15 role
engine_refusal (NoPermit kind) = of_engine 16 kind
engine_refusal (NotCounting place) = of_engine 17 place
engine_refusal (AlreadySo place) = of_engine 18 place
engine_refusal (NothingFound branch) = of_engine 20 branch
engine_refusal (Register fault) = register_refusal fault

-- what is told of an answer: 0 and the two numbers of the acceptance, or the three of the refusal
abbrev pub told_of : Answer → List ℕ
told_of (Ok accepted) = 0 ∷ (numbers_of accepted).0 ∷ (numbers_of accepted).1 ∷ []
told_of (Err fault) = (engine_refusal fault).number ∷ (engine_refusal fault).layer ∷ (engine_refusal fault).place ∷ []
