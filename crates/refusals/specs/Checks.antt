-- Checks, and the first refusal of a row of them. A check passes with `Ok` or refuses with a fault.
use Rattle.std.specs.Prelude.{ℕ, zero, suc, Bool, true, false, ◌&&◌, List, [], ◌∷◌, Ok, Err, Result}

-- passes where the test holds, and else refuses with the fault
abbrev pub must : {F : Type 0} → Bool → F → Result (Unit {0}) F
must true fault = Ok tt
must false fault = Err fault

-- the first check's refusal, or, where it passes, what the second says
abbrev pub then : {F : Type 0} → Result (Unit {0}) F → Result (Unit {0}) F → Result (Unit {0}) F
then (Ok passed) second = second
then (Err fault) second = Err fault

-- the first refusal of a row of checks
abbrev pub in_order : {F : Type 0} → List (Result (Unit {0}) F) → Result (Unit {0}) F
in_order [] = Ok tt
in_order (check ∷ checks) = then check (in_order checks)

-- the first refusal of the checks numbered 0 to n - 1
abbrev pub every : {F : Type 0} → ℕ → (ℕ → Result (Unit {0}) F) → Result (Unit {0}) F
every zero check = Ok tt
every (suc n) check = then (every n check) (check n)

-- the test holds of every number below n
abbrev pub all : ℕ → (ℕ → Bool) → Bool
all zero test = true
all (suc n) test = all n test && test n

-- what a making says as a check: made, or refused with its fault
abbrev pub verdict : {A F : Type 0} → Result A F → Result (Unit {0}) F
verdict (Ok made) = Ok tt
verdict (Err fault) = Err fault
