-- Rows of checks: the first refusal of a row is the answer, and where none refuses the call is accepted.
use Rattle.std.specs.Prelude.{ℕ, List, [], ◌∷◌, Some, None, Ok, Err, Option, Result}
use Rattle.registers.specs.declared.fault.RegisterFault.{RegisterFault}
use Rattle.rules.specs.Answers.{Answer}
use Rattle.rules.specs.declared.answer.Accepted.{Accepted}
use Rattle.rules.specs.declared.fault.EngineFault.{EngineFault}
use Rattle.rules.specs.declared.fault.EngineFault.TheVariants.{Register}

-- one check of the engine: it passes or refuses with a fault
abbrev pub Check : Type 0
Check = Result (Unit {0}) EngineFault

-- a check's refusal, or, where it passes, the answer behind it
abbrev pub before : Check → Answer → Answer
before (Ok passed) answer = answer
before (Err fault) answer = Err fault

-- the first refusal of a row of checks, or the acceptance
abbrev pub unless : List Check → Accepted → Answer
unless [] accepted = Ok accepted
unless (check ∷ checks) accepted = before check (unless checks accepted)

-- refuses with the fault of what was found, and passes where nothing was
abbrev pub refuse_at : (ℕ → EngineFault) → Option ℕ → Check
refuse_at fault None = Ok tt
refuse_at fault (Some found) = Err (fault found)

-- the register's check, its refusal kept whole
abbrev pub by_register : Result (Unit {0}) RegisterFault → Check
by_register (Ok passed) = Ok passed
by_register (Err fault) = Err (Register fault)
