-- What the writer says, and what it leaves in the memory.
use Rattle.std.specs.Prelude.{ℕ, cond, length, Ok, Err, Result, nat_lt}
use Rattle.fields.specs.declared.fault.FieldFault.TheVariants.{Length}
use Rattle.messages.specs.Reading.{message_result}
use Rattle.messages.specs.Said.{Said, written}
use Rattle.messages.specs.declared.fault.MessageFault.{MessageFault}
use Rattle.messages.specs.declared.fault.MessageFault.TheVariants.{Field}

-- so many bytes, where the check passes
abbrev pub counted : Result (Unit {0}) MessageFault → ℕ → Result ℕ MessageFault
counted (Ok passed) n = Ok n
counted (Err fault) n = Err fault

-- memory that has no room for every message is refused; else the bytes are counted, unless the reader would refuse them
abbrev pub write_result : Said → ℕ → Result ℕ MessageFault
write_result s size = cond (nat_lt size 17) (Err (Field (Length size))) (counted (message_result (written s)) (length (written s)))
