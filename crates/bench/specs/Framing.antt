-- How much of the input is one message, and after which refusals the run ends.
use Rattle.std.specs.Prelude.{ℕ, min, Bool, true, false, List}
use Rattle.fields.specs.Bytes.{two_at}
use Rattle.fields.specs.declared.fault.FieldFault.TheVariants.{Version, Length, Misfit, Value}
use Rattle.messages.specs.declared.fault.MessageFault.{MessageFault}
use Rattle.messages.specs.declared.fault.MessageFault.TheVariants.{Field, Twice}

-- as many bytes as the length in the header says, but at most 14
abbrev pub body_wanted : List ℕ → ℕ
body_wanted header = min (two_at header 1) 14

-- a wrong version or length: nobody knows where the next message begins
abbrev pub ends_run : MessageFault → Bool
ends_run (Field Version) = true
ends_run (Field (Length given)) = true
ends_run (Field (Misfit at)) = false
ends_run (Field (Value at)) = false
ends_run (Twice place) = false
