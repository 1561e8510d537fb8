-- The numbers of the refusals of messages: those of fields, and 7, at layer 1.
use Rattle.refusals.specs.declared.refusal.Refusal.{Refusal}
use Rattle.fields.specs.Refusals.{field_refusal}
use Rattle.messages.specs.declared.fault.MessageFault.{MessageFault}
use Rattle.messages.specs.declared.fault.MessageFault.TheVariants.{Field, Twice}

-- number, layer and place of each fault
abbrev pub message_refusal : MessageFault → Refusal
message_refusal (Field fault) = field_refusal fault
message_refusal (Twice post) = record { number = 7; layer = 1; place = post }
