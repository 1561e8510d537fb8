-- The numbers of the refusals of fields: 1 to 4, at layer 1.
use Rattle.refusals.specs.Place.{place_of}
use Rattle.refusals.specs.declared.refusal.Refusal.{Refusal}
use Rattle.fields.specs.declared.fault.FieldFault.{FieldFault}
use Rattle.fields.specs.declared.fault.FieldFault.TheVariants.{Version, Length, Misfit, Value}

-- number, layer and place of each fault
abbrev pub field_refusal : FieldFault → Refusal
field_refusal Version = record { number = 1; layer = 1; place = 0 }
field_refusal (Length given) = record { number = 2; layer = 1; place = place_of given }
field_refusal (Misfit at) = record { number = 3; layer = 1; place = place_of at }
field_refusal (Value at) = record { number = 4; layer = 1; place = place_of at }
