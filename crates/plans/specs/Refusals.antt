-- The numbers of the refusals of plans: those of fields, and 5 and 6 at layer 2.
use Rattle.refusals.specs.Place.{place_of}
use Rattle.refusals.specs.declared.refusal.Refusal.{Refusal}
use Rattle.fields.specs.Refusals.{field_refusal}
use Rattle.orders.specs.declared.rows.RowsFault.TheVariants.{TooMany, Row}
use Rattle.plans.specs.declared.fault.PlanFault.{PlanFault}
use Rattle.plans.specs.declared.fault.PlanFault.TheVariants.{Field, Rows, Repeated}

-- number, layer and place of each fault; of roles beyond the rows the first is told, which no row can name
abbrev pub plan_refusal : PlanFault → Refusal
plan_refusal (Field fault) = field_refusal fault
plan_refusal (Rows TooMany) = record { number = 5; layer = 2; place = 16 }
plan_refusal (Rows (Row role)) = record { number = 5; layer = 2; place = role }
plan_refusal (Repeated at) = record { number = 6; layer = 2; place = place_of at }
