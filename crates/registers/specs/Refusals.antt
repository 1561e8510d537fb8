-- The numbers of a register's refusals: 4 and 19 to 22, at layer 4.
use Rattle.refusals.specs.Place.{place_of}
use Rattle.refusals.specs.declared.refusal.Refusal.{Refusal}
use Rattle.registers.specs.declared.fault.RegisterFault.{RegisterFault}
use Rattle.registers.specs.declared.fault.RegisterFault.TheVariants.{NoPerson, NoRole, NoBranch, Posted, NotPosted, Full, Unfit}

-- number, layer and place of each fault
abbrev pub register_refusal : RegisterFault → Refusal
register_refusal NoPerson = record { number = 4; layer = 4; place = 0 }
register_refusal NoRole = record { number = 4; layer = 4; place = 1 }
register_refusal NoBranch = record { number = 4; layer = 4; place = 2 }
register_refusal (Posted branch) = record { number = 19; layer = 4; place = branch }
register_refusal (NotPosted branch) = record { number = 20; layer = 4; place = branch }
register_refusal (Full branch) = record { number = 21; layer = 4; place = branch }
register_refusal (Unfit items) = record { number = 22; layer = 4; place = place_of items }
