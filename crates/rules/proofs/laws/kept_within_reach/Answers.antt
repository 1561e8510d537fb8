-- The isolation law, and that it is not empty.
use Rattle.rules.proofs.Isolation.{isolation}
use Rattle.rules.proofs.Sold.{class_meets_conditions, plans_sound, read_plans_sound}
use Rattle.rules.proofs.laws.kept_within_reach.Goals as goal

pub returns : goal.returns
returns c = record { law = isolation; plans = plans_sound; read = read_plans_sound; class = class_meets_conditions }
