-- A decision is that of the access model.
use Rattle.rules.proofs.Acceptance.{decided_as_modelled}
use Rattle.rules.proofs.promises.decided_as_modelled.Goals as goal

pub returns : goal.returns
returns c = decided_as_modelled
