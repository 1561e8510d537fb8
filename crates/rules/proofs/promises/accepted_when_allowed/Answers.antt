-- Accepted exactly when allowed.
use Rattle.rules.proofs.Acceptance.{accepted_when_allowed}
use Rattle.rules.proofs.promises.accepted_when_allowed.Goals as goal

pub returns : goal.returns
returns c = accepted_when_allowed
