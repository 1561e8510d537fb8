-- Every answer has its reason.
use Rattle.rules.proofs.Reasoned.{answered_for_its_reason}
use Rattle.rules.proofs.promises.answered_for_its_reason.Goals as goal

pub returns : goal.returns
returns c = answered_for_its_reason
