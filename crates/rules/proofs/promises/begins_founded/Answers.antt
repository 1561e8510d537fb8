-- A new state is as sold.
use Rattle.rules.proofs.Begun.{begins_founded}
use Rattle.rules.proofs.promises.begins_founded.Goals as goal

pub returns : goal.returns
returns c = begins_founded
