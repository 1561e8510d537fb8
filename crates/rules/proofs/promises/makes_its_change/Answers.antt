-- An accepted call makes exactly its change.
use Rattle.rules.proofs.Effects.{makes_its_change}
use Rattle.rules.proofs.promises.makes_its_change.Goals as goal

pub returns : goal.returns
returns c = makes_its_change
