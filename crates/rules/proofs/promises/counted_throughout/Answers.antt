-- What throughout counts.
use Rattle.rules.proofs.Counts.{counted_throughout}
use Rattle.rules.proofs.promises.counted_throughout.Goals as goal

pub returns : goal.returns
returns c = counted_throughout
