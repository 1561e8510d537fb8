-- A refused call changes nothing.
use Rattle.rules.proofs.Effects.{refused_changes_nothing}
use Rattle.rules.proofs.promises.refused_changes_nothing.Goals as goal

pub returns : goal.returns
returns c = refused_changes_nothing
