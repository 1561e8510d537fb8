-- The marked lines.
use Rattle.rules.proofs.Marked.{marked_lines}
use Rattle.rules.proofs.laws.told_as_marked.Goals as goal

pub returns : goal.returns
returns c = marked_lines
