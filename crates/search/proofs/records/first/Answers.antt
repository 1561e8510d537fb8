-- The place that the library's search tells is the lowest that fits.
use Rattle.std.proofs.Common.{◌∙◌}
use Rattle.search.proofs.Searches.{first_position}
use Rattle.search.proofs.records.first.Goals as goal

pub returns : goal.returns
returns g c d = c.position_of.ensures ∙ first_position _ c.args.records.now d
