-- A number is in its range where it is between the bounds.
use Rattle.std.proofs.Common.{arith}
use Rattle.std.proofs.lemmas.Bool.Decides.{nat_tests}
use Rattle.messages.proofs.reader.may_sit.Goals as goal

pub returns : goal.returns
returns c = grind (arith, nat_tests)
