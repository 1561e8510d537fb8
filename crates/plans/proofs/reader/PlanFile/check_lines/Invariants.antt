-- None of the lines looked at so far repeats an earlier one.
use Rattle.std.proofs.Common.{◌≡◌, Ok}
use Rattle.refusals.specs.Checks.{every}
use Rattle.plans.specs.Reader.{line_apart}
use Rattle.plans.proofs.reader.PlanFile.check_lines.Given as goal

abbrev pub invariant-loop-k : goal.invariant-loop-k
invariant-loop-k l = every l.k (line_apart l.self.bytes.now l.list) ≡ Ok tt
