use Rattle.std.proofs.Common.{◌≡◌, ◌+◌, ◌*◌, Ok}
use Rattle.refusals.specs.Checks.{every}
use Rattle.fields.proofs.record.check_list.Given as goal

-- the records so far have passed
abbrev pub invariant-loop-number : goal.invariant-loop-number
invariant-loop-number g l = every l.number (λ k. g.T.Record.checked l.bytes l.scope (l.first + g.T.Record.WIDTH * k) k) ≡ Ok tt
