-- None of the posts looked at so far repeats another.
use Rattle.std.proofs.Common.{◌≡◌, Ok}
use Rattle.refusals.specs.Checks.{every}
use Rattle.messages.specs.Apart.{new_at}
use Rattle.messages.proofs.posts.check_apart.Given as goal

abbrev pub invariant-loop-place : goal.invariant-loop-place
invariant-loop-place l = every l.place (new_at l.posts) ≡ Ok tt
