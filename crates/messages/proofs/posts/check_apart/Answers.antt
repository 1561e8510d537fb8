-- The loop is left at the first post that repeats another.
use Rattle.std.proofs.Common.{◌≡◌, length, Err, sym, ◌∙◌, rules}
use Rattle.std.proofs.lemmas.Result.{err_from_is_err_and}
use Rattle.refusals.proofs.Rows.{every_stops}
use Rattle.messages.specs.Apart.{new_at}
use Rattle.messages.proofs.Apart.{looks_back}
use Rattle.messages.proofs.posts.check_apart.Goals as goal

pub returns-in_err-must : goal.returns-in_err-must
returns-in_err-must c =
    let posts = c.args.posts.now in
    let place = c.loop-place.place in
    let here : new_at posts place ≡ Err c.in_err-must.field-0.0 = looks_back posts place c.loop-place-test.true ∙ search rules in
    let p = err_from_is_err_and c.from_residual.result c.from_residual.ensures.1 in
    rw (p.1, p.2) (sym (every_stops (new_at posts) _ (length posts) place c.loop-place-test.true c.loop-place.invariant here))
