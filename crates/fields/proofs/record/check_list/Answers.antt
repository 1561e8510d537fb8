-- A loop through the records, left at the first that is refused.
use Rattle.std.proofs.Common.{◌+◌, ◌*◌, sym, ap, ◌∙◌, arith}
use Rattle.std.proofs.lemmas.Result.{err_from_is_err_and}
use Rattle.refusals.proofs.Rows.{every_stops}
use Rattle.fields.proofs.record.check_list.Goals as goal

pub returns-in_err-check : goal.returns-in_err-check
returns-in_err-check g c =
    let p = err_from_is_err_and c.from_residual.result c.from_residual.ensures.1 in
    let bytes = c.args.bytes.now in
    let scope = c.args.scope in
    let number = c.loop-number.number in
    rw (p.1, p.2) (sym (every_stops (λ k. g.T.Record.checked bytes scope (c.args.first + g.T.Record.WIDTH * k) k) _ c.args.count number (omega arith) c.loop-number.invariant
    (ap (λ at. g.T.Record.checked bytes scope at number) (sym c.offset.ensures) ∙ sym c.in_err-check.ensures)))
