-- The loop is left at the first line that repeats an earlier one.
use Rattle.std.proofs.Common.{◌≡◌, ◌<◌, Err, sym, ◌∙◌, rules}
use Rattle.std.proofs.lemmas.Result.{err_from_is_err_and}
use Rattle.refusals.proofs.Rows.{every_stops}
use Rattle.plans.specs.Reader.{line_apart}
use Rattle.plans.proofs.Apart.{looks_back}
use Rattle.plans.proofs.reader.PlanFile.check_lines.Goals as goal

pub returns-in_err-must : goal.returns-in_err-must
returns-in_err-must c =
    let bytes = c.args.self.now.bytes.now in
    let list = c.args.list in
    let k = c.loop-k.k in
    let within : k < list.count = search rules in
    let here : line_apart bytes list k ≡ Err c.in_err-must.field-0.0 = looks_back bytes list k c.records-lines.result c.records-lines.ensures within c.requires ∙ search rules in
    let p = err_from_is_err_and c.from_residual.result c.from_residual.ensures.1 in
    rw (p.1, p.2) (sym (every_stops (line_apart bytes list) _ list.count k within c.loop-k.invariant here))
