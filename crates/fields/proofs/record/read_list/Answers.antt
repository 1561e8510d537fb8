-- The array is filled place by place.
use Rattle.std.proofs.Common.{ℕ, ◌+◌, ◌*◌, cond, ltb, refl, rules, tests, arith}
use Rattle.std.proofs.lemmas.List.FromFn.{fill_by_all}
use Rattle.fields.proofs.FromFn.{from_fn_gives}
use Rattle.fields.specs.Records.{filled}
use Rattle.fields.proofs.record.read_list.Goals as goal

pub returns : goal.returns
unfolding filled
returns g c =
    let entry = λ (k : ℕ). cond (ltb k c.args.count) (g.T.Record.made c.args.bytes.now (c.args.first + g.T.Record.WIDTH * k)) g.T.Record.empty in
    fill_by_all entry c.from_fn.result g.row.N g.T.Record.empty c.from_fn.ensures.items.long
    (λ k h. from_fn_gives _ entry _ _ c.from_fn.result 0 g.row.N (λ x y q called. search (rules, tests)) refl c.from_fn.ensures.items.each k g.T.Record.empty (omega arith) (omega arith))
