-- Each record that posts another is one other more, since none of the part repeats an earlier one.
use Rattle.std.proofs.Common.{◌≡◌, ℕ, cond, not, ◌&&◌, eqb, List, get_or, Option, None, sym, ap, ◌∙◌, subst, arith}
use Rattle.registers.proofs.PostingFacts.{count_most, count_zero}
use Rattle.registers.specs.declared.posting.Posting.{Posting}
use Rattle.roll.proofs.PartFacts.{among_none, others_more}
use Rattle.roll.proofs.roll.RollRegister.others.Goals as goal
use Rattle.roll.proofs.roll.RollRegister.others.Goals.{then-is_other, else-is_other}
use Rattle.roll.specs.Part.{Kept, among, is_other}
use Rattle.std.proofs.lemmas.Bool.{and_right}

pub loop-record-init : goal.loop-record-init
loop-record-init c =
    let it = c.args.posting in
    sym (count_zero _ 64 (λ x h. and_right (not (eqb x it.person)) _ (among_none c.part-record-items.result.now x it.role it.branch)))

pub overflow_add-count : goal.overflow_add-count
overflow_add-count c =
    let it = c.args.posting in
    omega (arith, c.loop-record.invariant, count_most (λ x. not (eqb x it.person) && among c.part-record-items.result.now c.loop-record.record-index x it.role it.branch) 64)

pub loop-record-preserved : goal.loop-record-preserved
loop-record-preserved c =
    let it = c.args.posting in
    let part = c.part-record-items.result.now in
    let more = others_more part it.branch (subst (λ (records : List (Option Posting)). Kept records it.branch) (sym c.part-record-items.ensures) (c.args.self.now.kept it.branch)) c.loop-record.record-index it.person it.role in
    elim c.if-is_other.branch [
      | then-is_other w ↦
          let one : ◌≡◌ {A = ℕ} (cond (is_other (get_or part c.loop-record.record-index None) it.person it.role) 1 0) 1 = ap (λ b. cond b 1 0) (sym c.is_other.ensures ∙ w.if-is_other.true) in
          w.count-is ∙ omega (arith, more, one, c.loop-record.invariant)
      | else-is_other w ↦
          let none : ◌≡◌ {A = ℕ} (cond (is_other (get_or part c.loop-record.record-index None) it.person it.role) 1 0) 0 = ap (λ b. cond b 1 0) (sym c.is_other.ensures ∙ w.if-is_other.false) in
          w.count-is ∙ omega (arith, more, none, c.loop-record.invariant)
    ]
