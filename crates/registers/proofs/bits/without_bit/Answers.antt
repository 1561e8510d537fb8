-- One bit is cleared, and the others are as they were.
use Rattle.std.proofs.Common.{not, ◌&&◌, eqb, ltb, sym, ap, ◌∙◌, arith}
use Rattle.orders.specs.Masks.{has_bit}
use Rattle.registers.proofs.BitFacts.{and_holds, clear_bit}
use Rattle.registers.proofs.bits.without_bit.Goals as goal
use Rattle.std.proofs.lemmas.Bool.{lt-ltb}

pub returns : goal.returns
returns c q =
    clear_bit c.args.from c.args.k q (omega arith) (omega arith)
    ∙ ap (λ b. has_bit c.args.from q && not b) (sym (and_holds (eqb q c.args.k) (ltb c.args.k 16) (lt-ltb c.args.k 16 (omega arith))))
