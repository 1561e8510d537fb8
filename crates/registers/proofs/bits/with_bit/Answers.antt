-- One bit is set, and the others are as they were.
use Rattle.std.proofs.Common.{◌||◌, eqb, ltb, sym, ap, ◌∙◌, arith}
use Rattle.orders.specs.Masks.{has_bit}
use Rattle.registers.proofs.BitFacts.{set_bit, and_holds}
use Rattle.registers.proofs.bits.with_bit.Goals as goal
use Rattle.std.proofs.lemmas.Bool.{lt-ltb}

pub returns : goal.returns
returns c q =
    set_bit c.args.mask c.args.k q (omega arith)
    ∙ ap (λ b. has_bit c.args.mask q || b) (sym (and_holds (eqb q c.args.k) (ltb c.args.k 16) (lt-ltb c.args.k 16 (omega arith))))
