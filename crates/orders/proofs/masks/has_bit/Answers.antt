-- Past the width there is no bit.
use Rattle.std.proofs.Common.{sym, ◌∙◌, arith}
use Rattle.orders.specs.RowsFacts.{bit_past}
use Rattle.orders.proofs.masks.has_bit.Goals as goal
use Rattle.std.proofs.lemmas.Bool.{le-ltb}

pub returns-else-k-lt-BITS : goal.returns-else-k-lt-BITS
returns-else-k-lt-BITS c = le-ltb c.args.k 16 (omega arith) ∙ sym (bit_past 16 c.args.mask c.args.k (omega arith) (omega arith))
