-- The word, the numbers and the newline, each laid behind what was laid before, make the line.
use Rattle.std.proofs.Common.{[], ◌∷◌, decimal, refl, rules}
use Rattle.lines.specs.Word.{spelled}
use Rattle.lines.proofs.Laid.{Laid, further}
use Rattle.lines.proofs.line.write.Goals as goal

pub returns : goal.returns
returns c =
    let none : Laid [] c.args.line.now 0 c.args.line.now = record { ends = refl; bytes = refl } in
    let word = further (spelled c.args.word) none (simp c.text.ensures at c.lay-after_word.ensures.ends) (simp c.text.ensures at c.lay-after_word.ensures.bytes) in
    let first = further (32 ∷ decimal c.args.first) word c.lay_number-after_first.ensures.ends c.lay_number-after_first.ensures.bytes in
    let second = further (32 ∷ decimal c.args.second) first c.lay_number-after_second.ensures.ends c.lay_number-after_second.ensures.bytes in
    let third = further (32 ∷ decimal c.args.third) second c.lay_number-after_third.ensures.ends c.lay_number-after_third.ensures.bytes in
    let line = further (10 ∷ []) third c.lay.ensures.ends c.lay.ensures.bytes in
    record { length = line.ends; bytes = line.bytes; fits = search rules }
