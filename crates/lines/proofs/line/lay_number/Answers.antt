-- The space and the digits, one behind the other, are one text.
use Rattle.std.proofs.Common.{◌≡◌, ◌+◌, [], ◌∷◌, length, decimal, refl, ap, ◌∙◌, arith}
use Rattle.std.proofs.Math.Seq.{paste}
use Rattle.std.proofs.lemmas.List.Edits.{paste-paste}
use Rattle.lines.proofs.line.lay_number.Goals as goal

pub returns-clause-bytes : goal.returns-clause-bytes
returns-clause-bytes c =
    let before = c.args.line.now in
    let at = c.args.at in
    let digits = decimal c.args.number in
    let text = c.as_bytes.ensures.value ∙ c.format.ensures.text in
    let size : 1 + length digits ≡ length (32 ∷ digits) = omega arith in
    c.lay.ensures.bytes
    ∙ (λ i. paste (c.lay-digits_at.ensures.bytes i) (c.lay-digits_at.ensures.ends i) (text i) (length (text i)))
    ∙ paste-paste before at (32 ∷ []) digits 1 (length digits) refl refl (omega arith)
    ∙ ap (paste before at (32 ∷ digits)) size
