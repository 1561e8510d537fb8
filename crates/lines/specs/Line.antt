-- The line that a message is written as.
use Rattle.std.specs.Prelude.{ℕ, List, [], ◌∷◌, ◌++◌, decimal}
use Rattle.lines.specs.declared.word.Word.{Word}
use Rattle.lines.specs.Word.{spelled}
use Rattle.refusals.specs.declared.refusal.Refusal.{Refusal}

-- the call's word, each number in decimal behind a space, and a newline
abbrev pub line_of : Word → ℕ → ℕ → ℕ → List ℕ
line_of w a b c = spelled w ++ 32 ∷ decimal a ++ 32 ∷ decimal b ++ 32 ∷ decimal c ++ 10 ∷ []

-- the line of a word and the three numbers of a refusal
abbrev pub refusal_line : Word → Refusal → List ℕ
refusal_line w r = line_of w r.number r.layer r.place
