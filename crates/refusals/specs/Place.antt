-- The place that a refusal tells.
use Rattle.std.specs.Prelude.{ℕ, min}

-- the place itself, or 65535 for all beyond it
abbrev pub place_of : ℕ → ℕ
place_of at = min at 65535
