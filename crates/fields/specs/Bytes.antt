-- Numbers in bytes.
use Rattle.std.specs.Prelude.{ℕ, ◌+◌, ◌*◌, List, slice_index}

-- the byte at an offset, 0 past the end
abbrev pub byte_at : List ℕ → ℕ → ℕ
byte_at bytes at = slice_index bytes at

-- the number of two bytes at an offset, big-endian
abbrev pub two_at : List ℕ → ℕ → ℕ
two_at bytes at = 256 * byte_at bytes at + byte_at bytes (at + 1)
