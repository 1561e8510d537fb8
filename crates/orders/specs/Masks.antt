-- Masks: bit k set names the member with the number k.
use Rattle.std.specs.Prelude.{ℕ, ◌/◌, ◌%◌, ◌^◌, Bool, not, ◌||◌, ◌==◌, nat_lt}
use Rattle.refusals.specs.Checks.{all}

-- bit k of a mask is set: the mask names member k
abbrev pub has_bit : ℕ → ℕ → Bool
has_bit mask k = (mask / 2 ^ k) % 2 == 1

-- what a mask names at k, if anything, is one of n members
abbrev pub bit_of_member : ℕ → ℕ → ℕ → Bool
bit_of_member mask n k = not (has_bit mask k) || nat_lt k n

-- a mask of w bits names none but the n members
unfoldable pub names_members : ℕ → ℕ → ℕ → Bool
names_members w mask n = all w (bit_of_member mask n)
