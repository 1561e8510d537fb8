-- Orders by rows of bits: a member's row names the members at or below it. Rows have w bits, numbered from 0.
use Rattle.std.specs.Prelude.{ℕ, Bool, not, ◌&&◌, ◌||◌, List, Result, ◌==◌, nat_le, nat_lt, slice_index}
use Rattle.orders.specs.Masks.{has_bit, names_members}
use Rattle.orders.specs.declared.rows.RowsFault.{RowsFault}
use Rattle.orders.specs.declared.rows.RowsFault.TheVariants.{TooMany, Row}
use Rattle.refusals.specs.Checks.{all, every, must, then}

-- of n members, a is at or above b: its row names b
abbrev pub row_above : List ℕ → ℕ → ℕ → ℕ → Bool
row_above rows n a b = nat_lt a n && (nat_lt b n && has_bit (slice_index rows a) b)

-- what one row names at k, another names too
abbrev pub bit_covered : ℕ → ℕ → ℕ → Bool
bit_covered upper lower k = not (has_bit lower k) || has_bit upper k

-- all that the lower row names, the upper names too
abbrev pub covers : ℕ → ℕ → ℕ → Bool
covers w upper lower = all w (bit_covered upper lower)

-- where member q's row names p, it covers the other row, p's, which does not name q back, but where p is q
abbrev pub stands_over : ℕ → ℕ → ℕ → ℕ → ℕ → Bool
stands_over w row q other p = not (has_bit row p) || (covers w row other && (p == q || not (has_bit other q)))

-- member q's row stands over the rows of all that it names
abbrev pub stands_over_all : ℕ → List ℕ → ℕ → ℕ → Bool
stands_over_all w rows n q = all n (λ p. stands_over w (slice_index rows q) q (slice_index rows p) p)

-- member q's row names q and none but members, and stands over the rows of all that it names
abbrev pub row_stands : ℕ → List ℕ → ℕ → ℕ → Bool
row_stands w rows n q = has_bit (slice_index rows q) q && (names_members w (slice_index rows q) n && stands_over_all w rows n q)

-- the member's row stands, or the member is refused
abbrev pub row_check : ℕ → List ℕ → ℕ → ℕ → Result (Unit {0}) RowsFault
row_check w rows n q = must (row_stands w rows n q) (Row q)

-- at most w members, and then the lowest member whose row does not stand is refused
abbrev pub rows_checked : ℕ → List ℕ → ℕ → Result (Unit {0}) RowsFault
rows_checked w rows n = then (must (nat_le n w) TooMany) (every n (row_check w rows n))
