-- What holds of rows that have passed the check: they make an order. Rows have w bits.
use Rattle.std.specs.Prelude.{◌≡◌, ℕ, ◌%◌, ◌^◌, ◌<◌, ◌≤◌, Bool, true, false, not, ◌&&◌, ◌||◌, List, is_ok, ◌==◌, nat_eq, nat_lt, slice_index, slice_index_or}
use Rattle.std.proofs.Common.{inl, inr, sym, ap, lt_of_lt_of_le, arith, pow_mono}
use Rattle.std.proofs.Math.Nat.{div-eq_of_lt}
use Rattle.std.proofs.lemmas.Bool.{and_from, and_parts, both_ways, eqb-true, false≢true, lt-ltb, ltb-true, not-true, or_cases}
use Rattle.refusals.proofs.Rows.{all_at, every_at, must_true}
use Rattle.refusals.specs.Checks.{every}
use Rattle.orders.specs.Masks.{bit_of_member, has_bit, names_members}
use Rattle.orders.specs.Rows.{bit_covered, covers, row_above, row_check, row_stands, rows_checked, stands_over, stands_over_all}
use Rattle.orders.specs.declared.rows.RowsFault.TheVariants.{TooMany, Row}
use Rattle.orders.specs.Limits.{limit_passed}

-- past its width a row has no bit
pub bit_past : (w row k : ℕ) → row < 2 ^ w → w ≤ k → has_bit row k ≡ false
bit_past w row k h l = ap (λ x. nat_eq (x % 2) 1) (div-eq_of_lt (lt_of_lt_of_le h (pow_mono l)))

-- an "if .. then" that is written with `not` and `||`
unless : (a b : Bool) → (not a || b) ≡ true → a ≡ true → b ≡ true
unless true b h e = h
unless false b h e = absurd (false≢true e)

-- what a row names, a row that covers it names too
pub covered_bit : (w upper lower k : ℕ) → covers w upper lower ≡ true → k < w → has_bit lower k ≡ true → has_bit upper k ≡ true
covered_bit w upper lower k h l e = unless (has_bit lower k) (has_bit upper k) (all_at (bit_covered upper lower) w k l h) e

-- only members stand in the order, and a's row decides what a is at or above
pub above_inside : (rows : List ℕ) (n a b : ℕ) → row_above rows n a b ≡ true → (a < n) × (b < n)
above_inside rows n a b h =
    let parts = and_parts (nat_lt a n) (nat_lt b n && has_bit (slice_index rows a) b) h in
    (ltb-true a n parts.0, ltb-true b n (and_parts (nat_lt b n) (has_bit (slice_index rows a) b) parts.1).0)

pub above_bit : (rows : List ℕ) (n a b : ℕ) → row_above rows n a b ≡ true → has_bit (slice_index rows a) b ≡ true
above_bit rows n a b h = (and_parts (nat_lt b n) (has_bit (slice_index rows a) b) (and_parts (nat_lt a n) (nat_lt b n && has_bit (slice_index rows a) b) h).1).1

pub bit_above : (rows : List ℕ) (n a b : ℕ) → a < n → b < n → has_bit (slice_index rows a) b ≡ true → row_above rows n a b ≡ true
bit_above rows n a b h k e = and_from (nat_lt a n) (nat_lt b n && has_bit (slice_index rows a) b) (lt-ltb a n h) (and_from (nat_lt b n) (has_bit (slice_index rows a) b) (lt-ltb b n k) e)

module _ (w : ℕ) (rows : List ℕ) (n : ℕ) (sound : is_ok (rows_checked w rows n) ≡ true) where
  -- rows that passed the check are not too many, and each of them stands
  pub rows_few : n ≤ w
  rows_few = (limit_passed n w TooMany (every n (row_check w rows n)) sound).0

  pub rows_stand : (q : ℕ) → q < n → row_stands w rows n q ≡ true
  rows_stand q h =
      let passed = (limit_passed n w TooMany (every n (row_check w rows n)) sound).1 in
      must_true (row_stands w rows n q) (Row q) (every_at (row_check w rows n) n q h passed)

  -- a row names its own member
  own_bit : (q : ℕ) → q < n → has_bit (slice_index rows q) q ≡ true
  own_bit q h = (and_parts (has_bit (slice_index rows q) q) (names_members w (slice_index rows q) n && stands_over_all w rows n q) (rows_stand q h)).0

  others : (q : ℕ) → q < n → (names_members w (slice_index rows q) n ≡ true) × (stands_over_all w rows n q ≡ true)
  others q h =
      and_parts (names_members w (slice_index rows q) n) (stands_over_all w rows n q)
      (and_parts (has_bit (slice_index rows q) q) (names_members w (slice_index rows q) n && stands_over_all w rows n q) (rows_stand q h)).1

  -- a row names none but members
  pub rows_name_members : (q k : ℕ) → q < n → k < w → has_bit (slice_index rows q) k ≡ true → k < n
  unfolding names_members
  rows_name_members q k h l e = ltb-true k n (unless (has_bit (slice_index rows q) k) (nat_lt k n) (all_at (bit_of_member (slice_index rows q) n) w k l (others q h).0) e)

  -- a row that names another covers it, and is not named back
  over : (q p : ℕ) → q < n → p < n → has_bit (slice_index rows q) p ≡ true → (covers w (slice_index rows q) (slice_index rows p) ≡ true) × ((p == q || not (has_bit (slice_index rows p) q)) ≡ true)
  over q p h k e =
      let row = slice_index_or rows q 0 in
      let other = slice_index_or rows p 0 in
      and_parts (covers w row other) (p == q || not (has_bit other q))
      (unless (has_bit row p) (covers w row other && (p == q || not (has_bit other q)))
      (all_at (λ p. stands_over w (slice_index rows q) q (slice_index rows p) p) n p k (others q h).1) e)

  -- the row of a member covers the rows of all that it is at or above
  pub rows_cover : (a b : ℕ) → row_above rows n a b ≡ true → covers w (slice_index rows a) (slice_index rows b) ≡ true
  rows_cover a b h = let inside = above_inside rows n a b h in (over a b inside.0 inside.1 (above_bit rows n a b h)).0

  pub rows_reflexive : (a : ℕ) → a < n → row_above rows n a a ≡ true
  rows_reflexive a h = bit_above rows n a a h h (own_bit a h)

  pub rows_transitive : (a b c : ℕ) → row_above rows n a b ≡ true → row_above rows n b c ≡ true → row_above rows n a c ≡ true
  rows_transitive a b c p q =
      let few = rows_few in
      let c-inside = (above_inside rows n b c q).1 in
      bit_above rows n a c (above_inside rows n a b p).0 c-inside
      (covered_bit w (slice_index rows a) (slice_index rows b) c (rows_cover a b p) (omega arith) (above_bit rows n b c q))

  pub rows_antisymmetric : (a b : ℕ) → row_above rows n a b ≡ true → row_above rows n b a ≡ true → a ≡ b
  rows_antisymmetric a b p q =
      let inside = above_inside rows n a b p in
      elim (or_cases (b == a) (not (has_bit (slice_index rows b) a)) (over a b inside.0 inside.1 (above_bit rows n a b p)).1) [
        | inl same ↦ sym (eqb-true b a same)
        | inr unnamed ↦ absurd (both_ways (has_bit (slice_index rows b) a) (not-true (has_bit (slice_index rows b) a) unnamed) (above_bit rows n b a q))
      ]
