-- What a bit of a mask is after one is set or cleared.
use Rattle.std.proofs.Common.{◌≡◌, ℕ, zero, suc, ◌+◌, ◌-◌, ◌*◌, ◌/◌, ◌%◌, ◌^◌, ◌<◌, ◌≤◌, Bool, true, false, not, ◌&&◌, ◌||◌, eqb, ◌⊎◌, sym, refl, ap, ◌∙◌, subst, inl, inr, pow-suc, arith}
use native.Mathlib.Nat.{div-eq_of_lt}
use lib.Bits.{bit_and, bit_or, bit_xor, and_mask, or_shr, or_mod, and_shr, and_mod, xor_shr, xor_mod, xor_add_and}
use Rattle.orders.specs.RowsFacts.{bit_past}
use Rattle.orders.specs.Masks.{has_bit}
use Rattle.std.proofs.lemmas.Nat.{and_comm, one_shl, pow-add, pow_below, shl-shr}
use Rattle.std.proofs.lemmas.Bool.{cases_lt, cases_order, eq-eqb, ne_eqb}

-- a test beside one that holds
pub and_holds : (a b : Bool) → b ≡ true → (a && b) ≡ a
and_holds true b e = e
and_holds false b e = refl

-- at single digits
or_digit : (u v : ℕ) → u < 2 → v < 2 → eqb (bit_or u v) 1 ≡ (eqb u 1 || eqb v 1)
or_digit zero zero h k = refl
or_digit zero (suc zero) h k = refl
or_digit (suc zero) zero h k = refl
or_digit (suc zero) (suc zero) h k = refl
or_digit zero (suc (suc v)) h k = absurd (omega arith)
or_digit (suc zero) (suc (suc v)) h k = absurd (omega arith)
or_digit (suc (suc u)) v h k = absurd (omega arith)

and_digit : (u v : ℕ) → u < 2 → v < 2 → eqb (bit_and u v) 1 ≡ (eqb u 1 && eqb v 1)
and_digit zero zero h k = refl
and_digit zero (suc zero) h k = refl
and_digit (suc zero) zero h k = refl
and_digit (suc zero) (suc zero) h k = refl
and_digit zero (suc (suc v)) h k = absurd (omega arith)
and_digit (suc zero) (suc (suc v)) h k = absurd (omega arith)
and_digit (suc (suc u)) v h k = absurd (omega arith)

xor_digit : (v : ℕ) → v < 2 → eqb (bit_xor 1 v) 1 ≡ not (eqb v 1)
xor_digit zero k = refl
xor_digit (suc zero) k = refl
xor_digit (suc (suc v)) k = absurd (omega arith)

-- a bit of two masks joined, and of what both have
or_bit : (x y k : ℕ) → has_bit (bit_or x y) k ≡ (has_bit x k || has_bit y k)
or_bit x y k =
    ap (λ z. eqb (z % 2) 1) (or_shr x y k)
    ∙ ap (λ z. eqb z 1) (or_mod (x / 2 ^ k) (y / 2 ^ k) 1)
    ∙ or_digit ((x / 2 ^ k) % 2) ((y / 2 ^ k) % 2) (omega arith) (omega arith)

and_bit : (x y k : ℕ) → has_bit (bit_and x y) k ≡ (has_bit x k && has_bit y k)
and_bit x y k =
    ap (λ z. eqb (z % 2) 1) (and_shr x y k)
    ∙ ap (λ z. eqb z 1) (and_mod (x / 2 ^ k) (y / 2 ^ k) 1)
    ∙ and_digit ((x / 2 ^ k) % 2) ((y / 2 ^ k) % 2) (omega arith) (omega arith)

-- 2 ^ k has the bit k and no other
one_here : (k : ℕ) → has_bit (2 ^ k) k ≡ true
one_here k =
    let e : 2 ^ k / 2 ^ k ≡ 1 = let f : 1 * 2 ^ k ≡ 2 ^ k = omega arith in subst (λ z. z / 2 ^ k ≡ 1) f (shl-shr 1 k) in
    ap (λ z. eqb (z % 2) 1) e

one_below : (q d : ℕ) → has_bit (2 ^ (suc d + q)) q ≡ false
one_below q d =
    let e : 2 ^ suc d ≡ 2 ^ d * 2 = pow-suc 2 d in
    let even : (2 ^ suc d) % 2 ≡ 0 = omega (arith, e) in
    let f : 2 ^ (suc d + q) / 2 ^ q ≡ 2 ^ suc d = ap (λ z. z / 2 ^ q) (pow-add 2 (suc d) q) ∙ shl-shr (2 ^ suc d) q in
    ap (λ z. eqb (z % 2) 1) f ∙ ap (λ z. eqb z 1) even

one_above : (k q : ℕ) → k < q → has_bit (2 ^ k) q ≡ false
one_above k q h = ap (λ z. eqb (z % 2) 1) (div-eq_of_lt (pow_below k q h))

power_bit : (k q : ℕ) → has_bit (2 ^ k) q ≡ eqb q k
power_bit k q = at (cases_order q k)
  where
    at : (q ≡ k) ⊎ ((q < k) ⊎ (k < q)) → has_bit (2 ^ k) q ≡ eqb q k
    at (inl e) = subst (λ z. has_bit (2 ^ k) z ≡ eqb z k) (sym e) (one_here k ∙ sym (eq-eqb k k refl))
    at (inr (inl h)) =
        let e : suc (k - q - 1) + q ≡ k = omega arith in
        subst (λ z. has_bit (2 ^ z) q ≡ false) e (one_below q (k - q - 1)) ∙ sym (ne_eqb q k (λ s. omega arith))
    at (inr (inr h)) = one_above k q h ∙ sym (ne_eqb q k (λ s. omega arith))

shifted_bit : (k q : ℕ) → k < 16 → has_bit ((1 * 2 ^ k) % 65536) q ≡ eqb q k
shifted_bit k q h = ap (λ z. has_bit z q) (one_shl k 16 h) ∙ power_bit k q

-- the mask of all sixteen bits
all_ones : (q : ℕ) → q < 16 → (65535 / 2 ^ q) % 2 ≡ 1
all_ones zero h = refl
all_ones (suc zero) h = refl
all_ones (suc (suc zero)) h = refl
all_ones (suc (suc (suc zero))) h = refl
all_ones (suc (suc (suc (suc zero)))) h = refl
all_ones (suc (suc (suc (suc (suc zero))))) h = refl
all_ones (suc (suc (suc (suc (suc (suc zero)))))) h = refl
all_ones (suc (suc (suc (suc (suc (suc (suc zero))))))) h = refl
all_ones (suc (suc (suc (suc (suc (suc (suc (suc zero)))))))) h = refl
all_ones (suc (suc (suc (suc (suc (suc (suc (suc (suc zero))))))))) h = refl
all_ones (suc (suc (suc (suc (suc (suc (suc (suc (suc (suc zero)))))))))) h = refl
all_ones (suc (suc (suc (suc (suc (suc (suc (suc (suc (suc (suc zero))))))))))) h = refl
all_ones (suc (suc (suc (suc (suc (suc (suc (suc (suc (suc (suc (suc zero)))))))))))) h = refl
all_ones (suc (suc (suc (suc (suc (suc (suc (suc (suc (suc (suc (suc (suc zero))))))))))))) h = refl
all_ones (suc (suc (suc (suc (suc (suc (suc (suc (suc (suc (suc (suc (suc (suc zero)))))))))))))) h = refl
all_ones (suc (suc (suc (suc (suc (suc (suc (suc (suc (suc (suc (suc (suc (suc (suc zero))))))))))))))) h = refl
all_ones (suc (suc (suc (suc (suc (suc (suc (suc (suc (suc (suc (suc (suc (suc (suc (suc q)))))))))))))))) h = absurd (omega arith)

other_bit : (m q : ℕ) → m < 65536 → q < 16 → has_bit (65535 - m) q ≡ not (has_bit m q)
other_bit m q h k =
    let a : bit_and 65535 m ≡ m % 65536 = and_comm 65535 m ∙ and_mask m 16 in
    let e : 65535 - m ≡ bit_xor 65535 m = omega (arith, a, xor_add_and 65535 m) in
    ap (λ z. eqb ((z / 2 ^ q) % 2) 1) e
    ∙ ap (λ z. eqb (z % 2) 1) (xor_shr 65535 m q)
    ∙ ap (λ z. eqb z 1) (xor_mod (65535 / 2 ^ q) (m / 2 ^ q) 1)
    ∙ ap (λ z. eqb (bit_xor z ((m / 2 ^ q) % 2)) 1) (all_ones q k)
    ∙ xor_digit ((m / 2 ^ q) % 2) (omega arith)

-- no bit is set in an empty mask
pub no_bit : (q : ℕ) → has_bit 0 q ≡ false
no_bit q = bit_past 0 0 q (omega arith) (omega arith)

-- one bit set
pub set_bit : (x k q : ℕ) → k < 16 → has_bit (bit_or x ((1 * 2 ^ k) % 65536)) q ≡ (has_bit x q || eqb q k)
set_bit x k q h = or_bit x ((1 * 2 ^ k) % 65536) q ∙ ap (λ b. has_bit x q || b) (shifted_bit k q h)

-- one bit cleared
pub clear_bit : (x k q : ℕ) → x < 65536 → k < 16 → has_bit (bit_and x (65535 - (1 * 2 ^ k) % 65536)) q ≡ (has_bit x q && not (eqb q k))
clear_bit x k q h l = and_bit x (65535 - (1 * 2 ^ k) % 65536) q ∙ at (cases_lt q 16)
  where
    at : (q < 16) ⊎ (16 ≤ q) → (has_bit x q && has_bit (65535 - (1 * 2 ^ k) % 65536) q) ≡ (has_bit x q && not (eqb q k))
    at (inl lt) = ap (λ b. has_bit x q && b) (other_bit ((1 * 2 ^ k) % 65536) q (omega arith) lt ∙ ap not (shifted_bit k q l))
    at (inr ge) =
        ap (λ b. b && has_bit (65535 - (1 * 2 ^ k) % 65536) q) (bit_past 16 x q h ge)
        ∙ sym (ap (λ b. b && not (eqb q k)) (bit_past 16 x q h ge))
