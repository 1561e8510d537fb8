-- Searches through the numbers below a bound: the first that fits, whether one does, and how many do.
use Rattle.std.specs.Prelude.{ℕ, zero, suc, ◌+◌, Bool, false, cond, ◌||◌, Some, None, Option}

-- what was found before, or else the next number where it fits
abbrev pub or_next : Option ℕ → Bool → ℕ → Option ℕ
or_next (Some found) fits next = Some found
or_next None fits next = cond fits (Some next) None

-- the lowest number below n that fits
abbrev pub first_below : ℕ → (ℕ → Bool) → Option ℕ
first_below zero fits = None
first_below (suc n) fits = or_next (first_below n fits) (fits n) n

-- some number below n fits
unfoldable pub any_below : ℕ → (ℕ → Bool) → Bool
any_below zero fits = false
any_below (suc n) fits = any_below n fits || fits n

-- the sum over the numbers below n
unfoldable pub sum_below : ℕ → (ℕ → ℕ) → ℕ
sum_below zero amount = 0
sum_below (suc n) amount = sum_below n amount + amount n

-- how many numbers below n fit
abbrev pub count_below : ℕ → (ℕ → Bool) → ℕ
count_below n fits = sum_below n (λ k. cond (fits k) 1 0)
