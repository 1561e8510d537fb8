-- What searches say: as a loop goes through the numbers, and of what they found.
use Rattle.std.proofs.Common.{◌≡◌, ℕ, zero, suc, ◌+◌, ◌<◌, Bool, true, false, cond, ◌||◌, is_some, List, length, get_or, Some, None, Option, sym, refl, ap, ◌∙◌, subst, inl, inr, add-one, arith}
use Rattle.std.specs.List.{position, position_or_len}
use Rattle.std.proofs.lemmas.Bool.{cases_lt, cond-false, cond-true, le-ltb, lt-ltb, or_cases, or_from, or_left, or_right, true≢false}
use Rattle.std.proofs.lemmas.List.Sums.{fails_before_first, passes_at_first}
use Rattle.search.specs.Searches.{or_next, first_below, any_below}

-- the lowest number that fits, where nothing below it does
pub first_stops : (fits : ℕ → Bool) (n k : ℕ) → k < n → first_below k fits ≡ None → fits k ≡ true → first_below n fits ≡ Some k
first_stops fits zero k h before here = absurd (omega arith)
first_stops fits (suc n) k h before here =
    elim (cases_lt k n) [
      | inl l ↦ ap (λ o. or_next o (fits n) n) (first_stops fits n k l before here)
      | inr g ↦
          let e : k ≡ n = omega arith in
          subst (λ m. first_below (suc m) fits ≡ Some k) e (ap (λ o. or_next o (fits k) k) before ∙ ap (λ b. cond b (Some k) None) here)
    ]

-- where nothing fits, nothing is found
pub first_none : (fits : ℕ → Bool) (n : ℕ) → ((k : ℕ) → k < n → fits k ≡ false) → first_below n fits ≡ None
first_none fits zero none = refl
first_none fits (suc n) none =
    ap (λ o. or_next o (fits n) n) (first_none fits n (λ k h. none k (omega arith))) ∙ ap (λ b. cond b (Some n) None) (none n (omega arith))

-- the place that a search through a list tells is the lowest that fits
pub first_position : {X : Type 0} (test : X → Bool) (xs : List X) (d : X) → position test xs ≡ first_below (length xs) (λ k. test (get_or xs k d))
first_position test xs d =
    elim (cases_lt (position_or_len test xs) (length xs)) [
      | inl l ↦
          cond-true _ (Some (position_or_len test xs)) None (lt-ltb _ _ l)
          ∙ sym (first_stops _ (length xs) (position_or_len test xs) l (first_none _ _ (λ k h. fails_before_first test xs k d h)) (passes_at_first test xs d l))
      | inr g ↦
          cond-false _ (Some (position_or_len test xs)) None (le-ltb _ _ g)
          ∙ sym (first_none _ (length xs) (λ k h. fails_before_first test xs k d (omega arith)))
    ]

-- where nothing is found, nothing fits
pub first_missed : (fits : ℕ → Bool) (n : ℕ) → first_below n fits ≡ None → (k : ℕ) → k < n → fits k ≡ false
first_missed fits zero e k h = absurd (omega arith)
first_missed fits (suc n) e k h = at (first_below n fits) (fits n) refl refl (first_missed fits n) e
  where
    at :
        (before : Option ℕ) (here : Bool)
        → first_below n fits ≡ before
        → fits n ≡ here
        → (first_below n fits ≡ None → (j : ℕ) → j < n → fits j ≡ false)
        → or_next before here n ≡ None
        → fits k ≡ false
    at (Some m) here b f again e = cc
    at None true b f again e = cc
    at None false b f again e =
        elim (cases_lt k n) [
          | inl l ↦ again b k l
          | inr g ↦ let same : n ≡ k = omega arith in subst (λ m. fits m ≡ false) same f
        ]

-- what is found fits, and nothing before it does
pub first_found : (fits : ℕ → Bool) (n k : ℕ) → first_below n fits ≡ Some k → (k < n) × (fits k ≡ true) × ((j : ℕ) → j < k → fits j ≡ false)
first_found fits zero k e = cc
first_found fits (suc n) k e = at (first_below n fits) (fits n) refl refl (first_found fits n k) e
  where
    at :
        (before : Option ℕ) (here : Bool)
        → first_below n fits ≡ before
        → fits n ≡ here
        → (first_below n fits ≡ Some k → (k < n) × (fits k ≡ true) × ((j : ℕ) → j < k → fits j ≡ false))
        → or_next before here n ≡ Some k
        → (k < suc n) × (fits k ≡ true) × ((j : ℕ) → j < k → fits j ≡ false)
    at (Some m) here b h again e =
        let r = again (b ∙ e) in
        (omega (arith, r.0), r.1, r.2)
    at None true b h again e =
        let same : n ≡ k = cc in
        subst (λ m. (m < suc n) × (fits m ≡ true) × ((j : ℕ) → j < m → fits j ≡ false)) same (omega arith, h, first_missed fits n b)
    at None false b h again e = cc

-- something is found exactly where some number fits
pub first_any : (fits : ℕ → Bool) (n : ℕ) → is_some (first_below n fits) ≡ any_below n fits
unfolding any_below
first_any fits zero = refl
first_any fits (suc n) = at (first_below n fits) (fits n) (first_any fits n)
  where
    at : (before : Option ℕ) (here : Bool) → is_some before ≡ any_below n fits → is_some (or_next before here n) ≡ (any_below n fits || here)
    at (Some m) here e = ap (λ b. b || here) e
    at None true e = ap (λ b. b || true) e
    at None false e = ap (λ b. b || false) e

-- some number below n: none below 0, and one turn of a loop
pub any_none : (fits : ℕ → Bool) → any_below 0 fits ≡ false
unfolding any_below
any_none fits = refl

pub any_more : (fits : ℕ → Bool) (n : ℕ) → any_below (n + 1) fits ≡ (any_below n fits || fits n)
unfolding any_below
any_more fits n = rw add-one refl

-- a number that fits, as a reason and as a consequence
pub any_at : (fits : ℕ → Bool) (n k : ℕ) → k < n → fits k ≡ true → any_below n fits ≡ true
unfolding any_below
any_at fits zero k h e = absurd (omega arith)
any_at fits (suc n) k h e =
    elim (cases_lt k n) [
      | inl l ↦ or_left (any_below n fits) (fits n) (any_at fits n k l e)
      | inr g ↦ let same : k ≡ n = omega arith in or_right (any_below n fits) (fits n) (subst (λ m. fits m ≡ true) same e)
    ]

pub any_some : (fits : ℕ → Bool) (n : ℕ) → any_below n fits ≡ true → (k : ℕ) × (k < n) × (fits k ≡ true)
unfolding any_below
any_some fits zero e = absurd (true≢false (sym e))
any_some fits (suc n) e =
    elim (or_cases (any_below n fits) (fits n) e) [
      | inl before ↦ let r = any_some fits n before in (r.0, omega (arith, r.1), r.2)
      | inr here ↦ (n, omega arith, here)
    ]

pub any_fails : (fits : ℕ → Bool) (n : ℕ) → ((k : ℕ) → k < n → fits k ≡ false) → any_below n fits ≡ false
unfolding any_below
any_fails fits zero h = refl
any_fails fits (suc n) h = or_from (any_below n fits) (fits n) (any_fails fits n (λ k l. h k (omega arith))) (h n (omega arith))

pub any_same : (fits also : ℕ → Bool) (n : ℕ) → ((k : ℕ) → k < n → fits k ≡ also k) → any_below n fits ≡ any_below n also
unfolding any_below
any_same fits also zero same = refl
any_same fits also (suc n) same =
    ap (λ b. b || fits n) (any_same fits also n (λ k h. same k (omega arith))) ∙ ap (λ b. any_below n also || b) (same n (omega arith))
