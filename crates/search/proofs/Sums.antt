-- What sums over the numbers below a bound say: as a loop goes through them, and of their bounds.
use Rattle.std.proofs.Common.{◌≡◌, ℕ, zero, suc, ◌+◌, ◌*◌, ◌<◌, ◌≤◌, Bool, true, false, cond, List, [], ◌∷◌, length, get_or, take, sym, refl, ap, ◌∙◌, subst, inl, inr, suc-mul, add-one, arith}
use Rattle.std.specs.List.{enumerate_from, filter, sum_by}
use Rattle.std.proofs.lemmas.Bool.{cases_lt}
use Rattle.std.proofs.lemmas.List.Sums.{sum_by-cons}
use Rattle.search.specs.Searches.{count_below, sum_below}

-- the sum of no number, and one turn of a loop
pub sum_none : (amount : ℕ → ℕ) → sum_below 0 amount ≡ 0
unfolding sum_below
sum_none amount = refl

pub sum_more : (amount : ℕ → ℕ) (n : ℕ) → sum_below (n + 1) amount ≡ sum_below n amount + amount n
unfolding sum_below
sum_more amount n = rw add-one refl

-- equal amounts have equal sums
pub sum_same : (amount also : ℕ → ℕ) (n : ℕ) → ((k : ℕ) → k < n → amount k ≡ also k) → sum_below n amount ≡ sum_below n also
unfolding sum_below
sum_same amount also zero same = refl
sum_same amount also (suc n) same = omega (arith, sum_same amount also n (λ k h. same k (omega arith)), same n (omega arith))

-- a sum grows with its bound
pub sum_grows : (amount : ℕ → ℕ) (m n : ℕ) → m ≤ n → sum_below m amount ≤ sum_below n amount
unfolding sum_below
sum_grows amount m zero h = let e : m ≡ 0 = omega arith in subst (λ k. sum_below k amount ≤ 0) (sym e) (omega arith)
sum_grows amount m (suc n) h =
    elim (cases_lt m (suc n)) [
      | inl l ↦ omega (arith, sum_grows amount m n (omega arith))
      | inr g ↦ let e : m ≡ suc n = omega arith in subst (λ k. sum_below k amount ≤ sum_below (suc n) amount) (sym e) (omega arith)
    ]

-- amounts of at most so much each
pub sum_most : (amount : ℕ → ℕ) (most n : ℕ) → ((k : ℕ) → k < n → amount k ≤ most) → sum_below n amount ≤ n * most
unfolding sum_below
sum_most amount most zero each = omega arith
sum_most amount most (suc n) each = rw suc-mul (omega (arith, sum_most amount most n (λ k h. each k (omega arith)), each n (omega arith)))

-- and less where one of them is less
pub sum_less : (amount : ℕ → ℕ) (most n k : ℕ) → ((j : ℕ) → j < n → amount j ≤ most) → k < n → amount k < most → sum_below n amount < n * most
unfolding sum_below
sum_less amount most zero k each h less = absurd (omega arith)
sum_less amount most (suc n) k each h less =
    elim (cases_lt k n) [
      | inl l ↦ rw suc-mul (omega (arith, sum_less amount most n k (λ j i. each j (omega arith)) l less, each n (omega arith)))
      | inr g ↦
          let same : k ≡ n = omega arith in
          let here : amount n < most = subst (λ m. amount m < most) same less in
          rw suc-mul (omega (arith, sum_most amount most n (λ j i. each j (omega arith))))
    ]

-- one amount raised, and the others as they were
pub sum_raised : (amount now' : ℕ → ℕ) (n k by : ℕ) → k < n → ((j : ℕ) → j < n → (j ≡ k → ⊥) → now' j ≡ amount j) → now' k ≡ amount k + by → sum_below n now' ≡ sum_below n amount + by
unfolding sum_below
sum_raised amount now' zero k by h others here = absurd (omega arith)
sum_raised amount now' (suc n) k by h others here =
    elim (cases_lt k n) [
      | inl l ↦ omega (arith, sum_raised amount now' n k by l (λ j i. others j (omega arith)) here, others n (omega arith) (λ e. omega arith))
      | inr g ↦
          let same : k ≡ n = omega arith in
          let last : now' n ≡ amount n + by = subst (λ m. now' m ≡ amount m + by) same here in
          omega (arith, sum_same now' amount n (λ j i. others j (omega arith) (λ e. omega arith)))
    ]

-- the first amount, and the others
pub sum_first : (amount : ℕ → ℕ) (n : ℕ) → sum_below (suc n) amount ≡ amount 0 + sum_below n (λ k. amount (suc k))
unfolding sum_below
sum_first amount zero = omega arith
sum_first amount (suc n) = omega (arith, sum_first amount n)

-- the first numbers of a list, as many as there are, together
pub sum_taken : (xs : List ℕ) (n : ℕ) → sum_by (λ x. x) (take n xs) ≡ sum_below n (λ k. get_or xs k 0)
sum_taken xs zero = sym (sum_none _)
sum_taken [] (suc n) = omega (arith, sum_most (λ k. 0) 0 (suc n) (λ k h. omega arith))
sum_taken (x ∷ xs) (suc n) = sum_by-cons (λ y. y) x (take n xs) ∙ ap (λ m. x + m) (sum_taken xs n) ∙ sym (sum_first (λ k. get_or (x ∷ xs) k 0) n)

-- an element more, where it passes
length_more : {X : Type 0} (b : Bool) (x : X) (xs : List X) → length (cond b (x ∷ xs) xs) ≡ cond b 1 0 + length xs
length_more true x xs = omega arith
length_more false x xs = omega arith

-- the elements of a list that pass a test of their place and themselves, as many as there are such places: from any place on, and from 0
count_listed : {X : Type 0} (test : ℕ → X → Bool) (d : X) (a : ℕ) (xs : List X) → length (filter (λ p. test p.0 p.1) (enumerate_from a xs)) ≡ count_below (length xs) (λ k. test (a + k) (get_or xs k d))
count_listed test d a [] = sym (sum_none _)
count_listed test d a (x ∷ xs) =
    length_more (test a x) (a, x) _
    ∙ ap (λ n. cond (test a x) 1 0 + n)
    (count_listed test d (a + 1) xs ∙ sum_same _ (λ k. cond (test (a + suc k) (get_or xs k d)) 1 0) (length xs) (λ k h. ap (λ n. cond (test n (get_or xs k d)) 1 0) (omega arith)))
    ∙ ap (λ m. cond (test m x) 1 0 + sum_below (length xs) (λ k. cond (test (a + suc k) (get_or xs k d)) 1 0)) (omega arith)
    ∙ sym (sum_first (λ k. cond (test (a + k) (get_or (x ∷ xs) k d)) 1 0) (length xs))

pub count_enumerated : {X : Type 0} (test : ℕ → X → Bool) (d : X) (xs : List X) → length (filter (λ p. test p.0 p.1) (enumerate_from 0 xs)) ≡ count_below (length xs) (λ k. test k (get_or xs k d))
count_enumerated test d xs = count_listed test d 0 xs ∙ sum_same _ _ (length xs) (λ k h. ap (λ n. cond (test n (get_or xs k d)) 1 0) (omega arith))
