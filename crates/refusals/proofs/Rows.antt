-- What a row of checks says: as a loop goes through it, and of each check once all have passed.
use Rattle.std.proofs.Common.{◌≡◌, ℕ, zero, suc, ◌+◌, ◌<◌, ◌≤◌, Bool, true, false, not, ◌&&◌, ◌||◌, List, [], ◌∷◌, length, get_or, take, Ok, Err, Result, sym, refl, ap, ◌∙◌, subst, inl, inr, add-one, arith}
use Rattle.std.proofs.lemmas.Bool.{cases_lt, and_parts, and_from, and_left, and_right}
use Rattle.std.proofs.lemmas.List.Folds.{list_any_more}
use Rattle.std.specs.List.{list_all, list_any, range_with_len}
use Rattle.refusals.specs.Checks.{must, then, in_order, every, all}

-- a row of checks that has passed, and one more check
then_passed : {F : Type 0} (a b : Result (Unit {0}) F) → a ≡ Ok tt → then a b ≡ b
then_passed a b e = ap (λ x. then x b) e

then_first : {F : Type 0} (a b : Result (Unit {0}) F) → then a b ≡ Ok tt → a ≡ Ok tt
then_first (Ok tt) b e = refl
then_first (Err f) b e = cc

then_second : {F : Type 0} (a b : Result (Unit {0}) F) → then a b ≡ Ok tt → b ≡ Ok tt
then_second (Ok tt) b e = e
then_second (Err f) b e = cc

pub must_true : {F : Type 0} (test : Bool) (fault : F) → must test fault ≡ Ok tt → test ≡ true
must_true true fault e = refl
must_true false fault e = cc

-- one turn of a loop through the checks
pub every_more : {F : Type 0} (check : ℕ → Result (Unit {0}) F) (n : ℕ) → every n check ≡ Ok tt → check n ≡ Ok tt → every (n + 1) check ≡ Ok tt
every_more check n before here = rw add-one (then_passed (every n check) (check n) before ∙ here)

-- the way out of a loop at a check that refuses
pub every_stops : {F : Type 0} (check : ℕ → Result (Unit {0}) F) (fault : F) (n k : ℕ) → k < n → every k check ≡ Ok tt → check k ≡ Err fault → every n check ≡ Err fault
every_stops check fault zero k h before here = absurd (omega arith)
every_stops check fault (suc n) k h before here =
    elim (cases_lt k n) [
      | inl l ↦ ap (λ x. then x (check n)) (every_stops check fault n k l before here)
      | inr g ↦
          let e : k ≡ n = omega arith in
          subst (λ m. every (suc m) check ≡ Err fault) e (then_passed (every k check) (check k) before ∙ here)
    ]

-- each check of a row that has passed has passed
pub every_at : {F : Type 0} (check : ℕ → Result (Unit {0}) F) (n k : ℕ) → k < n → every n check ≡ Ok tt → check k ≡ Ok tt
every_at check zero k h e = absurd (omega arith)
every_at check (suc n) k h e =
    elim (cases_lt k n) [
      | inl l ↦ every_at check n k l (then_first (every n check) (check n) e)
      | inr g ↦ let same : n ≡ k = omega arith in subst (λ m. check m ≡ Ok tt) same (then_second (every n check) (check n) e)
    ]

-- every check of the row passes
abbrev pub Passed : {F : Type 0} → List (Result (Unit {0}) F) → Type 0
Passed [] = Unit {0}
Passed (check ∷ checks) = (check ≡ Ok tt) × Passed checks

pub all_passed : {F : Type 0} (checks : List (Result (Unit {0}) F)) → in_order checks ≡ Ok tt → Passed checks
all_passed [] e = tt
all_passed (check ∷ checks) e = (then_first check (in_order checks) e, all_passed checks (then_second check (in_order checks) e))

pub passed_all : {F : Type 0} (checks : List (Result (Unit {0}) F)) → Passed checks → in_order checks ≡ Ok tt
passed_all [] p = refl
passed_all (check ∷ checks) p = then_passed check (in_order checks) p.0 ∙ passed_all checks p.1

pub must_of : {F : Type 0} (test : Bool) (fault : F) → test ≡ true → must test fault ≡ Ok tt
must_of test fault e = ap (λ b. must b fault) e

-- a row passes where each of its checks does
pub every_of : {F : Type 0} (check : ℕ → Result (Unit {0}) F) (n : ℕ) → ((k : ℕ) → k < n → check k ≡ Ok tt) → every n check ≡ Ok tt
every_of check zero h = refl
every_of check (suc n) h = then_passed (every n check) (check n) (every_of check n (λ k l. h k (omega arith))) ∙ h n (omega arith)

-- two rows of checks that agree say the same
pub every_same : {F : Type 0} (f g : ℕ → Result (Unit {0}) F) (n : ℕ) → ((k : ℕ) → k < n → f k ≡ g k) → every n f ≡ every n g
every_same f g zero same = refl
every_same f g (suc n) same = λ i. then (every_same f g n (λ k h. same k (omega arith)) i) (same n (omega arith) i)

-- two checks that refuse with the same fault are one
both : {F : Type 0} (a b : Bool) (fault : F) → then (must (not a) fault) (must (not b) fault) ≡ must (not (a || b)) fault
both true b fault = refl
both false b fault = refl

-- a row of checks that no element passes the test looks at all elements at once
pub every_none : {X F : Type 0} (test : X → Bool) (xs : List X) (d : X) (fault : F) (n : ℕ) → n ≤ length xs → every n (λ j. must (not (test (get_or xs j d))) fault) ≡ must (not (list_any test (take n xs))) fault
every_none test xs d fault zero h = refl
every_none test xs d fault (suc n) h =
    ap (λ before. then before (must (not (test (get_or xs n d))) fault)) (every_none test xs d fault n (omega arith))
    ∙ both (list_any test (take n xs)) (test (get_or xs n d)) fault
    ∙ ap (λ some. must (not some) fault) (sym (list_any_more test xs n d h) ∙ ap (λ k. list_any test (take k xs)) (add-one n))

-- one turn of a loop through tests
pub all_more : (test : ℕ → Bool) (n : ℕ) → all n test ≡ true → test n ≡ true → all (n + 1) test ≡ true
all_more test n before here = rw add-one (and_from (all n test) (test n) before here)

-- a row of tests holds where each of them does
pub all_of : (test : ℕ → Bool) (n : ℕ) → ((k : ℕ) → k < n → test k ≡ true) → all n test ≡ true
all_of test zero h = refl
all_of test (suc n) h = and_from (all n test) (test n) (all_of test n (λ k l. h k (omega arith))) (h n (omega arith))

-- two rows of tests that agree say the same
pub all_same : (test also : ℕ → Bool) (n : ℕ) → ((k : ℕ) → k < n → test k ≡ also k) → all n test ≡ all n also
all_same test also zero same = refl
all_same test also (suc n) same = (λ i. all_same test also n (λ k h. same k (omega arith)) i && same n (omega arith) i)

-- the way out of a loop at a test that fails
pub all_stops : (test : ℕ → Bool) (n k : ℕ) → k < n → test k ≡ false → all n test ≡ false
all_stops test zero k h here = absurd (omega arith)
all_stops test (suc n) k h here =
    elim (cases_lt k n) [
      | inl l ↦ and_left (all n test) (test n) (all_stops test n k l here)
      | inr g ↦ let e : k ≡ n = omega arith in and_right (all n test) (test n) (subst (λ m. test m ≡ false) e here)
    ]

-- each test of a row that holds holds
pub all_at : (test : ℕ → Bool) (n k : ℕ) → k < n → all n test ≡ true → test k ≡ true
all_at test zero k h e = absurd (omega arith)
all_at test (suc n) k h e =
    let both = and_parts (all n test) (test n) e in
    elim (cases_lt k n) [
      | inl l ↦ all_at test n k l both.0
      | inr g ↦ let same : n ≡ k = omega arith in subst (λ m. test m ≡ true) same both.1
    ]

-- the tests of the numbers from a on, the first one first, are those of a row
pub all_range : (test : ℕ → Bool) (a n : ℕ) → list_all test (range_with_len a n) ≡ all n (λ k. test (a + k))
all_range test a zero = refl
all_range test a (suc n) =
    let here : a ≡ a + 0 = omega arith in
    let later = all_range test (a + 1) n ∙ all_same (λ k. test (a + 1 + k)) (λ k. test (a + (k + 1))) n (λ k h. ap test (omega arith)) in
    (λ i. test (here i) && later i) ∙ shifted (λ k. test (a + k)) n
  where
    last : (b : Bool) → (b && true) ≡ (true && b)
    last true = refl
    last false = refl

    nested : (b c d : Bool) → (b && (c && d)) ≡ ((b && c) && d)
    nested true c d = refl
    nested false c d = refl

    shifted : (fits : ℕ → Bool) (m : ℕ) → (fits 0 && all m (λ k. fits (k + 1))) ≡ all (suc m) fits
    shifted fits zero = last (fits 0)
    shifted fits (suc m) = nested (fits 0) (all m (λ k. fits (k + 1))) (fits (m + 1)) ∙ ap (λ b. b && fits (m + 1)) (shifted fits m) ∙ rw add-one refl
