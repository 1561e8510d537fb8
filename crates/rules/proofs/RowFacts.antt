-- What rows of checks and searches decide, from what their parts decide.
use Rattle.std.proofs.Common.{◌≡◌, ℕ, zero, suc, ◌<◌, Bool, true, false, cond, not, ◌&&◌, ◌||◌, ltb, [], ◌∷◌, is_some, is_ok, Some, None, Ok, Err, Decides, Option, Result, sym, refl, subst, inl, inr, arith}
use Rattle.std.proofs.lemmas.Bool.{and_from, cases_lt, false≢true, lt-ltb, ltb-true}
use Rattle.std.proofs.lemmas.Bool.Decides.{Decides-at, Decides-like}
use Rattle.refusals.specs.Checks.{all, in_order, must, then}
use Rattle.refusals.proofs.Rows.{all_at}
use Rattle.registers.specs.declared.fault.RegisterFault.{RegisterFault}
use Rattle.search.specs.Searches.{any_below, first_below, sum_below}
use Rattle.search.proofs.Searches.{any_at, any_some, first_any}
use Rattle.rules.specs.Answers.{Answer}
use Rattle.rules.specs.Rows.{Check, before, by_register, refuse_at}
use Rattle.rules.specs.declared.fault.EngineFault.{EngineFault}

-- what stands behind a test is looked at only where the test holds
pub guarded : (test a b : Bool) → (test ≡ true → a ≡ b) → (test && a) ≡ (test && b)
guarded true a b same = same refl
guarded false a b same = refl

pub chosen : {A : Type 0} (test : Bool) (x y z : A) → (test ≡ true → x ≡ y) → cond test x z ≡ cond test y z
chosen true x y z same = same refl
chosen false x y z same = refl

-- a test decides that it is true
pub decides_self : (r : Bool) → Decides r (r ≡ true)
decides_self r = (λ e. e, λ e. e)

-- a test that fails decides what is false
pub decides_never : {P : Type 0} (r : Bool) → (r ≡ true → ⊥) → (P → ⊥) → Decides r P
decides_never r fails none = (λ e. absurd (fails e), λ p. absurd (none p))

-- the negation of a test decides that it is false
pub decides_false : (r : Bool) → Decides (not r) (r ≡ false)
decides_false true = (λ e. absurd (false≢true e), λ e. absurd (false≢true (sym e)))
decides_false false = (λ e. refl, λ e. refl)

-- a test that is asked only where another holds
pub decides_implies : {Q : Type 0} (a b : Bool) → Decides b Q → Decides (not a || b) (a ≡ true → Q)
decides_implies true b d = (λ e h. d.0 e, λ f. d.1 (f refl))
decides_implies false b d = (λ e h. absurd (false≢true h), λ f. refl)

-- the second of two tests may rely on the first
pub decides_and_then : {P Q : Type 0} (x y : Bool) → Decides x P → (P → Decides y Q) → Decides (x && y) (P × Q)
decides_and_then true y p q = (λ e. let x = p.0 refl in (x, (q x).0 e), λ x. (q x.0).1 x.1)
decides_and_then false y p q = (λ e. absurd (false≢true e), λ x. p.1 x.0)

-- some number below n, and every number below n
pub decides_any :
    (P : ℕ → Type 0) (n : ℕ) (fits : ℕ → Bool)
    → ((k : ℕ) → k < n → Decides (fits k) (P k))
    → Decides (any_below n fits) ((k : ℕ) × (k < n) × P k)
decides_any P n fits each =
    (λ e. let r = any_some fits n e in (r.0, r.1, (each r.0 r.1).0 r.2), λ p. any_at fits n p.0 p.1 ((each p.0 p.1).1 p.2))

pub decides_first :
    (P : ℕ → Type 0) (n : ℕ) (fits : ℕ → Bool)
    → ((k : ℕ) → k < n → Decides (fits k) (P k))
    → Decides (is_some (first_below n fits)) ((k : ℕ) × (k < n) × P k)
decides_first P n fits each = Decides-at (is_some (first_below n fits)) (any_below n fits) (first_any fits n) (decides_any P n fits each)

-- a sum that is not 0 has an amount that is not
some_amount : (amount : ℕ → ℕ) (n : ℕ) → 0 < sum_below n amount → (k : ℕ) × (k < n) × (0 < amount k)
unfolding sum_below
some_amount amount zero h = absurd (omega arith)
some_amount amount (suc n) h =
    elim (cases_lt 0 (amount n)) [
      | inl l ↦ (n, omega arith, l)
      | inr g ↦ let r = some_amount amount n (omega arith) in (r.0, omega (arith, r.1), r.2)
    ]

amount_counts : (amount : ℕ → ℕ) (n k : ℕ) → k < n → 0 < amount k → 0 < sum_below n amount
unfolding sum_below
amount_counts amount zero k h some = absurd (omega arith)
amount_counts amount (suc n) k h some =
    elim (cases_lt k n) [
      | inl l ↦ omega (arith, amount_counts amount n k l some)
      | inr g ↦ let same : k ≡ n = omega arith in let here : 0 < amount n = subst (λ m. 0 < amount m) same some in omega arith
    ]

pub decides_sum :
    (P : ℕ → Type 0) (n : ℕ) (amount : ℕ → ℕ)
    → ((k : ℕ) → k < n → Decides (ltb 0 (amount k)) (P k))
    → Decides (ltb 0 (sum_below n amount)) ((k : ℕ) × (k < n) × P k)
decides_sum P n amount each = (
  λ e.
      let r = some_amount amount n (ltb-true 0 (sum_below n amount) e) in
      (r.0, r.1, (each r.0 r.1).0 (lt-ltb 0 (amount r.0) r.2)),
  λ p.
      lt-ltb 0 (sum_below n amount) (amount_counts amount n p.0 p.1 (ltb-true 0 (amount p.0) ((each p.0 p.1).1 p.2))),
)

pub decides_one : {P : Type 0} (test : Bool) → Decides test P → Decides (ltb 0 (cond test 1 0)) P
decides_one true d = d
decides_one false d = d

all_of : (test : ℕ → Bool) (n : ℕ) → ((k : ℕ) → k < n → test k ≡ true) → all n test ≡ true
all_of test zero each = refl
all_of test (suc n) each = and_from (all n test) (test n) (all_of test n (λ k h. each k (omega arith))) (each n (omega arith))

pub decides_all : (P : ℕ → Type 0) (n : ℕ) (test : ℕ → Bool) → ((k : ℕ) → Decides (test k) (P k)) → Decides (all n test) ((k : ℕ) → k < n → P k)
decides_all P n test each = (λ e k h. (each k).0 (all_at test n k h e), λ f. all_of test n (λ k h. (each k).1 (f k h)))

-- one check
pub decides_must : {F P : Type 0} (test : Bool) (fault : F) → Decides test P → Decides (is_ok (must test fault)) P
decides_must true fault d = d
decides_must false fault d = d

pub decides_refuse : {P : Type 0} (fault : ℕ → EngineFault) (found : Option ℕ) → Decides (not (is_some found)) P → Decides (is_ok (refuse_at fault found)) P
decides_refuse fault None d = d
decides_refuse fault (Some k) d = d

pub decides_register : {P : Type 0} (r : Result (Unit {0}) RegisterFault) → Decides (is_ok r) P → Decides (is_ok (by_register r)) P
decides_register (Ok passed) d = d
decides_register (Err fault) d = d

-- a row of checks: none, and one more before the others
pub decides_none : Decides true (Unit {0})
decides_none = (λ e. tt, λ u. refl)

pub decides_then : {F P Q : Type 0} (a b : Result (Unit {0}) F) → Decides (is_ok a) P → Decides (is_ok b) Q → Decides (is_ok (then a b)) (P × Q)
decides_then (Ok passed) b p q = (λ e. (p.0 refl, q.0 e), λ x. q.1 x.1)
decides_then (Err fault) b p q = (λ e. absurd (false≢true e), λ x. p.1 x.0)

-- one test before the others of a row
pub test_first :
    {F P : Type 0} (test : Bool) (fault : F) (rest : Result (Unit {0}) F)
    → Decides (is_ok rest) P
    → Decides (is_ok (then (must test fault) rest)) ((test ≡ true) × P)
test_first test fault rest d = decides_then (must test fault) rest (decides_must test fault (decides_self test)) d

-- three tests, two and one
pub three_tests :
    {F : Type 0} (a b c : Bool) (f g h : F) → Decides (is_ok (in_order (must a f ∷ must b g ∷ must c h ∷ []))) ((a ≡ true) × (b ≡ true) × (c ≡ true))
three_tests a b c f g h =
    Decides-like (is_ok (in_order (must a f ∷ must b g ∷ must c h ∷ []))) (λ x. (x.0, x.1.0, x.1.1.0)) (λ x. (x.0, (x.1, (x.2, tt))))
    (test_first a f _ (test_first b g _ (test_first c h (Ok tt) decides_none)))

pub two_tests : {F : Type 0} (a b : Bool) (f g : F) → Decides (is_ok (in_order (must a f ∷ must b g ∷ []))) ((a ≡ true) × (b ≡ true))
two_tests a b f g =
    Decides-like (is_ok (in_order (must a f ∷ must b g ∷ []))) (λ x. (x.0, x.1.0)) (λ x. (x.0, (x.1, tt)))
    (test_first a f _ (test_first b g (Ok tt) decides_none))

pub one_test : {F : Type 0} (a : Bool) (f : F) → Decides (is_ok (in_order (must a f ∷ []))) (a ≡ true)
one_test a f = Decides-like (is_ok (in_order (must a f ∷ []))) (λ x. x.0) (λ x. (x, tt)) (test_first a f (Ok tt) decides_none)

-- the checks behind one that passed may rely on it
pub decides_before :
    {P Q : Type 0} (check : Check) (a : Answer)
    → Decides (is_ok check) P
    → (P → Decides (is_ok a) Q)
    → Decides (is_ok (before check a)) (P × Q)
decides_before (Ok passed) a p q = (λ e. let x = p.0 refl in (x, (q x).0 e), λ x. (q x.0).1 x.1)
decides_before (Err fault) a p q = (λ e. absurd (false≢true e), λ x. p.1 x.0)

-- the first check of a row that passes has passed
pub first_passed : (check : Check) (a : Answer) → is_ok (before check a) ≡ true → is_ok check ≡ true
first_passed (Ok passed) a e = refl
first_passed (Err fault) a e = absurd (false≢true e)
