-- One check after the other against its reason: where the check refuses the reason holds, and where it passes it holds of nothing.
use Rattle.std.proofs.Common.{◌≡◌, ℕ, ◌<◌, Bool, true, false, is_some, Some, None, Ok, Err, Decides, Option, [], ◌∷◌, refl, ap, ◌∙◌, arith}
use Rattle.std.specs.Option.{unwrap_or}
use Rattle.std.proofs.lemmas.Bool.{both_ways, false≢true}
use Rattle.std.proofs.lemmas.Bool.Decides.{Decides-like}
use Rattle.refusals.specs.Checks.{in_order, must, then}
use Rattle.search.specs.Searches.{first_below}
use Rattle.search.proofs.Searches.{first_found, first_missed}
use Rattle.rules.specs.Answers.{Answer}
use Rattle.rules.specs.Reasons.{Lacks, Lowest, Refuses, passed, refused}
use Rattle.rules.specs.Rows.{Check, before, refuse_at}
use Rattle.rules.specs.declared.fault.EngineFault.{EngineFault}
use Rattle.rules.proofs.RowFacts.{decides_first}

-- a row in a row is its checks, one after the other
row_inside : (a b : Check) (rest : Answer) → before (then a b) rest ≡ before a (before b rest)
row_inside (Ok done) b rest = refl
row_inside (Err fault) b rest = refl

pub two_inside : (a b : Check) (rest : Answer) → before (in_order (a ∷ b ∷ [])) rest ≡ before a (before b rest)
two_inside a b rest = row_inside a (then b (Ok tt)) rest ∙ ap (λ r. before a r) (row_inside b (Ok tt) rest)

-- a test
pub tested :
    {Reason : ℕ → Type 0} {Rest : Answer → Type 0} (test : Bool) (told : ℕ) (fault : ℕ → EngineFault) (rest : Answer)
    → (test ≡ false → Reason told)
    → (test ≡ true → (other : ℕ) → Reason other → ⊥)
    → (test ≡ true → Rest rest)
    → Refuses Reason fault Rest (before (must test (fault told)) rest)
tested true told fault rest fails holds go = passed (holds refl) (go refl)
tested false told fault rest fails holds go = refused told (fails refl) refl

-- a test of what is wanted
pub wanted :
    {Wanted : Type 0} {Rest : Answer → Type 0} (test : Bool) (told : ℕ) (fault : ℕ → EngineFault) (rest : Answer)
    → Decides test Wanted
    → (Wanted → Rest rest)
    → Refuses (Lacks told Wanted) fault Rest (before (must test (fault told)) rest)
wanted test told fault rest d go =
    tested test told fault rest (λ e. (refl, λ p. both_ways test e (d.1 p))) (λ e other r. r.1 (d.0 e)) (λ e. go (d.0 e))

-- the first number that fits is the lowest of which the test decides that it does
lowest_found :
    (P : ℕ → Type 0) (n : ℕ) (fits : ℕ → Bool) (k : ℕ)
    → ((j : ℕ) → j < n → Decides (fits j) (P j))
    → first_below n fits ≡ Some k
    → Lowest P k
lowest_found P n fits k each e =
    let found = first_found fits n k e in
    record { fits = (each k found.0).0 found.1; none_lower = λ j h p. both_ways (fits j) (found.2 j h) ((each j (omega (arith, found.0))).1 p) }

-- something is found where there is a number of which it holds
pub found_some :
    (P : ℕ → Type 0) (n : ℕ) (fits : ℕ → Bool)
    → ((j : ℕ) → j < n → Decides (fits j) (P j))
    → ((j : ℕ) → P j → j < n)
    → Decides (is_some (first_below n fits)) ((j : ℕ) × P j)
found_some P n fits each inside =
    Decides-like (is_some (first_below n fits)) (λ x. (x.0, x.2)) (λ x. (x.0, inside x.0 x.1, x.1)) (decides_first P n fits each)

-- so it is of the number that an acceptance tells
pub lowest_told :
    (P : ℕ → Type 0) (n : ℕ) (fits : ℕ → Bool)
    → ((j : ℕ) → j < n → Decides (fits j) (P j))
    → is_some (first_below n fits) ≡ true
    → Lowest P (unwrap_or (first_below n fits) 0)
lowest_told P n fits each some = at (first_below n fits) refl some
  where
    at : (found : Option ℕ) → first_below n fits ≡ found → is_some found ≡ true → Lowest P (unwrap_or found 0)
    at (Some k) e s = lowest_found P n fits k each e
    at None e s = absurd (false≢true s)

-- a search for what refuses
pub searched :
    {Rest : Answer → Type 0} (P : ℕ → Type 0) (n : ℕ) (fits : ℕ → Bool) (fault : ℕ → EngineFault) (rest : Answer)
    → ((j : ℕ) → j < n → Decides (fits j) (P j))
    → ((j : ℕ) → P j → j < n)
    → (((j : ℕ) → P j → ⊥) → Rest rest)
    → Refuses (Lowest P) fault Rest (before (refuse_at fault (first_below n fits)) rest)
searched {Rest = Rest} P n fits fault rest each inside go = at (first_below n fits) refl
  where
    at : (found : Option ℕ) → first_below n fits ≡ found → Refuses (Lowest P) fault Rest (before (refuse_at fault found) rest)
    at (Some k) e = refused k (lowest_found P n fits k each e) refl
    at None e =
        let none : (j : ℕ) → P j → ⊥ = λ j p. both_ways (fits j) (first_missed fits n e j (inside j p)) ((each j (inside j p)).1 p) in
        passed (λ other l. none other l.fits) (go none)
