-- What a check of a number against a limit, and then of a row, says.
use Rattle.std.specs.Prelude.{◌≡◌, ℕ, ◌≤◌, Bool, true, false, is_ok, Ok, Err, Result, nat_le, refl}
use Rattle.std.proofs.Common.{ap}
use Rattle.std.proofs.lemmas.Bool.{le-leb, leb-true}
use Rattle.refusals.specs.Checks.{must, then}

both : {F : Type 0} (test : Bool) (fault : F) (row : Result (Unit {0}) F) → is_ok (then (must test fault) row) ≡ true → (test ≡ true) × (row ≡ Ok tt)
both true fault (Ok tt) e = (refl, refl)
both true fault (Err f) e = cc
both false fault row e = cc

-- where both passed, the limit was met, and the row passed
pub limit_passed : {F : Type 0} (n most : ℕ) (fault : F) (row : Result (Unit {0}) F) → is_ok (then (must (nat_le n most) fault) row) ≡ true → (n ≤ most) × (row ≡ Ok tt)
limit_passed n most fault row e = let passed = both (nat_le n most) fault row e in (leb-true n most passed.0, passed.1)

-- within the limit the row decides
pub limit_met : {F : Type 0} (n most : ℕ) (fault : F) (row : Result (Unit {0}) F) → n ≤ most → then (must (nat_le n most) fault) row ≡ row
limit_met n most fault row h = ap (λ t. then (must t fault) row) (le-leb n most h)
