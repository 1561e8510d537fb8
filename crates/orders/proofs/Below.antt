-- The library's `all` over the numbers below n.
use Rattle.std.proofs.Common.{◌≡◌, ℕ, ◌+◌, Bool, true, false, List, Option, refl, ap, ◌∙◌, arith}
use Rattle.std.proofs.lemmas.Iterator.{YieldsList-from_range}
use Rattle.std.proofs.lemmas.Iterator.Search.{all_from_yields_List}
use Rattle.std.specs.declared.ops.Range.{Range}
use Rattle.std.specs.Iterator.{YieldsThen}
use Rattle.std.proofs.iter.Yields.{nat_range_steps}
use Rattle.std.specs.List.{FoldsTo}
use Rattle.std.specs.Option.{MatchOption}
use denote.Param.Members.{Mut, Called}
use Rattle.refusals.proofs.Rows.{all_range, all_same}
use Rattle.refusals.specs.Checks.{all}

-- what it says, with a closure that computes a test
pub all_below : {F : Type 0} {g : Mut F (ℕ × Unit {0}) Bool} {u : Range ℕ} (test : ℕ → Bool) (n : ℕ) (f : F) (r : Bool)
    → (xs : List ℕ) × (o : Option ℕ) × (j : F) × YieldsThen nat_range_steps (record { start = 0; end = n }) xs o u × FoldsTo (λ p x q. Called g p (x, tt) true q) f xs j × MatchOption o (r ≡ true) (λ x. (r ≡ false) × ((h : F) × Called g j (x, tt) false h))
    → ((x : ℕ) (b : Bool) (q : F) → Called g f (x, tt) b q → (q ≡ f) × (b ≡ test x))
    → r ≡ all n test
all_below test n f r ran computes =
    all_from_yields_List test _ f r ran (YieldsList-from_range 0 n n refl (omega arith)) computes
    ∙ all_range test 0 n
    ∙ all_same (λ k. test (0 + k)) test n (λ k h. ap test (omega arith))
