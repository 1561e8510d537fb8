-- What an array made by calls at each number holds, where the calls leave the closure as it was.
use Rattle.std.proofs.Common.{◌≡◌, ℕ, zero, suc, ◌+◌, ◌<◌, ◌≤◌, List, get_or, ◌∙◌, subst, inl, inr, arith}
use Rattle.std.proofs.lemmas.Bool.{cases_lt}
use Rattle.std.specs.Array.{IsFromFnResultFrom}
use denote.Param.Members.{Mut, Called}

-- each place from i on holds what the closure gives for its number
pub from_fn_gives :
    {F B : Type 0} (g : Mut F (ℕ × Unit {0}) B) (h : ℕ → B) (f p : F) (ys : List B) (i n : ℕ)
    → ((x : ℕ) (y : B) (q : F) → Called g f (x, tt) y q → (q ≡ f) × (y ≡ h x))
    → p ≡ f
    → IsFromFnResultFrom g p ys i n
    → (k : ℕ) (d : B)
    → i ≤ k
    → k < i + n
    → get_or ys k d ≡ h k
from_fn_gives g h f p ys i zero call same each k d from below = absurd (omega arith)
from_fn_gives g h f p ys i (suc n) call same each k d from below =
    let told = call i each.1 each.0 (subst (λ s. Called g s (i, tt) each.1 each.0) same each.3) in
    elim (cases_lt i k) [
      | inl l ↦ from_fn_gives g h f each.0 ys (i + 1) n call told.0 each.4 k d (omega arith) (omega arith)
      | inr e ↦
          let here : i ≡ k = omega arith in
          subst (λ m. get_or ys m d ≡ h m) here (each.2.1 d ∙ told.1)
    ]
