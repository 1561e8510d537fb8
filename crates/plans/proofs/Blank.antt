-- An array of default values is the same value in each place.
use Rattle.std.proofs.Common.{◌≡◌, ℕ, ◌<◌, List, get_or, replicate, sym, ◌∙◌, subst}
use Rattle.std.proofs.lemmas.List.{same_lists, length-replicate, get_or-replicate}
use Rattle.std.specs.Array.{AllOfLen}

pub blanks : {X : Type 0} (IsDefault : X → Type 0) (empty : X) (xs : List X) (n : ℕ) → ((x : X) → IsDefault x → x ≡ empty) → AllOfLen IsDefault xs n → xs ≡ replicate n empty
blanks IsDefault empty xs n same each =
    same_lists xs (replicate n empty) (each.long ∙ sym (length-replicate n empty))
    (λ k d h. let below : k < n = subst (λ m. k < m) each.long h in same (get_or xs k d) (each.at k d below) ∙ sym (get_or-replicate n k empty d below))
