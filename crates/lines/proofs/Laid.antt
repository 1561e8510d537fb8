-- Texts laid one behind another over the start of a memory make one text there.
use Rattle.std.proofs.Common.{◌≡◌, ℕ, ◌+◌, List, ◌++◌, length, take, drop, sym, ap, ◌∙◌, length-append, drop-drop}
use lib.Seq.{paste, take-append_seam, take-length, drop-append-add}

-- the text p stands at the start of the memory, and the bytes behind it are those of xs
abbrev pub over : List ℕ → List ℕ → List ℕ
over p xs = p ++ drop (length p) xs

-- a text laid where p ends stands behind p
pub behind : (p t xs : List ℕ) → paste (over p xs) (length p) t (length t) ≡ over (p ++ t) xs
behind p t xs =
    ap (λ s. s ++ take (length t) t ++ drop (length p + length t) (over p xs)) (take-append_seam p (drop (length p) xs))
    ∙ ap (λ s. p ++ s ++ drop (length p + length t) (over p xs)) (take-length t)
    ∙ ap (λ s. p ++ t ++ s) (drop-append-add p (drop (length p) xs) (length t) ∙ drop-drop (length t) (length p) xs ∙ ap (λ n. drop n xs) (sym (length-append p t)))

-- the text p has been laid over xs: where it ends, and what the memory holds now
pub record Laid (p xs : List ℕ) (end : ℕ) (now : List ℕ) : Type 0 where
  pub ends : end ≡ length p
  pub bytes : now ≡ over p xs

-- a text laid at the end of p is laid behind it
pub further : {p xs now after : List ℕ} {at end : ℕ} (t : List ℕ) → Laid p xs at now → end ≡ at + length t → after ≡ paste now at t (length t) → Laid (p ++ t) xs end after
further {p} {xs} t l e h =
    record {
      ends = e ∙ ap (λ n. n + length t) l.ends ∙ sym (length-append p t);
      bytes = h ∙ (λ i. paste (l.bytes i) (l.ends i) t (length t)) ∙ behind p t xs;
    }
