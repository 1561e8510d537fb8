-- Posts that are apart: one more that is new keeps them apart, and they are apart exactly when they pass the check that they are.
use Rattle.std.proofs.Common.{◌≡◌, ℕ, ◌<◌, ◌≤◌, false, not, List, [], ◌∷◌, ◌++◌, length, get_or, take, Ok, sym, ap, ◌∙◌, subst, inl, inr, arith, length-append}
use Rattle.std.proofs.lemmas.List.{get_or_append_left, get_or_at, get_or-take, length-take, length-take-le}
use Rattle.std.proofs.lemmas.Bool.{cases_lt, le-leb, and_from, not-true}
use Rattle.refusals.specs.Checks.{must}
use Rattle.refusals.proofs.Rows.{every_at, every_of, must_of, must_true, passed_all}
use Rattle.fields.specs.declared.fault.FieldFault.TheVariants.{Value}
use Rattle.messages.specs.Apart.{differs, new_post, new_at, apart_posts}
use Rattle.messages.specs.Numbers.{within}
use Rattle.messages.specs.Posts.{no_post, same_post, Apart}
use Rattle.messages.specs.declared.fault.MessageFault.TheVariants.{Field}
use Rattle.messages.specs.declared.post.Post.{Post}
use Rattle.drafts.specs.Steps.{seat_result}

-- one more post that none of them is
pub apart_more : (posts : List Post) (post : Post) → Apart posts (length posts) → new_post posts post ≡ Ok tt → Apart (posts ++ post ∷ []) (length (posts ++ post ∷ []))
apart_more posts post apart new i j h =
    let size = length-append posts (post ∷ []) in
    let before : get_or (posts ++ post ∷ []) i no_post ≡ get_or posts i no_post = get_or_append_left posts (post ∷ []) no_post i (omega arith) in
    elim (cases_lt j (length posts)) [
      | inl l ↦ (λ k. same_post (before k) (get_or_append_left posts (post ∷ []) no_post j l k)) ∙ apart i j (h.0, l)
      | inr g ↦
          let is : length posts ≡ j = omega arith in
          (λ k. same_post (before k) (get_or_at posts post [] no_post j is k)) ∙ not-true _ (must_true _ _ (every_at (differs posts post) (length posts) i (omega arith) new))
    ]

-- among the first posts, a later one is not an earlier one
first_differ : (posts : List Post) (count : ℕ) → Apart posts count → (j i : ℕ) → j < count → i < j → differs (take j (take count posts)) (get_or (take count posts) j no_post) i ≡ Ok tt
first_differ posts count apart j i h l =
    let earlier = get_or-take j (take count posts) i no_post l ∙ get_or-take count posts i no_post (omega arith) in
    let later = get_or-take count posts j no_post h in
    must_of _ _ (ap not ((λ k. same_post (earlier k) (later k)) ∙ apart i j (l, h)))

-- the first posts of a sitting pass
pub seated : (posts : List Post) (count : ℕ) → 0 < count → count ≤ 4 → count ≤ length posts → Apart posts count → seat_result (length (take count posts)) (take count posts) ≡ Ok tt
seated posts count some few all apart =
    let first = take count posts in
    let size : length first ≡ count = length-take-le count posts all in
    let number = and_from _ _ (le-leb 1 (length first) (omega arith)) (le-leb (length first) 4 (omega arith)) in
    let new = λ (j : ℕ) (h : j < length first). every_of (differs (take j first) (get_or first j no_post)) (length (take j first)) (λ i l. first_differ posts count apart j i (omega arith) (omega (arith, length-take j first))) in
    passed_all (must (within 1 (length first) 4) (Field (Value 5)) ∷ apart_posts first ∷ []) (must_of _ _ number, (every_of (new_at first) (length first) new, tt))

-- among posts that pass, an earlier one is not a later one
earlier_differs : (posts : List Post) → apart_posts posts ≡ Ok tt → (i j : ℕ) → i < j → j < length posts → same_post (get_or posts i no_post) (get_or posts j no_post) ≡ false
earlier_differs posts passed i j h l =
    let new = every_at (new_at posts) (length posts) j l passed in
    let size : length (take j posts) ≡ j = length-take-le j posts (omega arith) in
    let differ = every_at (differs (take j posts) (get_or posts j no_post)) (length (take j posts)) i (omega arith) new in
    subst (λ post. same_post post (get_or posts j no_post) ≡ false) (get_or-take j posts i no_post h) (not-true _ (must_true _ _ differ))

-- the first posts pass
pub first_apart : (posts : List Post) (count : ℕ) → count ≤ length posts → apart_posts (take count posts) ≡ Ok tt → Apart posts count
first_apart posts count few passed i j h =
    let size : length (take count posts) ≡ count = length-take-le count posts few in
    rw (sym (get_or-take count posts i no_post (omega arith)), sym (get_or-take count posts j no_post h.1))
    (earlier_differs (take count posts) passed i j h.0 (omega arith))
