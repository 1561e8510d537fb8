-- A draft that was begun and added to stays one with each further post.
use Rattle.std.proofs.Common.{◌≡◌, List, [], ◌∷◌, ◌++◌, length, Ok, sym, ◌∙◌, subst, inl, inr, arith, length-append}
use Rattle.std.proofs.lemmas.List.{take-append-le, take_at, get_or_append_left, get_or_at}
use Rattle.std.proofs.lemmas.Bool.{cases_lt}
use Rattle.refusals.specs.Checks.{every}
use Rattle.refusals.proofs.Rows.{every_at, every_of}
use Rattle.messages.specs.Posts.{no_post}
use Rattle.messages.specs.declared.post.Post.{Post}
use Rattle.drafts.specs.Begun.{Begun, Grown, added_at}
use Rattle.drafts.specs.Drafts.{GoesOn}
use Rattle.drafts.specs.Posts.{add_result}
use Rattle.drafts.specs.Steps.{begin_result}
use Rattle.drafts.specs.declared.draft.Draft.{Draft}

-- one more post that may be added
added_more : (posts : List Post) (post : Post) → every (length posts) (added_at posts) ≡ Ok tt → add_result posts post ≡ Ok tt → every (length (posts ++ post ∷ [])) (added_at (posts ++ post ∷ [])) ≡ Ok tt
added_more posts post added here =
    let all = posts ++ post ∷ [] in
    let size = length-append posts (post ∷ []) in
    every_of (added_at all) (length all)
    (λ k h. elim (cases_lt k (length posts)) [
      | inl l ↦
          let before = take-append-le k posts (post ∷ []) (omega arith) in
          let at = get_or_append_left posts (post ∷ []) no_post k l in
          (λ i. add_result (before i) (at i)) ∙ every_at (added_at posts) (length posts) k l added
      | inr g ↦
          let is : length posts ≡ k = omega arith in
          let before = take_at posts (post ∷ []) k is in
          let at = get_or_at posts post [] no_post k is in
          (λ i. add_result (before i) (at i)) ∙ here
    ])

-- a draft that goes on with one more post
pub more_begun : {S : Type 0} (draft : Draft S) (next : Draft (List Post)) (posts : List Post) (post : Post) → GoesOn draft next → next.state ≡ posts ++ post ∷ [] → add_result posts post ≡ Ok tt → Grown draft posts → Begun next
more_begun draft next posts post on held here grown =
    record {
      grown = record {
        begun = (λ i. begin_result (length (on.memory i).now) (on.person i)) ∙ grown.begun;
        added = subst (λ posts. every (length posts) (added_at posts) ≡ Ok tt) (sym held) (added_more posts post grown.added here);
      };
      some = rw held (omega (arith, length-append posts (post ∷ [])));
    }
