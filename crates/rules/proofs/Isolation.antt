-- Whole lists of calls: the isolation law, from what one call does.
use Rattle.std.proofs.Common.{◌≡◌, ℕ, zero, suc, Bool, true, false, cond, List, [], ◌∷◌, ◌++◌, map, length, get_or, Ok, Err, sym, refl, ap, ◌∙◌, subst, ap₂, inl, inr}
use Rattle.std.proofs.lemmas.Bool.{and_from, and_parts, cases_Bool, not_from_false}
use Rattle.messages.specs.Said.{Said}
use Rattle.messages.specs.declared.call.Call.{Call}
use Rattle.messages.specs.declared.call.Call.TheVariants.{Throughout, Sit}
use Rattle.messages.specs.declared.post.Post.{Post}
use Rattle.rules.specs.Answers.{Answer}
use Rattle.rules.specs.Changes.{Same}
use Rattle.rules.specs.Isolation.{Alike, Apart, BelowTop, Isolation, Ran, Sound, abroad, all_outside, all_within, exchanged, no_answer, no_call, outside, remaining, replies, within}
use Rattle.rules.specs.Numbers.{numbers_checked}
use Rattle.rules.specs.Rows.{Check}
use Rattle.rules.specs.Runs.{answer, answers, end, next}
use Rattle.rules.specs.Promises.{Orderly}
use Rattle.rules.specs.Setup.{Setup, State, new, over}
use Rattle.rules.specs.Views.{about, about_if}
use Rattle.rules.proofs.CallKinds.{Kind, OneBranch, at_branch, at_or_above, at_top, kind_of, nowhere, says, target}
use Rattle.rules.proofs.Locality.{alike_back, alike_on, alike_self, answer_same}
use Rattle.rules.proofs.Steps.{abroad_at, idle_answer, keeps, stays}

-- branch 0 is outside the reach of every branch below the top
top_outside : (w : Setup) → Sound w → (B : ℕ) → BelowTop w B → outside w B 0 ≡ true
top_outside w S B below =
    elim (cases_Bool (over w B 0)) [
      | inl e ↦ absurd (below.1 (S.orderly.branches.antisymmetric B 0 e (S.top B below.0)))
      | inr e ↦ not_from_false (over w B 0) e
    ]

-- a branch in one reach is outside another that shares no branch with it
apart_outside : (w : Setup) (B C : ℕ) → Apart w B C → (t : ℕ) → over w C t ≡ true → outside w B t ≡ true
apart_outside w B C apart t h =
    elim (cases_Bool (over w B t)) [
      | inl e ↦ absurd (apart t e h)
      | inr e ↦ not_from_false (over w B t) e
    ]

apart_back : (w : Setup) (B C : ℕ) → Apart w B C → Apart w C B
apart_back w B C apart t c b = apart t b c

-- and so is branch 0 outside the reach of every branch that is apart from one below the top
top_apart : (w : Setup) → Sound w → (B C : ℕ) → BelowTop w B → Apart w B C → outside w C 0 ≡ true
top_apart w S B C below apart =
    let L = S.orderly.branches in
    elim (cases_Bool (over w C 0)) [
      | inl e ↦ absurd (apart B (L.reflexive B below.0) (L.transitive C 0 B e (S.top B below.0)))
      | inr e ↦ not_from_false (over w C 0) e
    ]

-- states that are alike outside two reaches that share no branch are the same
joined : (w : Setup) (B C : ℕ) → Apart w B C → (s s' : State) → Alike w B s s' → Alike w C s s' → s ≡ s'
joined w B C apart s s' A A' = λ i.
    record {
      posted = λ p r b. at (over w B b) refl (λ h. A.posted p r b h) (λ h. A'.posted p r b h) i;
      enrolled = λ p b. at (over w B b) refl (λ h. A.enrolled p b h) (λ h. A'.enrolled p b h) i;
      closed = λ b. at (over w B b) refl (λ h. A.closed b h) (λ h. A'.closed b h) i;
      permitted = λ o k r. A.permitted o k r i;
    }
  where
    at : {x y : Bool} {b : ℕ} (inside : Bool) → over w B b ≡ inside → (outside w B b ≡ true → x ≡ y) → (outside w C b ≡ true → x ≡ y) → x ≡ y
    at {x} {y} {b} true e by other = other (apart_outside w C B (apart_back w B C apart) b e)
    at {x} {y} {b} false e by other = by (not_from_false (over w B b) e)

module _ (w : Setup) (law : Orderly w) (B : ℕ) (top : outside w B 0 ≡ true) where
  -- the run of a list beside the run of what remains of it: the ends
  end_step : (c : Said) (cs : List Said) (s s' : State) → Alike w B s s' →
      ((u u' : State) → Alike w B u u' → Alike w B (end w u cs) (end w u' (remaining w B cs))) →
      (inside : Bool) → within w B c ≡ inside → Alike w B (end w (next w s c) cs) (end w s' (cond inside (remaining w B cs) (c ∷ remaining w B cs)))
  end_step c cs s s' A rest true h =
      rest (next w s c) s' (alike_on w B (next w s c) s s' (alike_back w B s (next w s c) (stays w law B top s c h)) A)
  end_step c cs s s' A rest false h = rest (next w s c) (next w s' c) (keeps w law B top s s' A c)

  bare_end : (cs : List Said) (s s' : State) → Alike w B s s' → Alike w B (end w s cs) (end w s' (remaining w B cs))
  bare_end [] s s' A = A
  bare_end (c ∷ cs) s s' A = end_step c cs s s' A (bare_end cs) (within w B c) refl

  -- and the answers to calls about branches outside
  answer_step : (c : Said) (cs : List Said) (s s' : State) → Alike w B s s' →
      ((u u' : State) → Alike w B u u' → (n : ℕ) → abroad w B (get_or (remaining w B cs) n no_call) ≡ true →
      get_or (replies w B cs (answers w u cs)) n no_answer ≡ get_or (answers w u' (remaining w B cs)) n no_answer) →
      (inside : Bool) → within w B c ≡ inside → (n : ℕ) →
      abroad w B (get_or (cond inside (remaining w B cs) (c ∷ remaining w B cs)) n no_call) ≡ true →
      get_or (cond inside (replies w B cs (answers w (next w s c) cs)) (answer w s c ∷ replies w B cs (answers w (next w s c) cs))) n no_answer
      ≡ get_or (answers w s' (cond inside (remaining w B cs) (c ∷ remaining w B cs))) n no_answer
  answer_step c cs s s' A rest true h n out =
      rest (next w s c) s' (alike_on w B (next w s c) s s' (alike_back w B s (next w s c) (stays w law B top s c h)) A) n out
  answer_step c cs s s' A rest false h zero out = answer_same w law.branches B s s' A c out
  answer_step c cs s s' A rest false h (suc n) out = rest (next w s c) (next w s' c) (keeps w law B top s s' A c) n out

  bare_answers : (cs : List Said) (s s' : State) → Alike w B s s' → (n : ℕ) → abroad w B (get_or (remaining w B cs) n no_call) ≡ true →
      get_or (replies w B cs (answers w s cs)) n no_answer ≡ get_or (answers w s' (remaining w B cs)) n no_answer
  bare_answers [] s s' A n out = refl
  bare_answers (c ∷ cs) s s' A n out = answer_step c cs s s' A (bare_answers cs) (within w B c) refl n out

  kept_answers : (xs ys : List Said) (s : State) → remaining w B xs ≡ remaining w B ys → (n : ℕ) → abroad w B (get_or (remaining w B xs) n no_call) ≡ true →
      get_or (replies w B xs (answers w s xs)) n no_answer ≡ get_or (replies w B ys (answers w s ys)) n no_answer
  kept_answers xs ys s same n out =
      bare_answers xs s s (alike_self w B s) n out
      ∙ ap (λ cs. get_or (answers w s cs) n no_answer) same
      ∙ sym (bare_answers ys s s (alike_self w B s) n (subst (λ cs. abroad w B (get_or cs n no_call) ≡ true) same out))

  kept_ends : (xs ys : List Said) (s : State) → remaining w B xs ≡ remaining w B ys → Alike w B (end w s xs) (end w s ys)
  kept_ends xs ys s same =
      alike_on w B (end w s xs) (end w s (remaining w B xs)) (end w s ys) (bare_end xs s s (alike_self w B s))
      (subst (λ cs. Alike w B (end w s cs) (end w s ys)) (sym same)
      (alike_back w B (end w s ys) (end w s (remaining w B ys)) (bare_end ys s s (alike_self w B s))))

-- a call of a sitting within C's reach has one answer in states that are alike outside B's
module _ (w : Setup) (law : Orderly w) (B C : ℕ) (apart : Apart w B C) (s s' : State) (A : Alike w B s s') where
  posts_abroad : (posts : List Post) → all_within w C posts ≡ true → all_outside w B (map (λ post. post.branch) posts) ≡ true
  posts_abroad [] h = refl
  posts_abroad (post ∷ posts) h =
      let parts = and_parts (over w C post.branch) (all_within w C posts) h in
      and_from (outside w B post.branch) (all_outside w B (map (λ p. p.branch) posts))
      (apart_outside w B C apart post.branch parts.0) (posts_abroad posts parts.1)

  sit_abroad : (numbers : Check) (posts : List Post) → all_within w C posts ≡ true → all_outside w B (about_if numbers (map (λ post. post.branch) posts)) ≡ true
  sit_abroad (Ok passed) posts h = posts_abroad posts h
  sit_abroad (Err fault) posts h = refl

  one_unmoved : (c : Said) → OneBranch c.call → within w C c ≡ true → answer w s c ≡ answer w s' c
  one_unmoved c one h =
      elim (cases_Bool (over w B (target w c.call))) [
        | inl e ↦
            let out = apart_outside w C B (apart_back w B C apart) (target w c.call) e in
            idle_answer w law C s c one h out ∙ sym (idle_answer w law C s' c one h out)
        | inr e ↦
            answer_same w law.branches B s s' A c
            (abroad_at w law B c.person c.posts c.call one (not_from_false (over w B (target w c.call)) e))
      ]

  unmoved_by : (person : ℕ) (posts : List Post) {call : Call} → Kind call → all_within w C posts ≡ true →
      answer w s (says person posts call) ≡ answer w s' (says person posts call)
  unfolding about
  unmoved_by person posts (at_branch call l one) h = one_unmoved (says person posts call) one h
  unmoved_by person posts (at_or_above p r b) h = one_unmoved (says person posts (Throughout p r b)) tt h
  unmoved_by person posts (at_top call one is) h = one_unmoved (says person posts call) one h
  unmoved_by person posts nowhere h =
      answer_same w law.branches B s s' A (says person posts Sit) (sit_abroad (numbers_checked w (says person posts Sit)) posts h)

  unmoved : (c : Said) → within w C c ≡ true → answer w s c ≡ answer w s' c
  unmoved c h = unmoved_by c.person c.posts (kind_of c.call) h

-- two neighbours exchanged
module _ (w : Setup) (law : Orderly w) (B C : ℕ) (apart : Apart w B C)
    (topB : outside w B 0 ≡ true) (topC : outside w C 0 ≡ true) (x y : Said) (hx : within w B x ≡ true) (hy : within w C y ≡ true) where
  same_state : (s : State) → next w (next w s y) x ≡ next w (next w s x) y
  same_state s =
      let sx = next w s x in
      let sy = next w s y in
      let first = stays w law B topB s x hx in
      let second = stays w law C topC s y hy in
      joined w B C apart (next w sy x) (next w sx y)
      (alike_on w B (next w sy x) sy (next w sx y) (alike_back w B sy (next w sy x) (stays w law B topB sy x hx)) (keeps w law B topB s sx first y))
      (alike_on w C (next w sy x) sx (next w sx y) (alike_back w C sx (next w sy x) (keeps w law C topC s sy second x)) (stays w law C topC sx y hy))

  swapped_answers : (front rest : List Said) (s : State) →
      answers w s (front ++ y ∷ x ∷ rest) ≡ exchanged (length front) (answers w s (front ++ x ∷ y ∷ rest))
  swapped_answers [] rest s =
      ap₂ (λ a b. a ∷ b ∷ answers w (next w (next w s y) x) rest)
      (unmoved w law B C apart s (next w s x) (stays w law B topB s x hx) y hy)
      (sym (unmoved w law C B (apart_back w B C apart) s (next w s y) (stays w law C topC s y hy) x hx))
      ∙ ap (λ u. answer w (next w s x) y ∷ answer w s x ∷ answers w u rest) (same_state s)
  swapped_answers (c ∷ front) rest s = ap (λ us. answer w s c ∷ us) (swapped_answers front rest (next w s c))

  swapped_end : (front rest : List Said) (s : State) → end w s (front ++ y ∷ x ∷ rest) ≡ end w s (front ++ x ∷ y ∷ rest)
  swapped_end [] rest s = ap (λ u. end w u rest) (same_state s)
  swapped_end (c ∷ front) rest s = swapped_end front rest (next w s c)

-- the end of a run, as it was left
ran_alike : (w : Setup) (B : ℕ) (xs : List Said) (us : List Answer) (s : State) → Ran w xs us s → Alike w B s (end w (new w) xs)
ran_alike w B xs us s r =
    record {
      posted = λ p q b h. r.ends.posted p q b;
      enrolled = λ p b h. r.ends.enrolled p b;
      closed = λ b h. r.ends.closed b;
      permitted = λ o k q. r.ends.permitted o k q;
    }

same_ends : (u v s t : State) → Same u s → Same v t → v ≡ u → Same s t
same_ends u v s t S T e =
    record {
      posted = λ x y z. T.posted x y z ∙ ap (λ q. q.posted x y z) e ∙ sym (S.posted x y z);
      enrolled = λ x z. T.enrolled x z ∙ ap (λ q. q.enrolled x z) e ∙ sym (S.enrolled x z);
      closed = λ z. T.closed z ∙ ap (λ q. q.closed z) e ∙ sym (S.closed z);
      permitted = λ x y z. T.permitted x y z ∙ ap (λ q. q.permitted x y z) e ∙ sym (S.permitted x y z);
    }

pub isolation : Isolation
isolation w S B below xs us s rx ys vs t ry =
    let law = S.orderly in
    let top = top_outside w S B below in
    record {
      answers_kept = λ same n h out.
          ap (λ g. get_or (replies w B xs g) n no_answer) rx.gave
          ∙ kept_answers w law B top xs ys (new w) same n out
          ∙ sym (ap (λ g. get_or (replies w B ys g) n no_answer) ry.gave);
      ends_alike = λ same.
          alike_on w B s (end w (new w) xs) t (ran_alike w B xs us s rx)
          (alike_on w B (end w (new w) xs) (end w (new w) ys) t (kept_ends w law B top xs ys (new w) same)
          (alike_back w B t (end w (new w) ys) (ran_alike w B ys vs t ry)));
      exchange = λ C apart front rest x y hx hy ex ey.
          let topC = top_apart w S B C below apart in (
            ry.gave ∙ ap (answers w (new w)) ey ∙ swapped_answers w law B C apart top topC x y hx hy front rest (new w)
                ∙ ap (exchanged (length front)) (sym (ap (answers w (new w)) ex) ∙ sym rx.gave),
            same_ends (end w (new w) xs) (end w (new w) ys) s t rx.ends ry.ends
                (ap (end w (new w)) ey ∙ swapped_end w law B C apart top topC x y hx hy front rest (new w) ∙ sym (ap (end w (new w)) ex)),
          );
    }
