-- One call: of a sitting within a reach it leaves all outside alone; of any sitting it keeps two states alike outside.
use Rattle.std.proofs.Common.{◌≡◌, ℕ, Bool, true, false, cond, not, ◌&&◌, eqb, List, [], ◌∷◌, is_ok, Ok, Err, sym, refl, ap, ◌∙◌, subst, inl, inr}
use Rattle.std.proofs.lemmas.Bool.{and_from, both_ways, cases_Bool, not_from_false, not-true}
use Rattle.messages.specs.Said.{Said}
use Rattle.messages.specs.declared.call.Call.{Call}
use Rattle.messages.specs.declared.call.Call.TheVariants.{Decide, Grant, Take, Throughout, Enrol, Strike, Open, Close, Permit, Forbid, Sit}
use Rattle.messages.specs.declared.post.Post.{Post}
use Rattle.rules.specs.Answers.{Answer}
use Rattle.rules.specs.Choices.{takes}
use Rattle.rules.specs.Isolation.{Alike, abroad, all_outside, all_within, outside, within}
use Rattle.rules.specs.Numbers.{numbers_checked}
use Rattle.rules.specs.Rows.{Check, before}
use Rattle.rules.specs.Runs.{after, answer, changed, next}
use Rattle.rules.specs.Promises.{Orderly}
use Rattle.rules.specs.Setup.{Setup, State, home_of, is_branch, over}
use Rattle.rules.specs.Views.{about, about_if, sight}
use Rattle.rules.specs.Words.{post_at}
use Rattle.rules.proofs.Effects.{refused_after}
use Rattle.rules.proofs.Idle.{before_refuses, post_within, silent, turned, unseen}
use Rattle.rules.proofs.Locality.{alike_back, alike_on, alike_self, answer_same}
use Rattle.rules.proofs.Throughout.{taken_so, takes_accepted}
use Rattle.rules.proofs.CallKinds.{Kind, Local, OneBranch, at_branch, at_or_above, at_top, clears, kind_of, nowhere, says, target}
use Rattle.rules.proofs.Changed.{after_alike, after_inside, changed_alike}

module _ (w : Setup) (law : Orderly w) (B : ℕ) where
  -- a call about branches outside has one answer, and so makes one change
  keeps_abroad : (s s' : State) → Alike w B s s' → (c : Said) → abroad w B c ≡ true → Alike w B (next w s c) (next w s' c)
  unfolding next
  keeps_abroad s s' A c h =
      subst (λ a. Alike w B (after w s c (answer w s c)) (after w s' c a)) (answer_same w law.branches B s s' A c h) (after_alike w law B s s' A c (answer w s c))

  -- a call about one branch is about branches outside where that is
  abroad_one : (numbers : Check) (t : ℕ) → outside w B t ≡ true → all_outside w B (about_if numbers (t ∷ [])) ≡ true
  abroad_one (Ok passed) t h = and_from (outside w B t) true h refl
  abroad_one (Err fault) t h = refl

  abroad_home : (numbers : Check) (exists : Bool) (t : ℕ) → outside w B t ≡ true → all_outside w B (about_if numbers (cond exists (t ∷ []) [])) ≡ true
  abroad_home numbers true t h = abroad_one numbers t h
  abroad_home (Ok passed) false t h = refl
  abroad_home (Err fault) false t h = refl

  pub abroad_at : (person : ℕ) (posts : List Post) (call : Call) → OneBranch call → outside w B (target w call) ≡ true → abroad w B (says person posts call) ≡ true
  unfolding about
  abroad_at person posts (Decide o p) one h = abroad_home (numbers_checked w (says person posts (Decide o p))) (is_branch w (home_of w p)) (home_of w p) h
  abroad_at person posts (Grant p r b) one h = abroad_one (numbers_checked w (says person posts (Grant p r b))) b h
  abroad_at person posts (Take p r b) one h = abroad_one (numbers_checked w (says person posts (Take p r b))) b h
  abroad_at person posts (Throughout p r b) one h = abroad_one (numbers_checked w (says person posts (Throughout p r b))) b h
  abroad_at person posts (Enrol p b) one h = abroad_one (numbers_checked w (says person posts (Enrol p b))) b h
  abroad_at person posts (Strike p b) one h = abroad_one (numbers_checked w (says person posts (Strike p b))) b h
  abroad_at person posts (Open b) one h = abroad_one (numbers_checked w (says person posts (Open b))) b h
  abroad_at person posts (Close b) one h = abroad_one (numbers_checked w (says person posts (Close b))) b h
  abroad_at person posts (Permit o k r) one h = abroad_one (numbers_checked w (says person posts (Permit o k r))) 0 h
  abroad_at person posts (Forbid o k r) one h = abroad_one (numbers_checked w (says person posts (Forbid o k r))) 0 h
  abroad_at person posts Sit one h = absurd one

  -- a local call keeps the likeness: its branch is in the reach, and nothing is to be seen outside, or it has one answer
  keeps_local : (s s' : State) → Alike w B s s' → (c : Said) → Local c.call → OneBranch c.call → Alike w B (next w s c) (next w s' c)
  unfolding next
  keeps_local s s' A c l one =
      elim (cases_Bool (over w B (target w c.call))) [
        | inl e ↦
            alike_on w B (after w s c (answer w s c)) s (after w s' c (answer w s' c))
            (alike_back w B s (after w s c (answer w s c)) (after_inside w law B s c (answer w s c) l e))
            (alike_on w B s s' (after w s' c (answer w s' c)) A (after_inside w law B s' c (answer w s' c) l e))
        | inr e ↦ keeps_abroad s s' A c (abroad_at c.person c.posts c.call one (not_from_false (over w B (target w c.call)) e))
      ]

  -- sit changes nothing
  after_sit : (s : State) (person : ℕ) (posts : List Post) (a : Answer) → after w s (says person posts Sit) a ≡ s
  after_sit s person posts (Ok accepted) = refl
  after_sit s person posts (Err fault) = refl

  -- a sitting within the reach is refused about a branch outside, and so changes nothing
  pub idle_answer : (s : State) (c : Said) → OneBranch c.call → within w B c ≡ true → outside w B (target w c.call) ≡ true →
      answer w s c ≡ before (numbers_checked w c) (silent w c.call)
  unfolding answer
  idle_answer s c one inside out =
      ap (before (numbers_checked w c)) (turned w c c.call (sight w s c) one (unseen w law B s c inside (target w c.call) out))

  stays_idle : (s : State) (c : Said) → OneBranch c.call → within w B c ≡ true → outside w B (target w c.call) ≡ true → Alike w B s (next w s c)
  unfolding next
  stays_idle s c one inside out =
      let no' : is_ok (answer w s c) ≡ false = ap is_ok (idle_answer s c one inside out) ∙ before_refuses (numbers_checked w c) w c.call one in
      subst (λ u. Alike w B s u) (sym (refused_after w s c (answer w s c) no')) (alike_self w B s)

  stays_local : (s : State) (c : Said) → Local c.call → OneBranch c.call → within w B c ≡ true → Alike w B s (next w s c)
  unfolding next
  stays_local s c l one inside =
      elim (cases_Bool (over w B (target w c.call))) [
        | inl e ↦ after_inside w law B s c (answer w s c) l e
        | inr e ↦ stays_idle s c one inside (not_from_false (over w B (target w c.call)) e)
      ]

  -- a sitting within the reach takes nothing outside
  takes_inside : (s : State) (person : ℕ) (posts : List Post) (p r b o q : ℕ) → all_within w B posts ≡ true → outside w B o ≡ true →
      takes w (clears person posts p r b) (sight w s (clears person posts p r b)) p r b o q ≡ false
  takes_inside s person posts p r b o q inside out =
      let c = clears person posts p r b in
      elim (cases_Bool (takes w c (sight w s c) p r b o q)) [
        | inl e ↦
            let served = (taken_so w law s person p r b posts o q e).served in
            absurd (both_ways (over w B o) (not-true (over w B o) out)
            (law.branches.transitive B (post_at posts served.place).branch o
            (post_within w B posts served.place inside served.candidate.sits) served.candidate.higher))
        | inr e ↦ e
      ]

  after_throughout : (s : State) (person : ℕ) (posts : List Post) (p r b : ℕ) (a : Answer) → all_within w B posts ≡ true →
      Alike w B s (after w s (clears person posts p r b) a)
  after_throughout s person posts p r b (Ok accepted) inside =
      record {
        posted = λ x y z h. sym (ap (λ t. not (t && eqb x p) && s.posted x y z) (takes_inside s person posts p r b z y inside h));
        enrolled = λ x z h. refl;
        closed = λ z h. refl;
        permitted = λ x y z. refl;
      }
  after_throughout s person posts p r b (Err fault) inside = alike_self w B s

  -- a throughout that is refused would take nothing: so it always leaves the state without what it takes
  none_taken : (s : State) (person : ℕ) (posts : List Post) (p r b o q : ℕ) → is_ok (answer w s (clears person posts p r b)) ≡ false →
      takes w (clears person posts p r b) (sight w s (clears person posts p r b)) p r b o q ≡ false
  none_taken s person posts p r b o q refused =
      let c = clears person posts p r b in
      elim (cases_Bool (takes w c (sight w s c) p r b o q)) [
        | inl t ↦ absurd (both_ways (is_ok (answer w s c)) refused (takes_accepted w law s person p r b posts o q t))
        | inr t ↦ t
      ]

  throughout_leaves : (s : State) (person : ℕ) (posts : List Post) (p r b : ℕ) (a : Answer) → answer w s (clears person posts p r b) ≡ a →
      Alike w B (changed w s (clears person posts p r b) (Throughout p r b)) (after w s (clears person posts p r b) a)
  throughout_leaves s person posts p r b (Ok accepted) e = alike_self w B (changed w s (clears person posts p r b) (Throughout p r b))
  throughout_leaves s person posts p r b (Err fault) e =
      record {
        posted = λ x y z h. ap (λ t. not (t && eqb x p) && s.posted x y z) (none_taken s person posts p r b z y (ap is_ok e));
        enrolled = λ x z h. refl;
        closed = λ z h. refl;
        permitted = λ x y z. refl;
      }

  keeps_throughout : (s s' : State) → Alike w B s s' → (person : ℕ) (posts : List Post) (p r b : ℕ) →
      Alike w B (next w s (clears person posts p r b)) (next w s' (clears person posts p r b))
  unfolding next
  keeps_throughout s s' A person posts p r b =
      let c = clears person posts p r b in
      let call = Throughout p r b in
      alike_on w B (after w s c (answer w s c)) (changed w s c call) (after w s' c (answer w s' c))
      (alike_back w B (changed w s c call) (after w s c (answer w s c)) (throughout_leaves s person posts p r b (answer w s c) refl))
      (alike_on w B (changed w s c call) (changed w s' c call) (after w s' c (answer w s' c)) (changed_alike w law B s s' A c call)
      (throughout_leaves s' person posts p r b (answer w s' c) refl))

  module _ (top : outside w B 0 ≡ true) where
    -- what is about the top is about a branch outside
    top_target : (call : Call) → target w call ≡ 0 → outside w B (target w call) ≡ true
    top_target call e = ap (outside w B) e ∙ top

    -- a call of a sitting within the reach leaves all outside it alone
    stays_by : (s : State) (person : ℕ) (posts : List Post) {call : Call} → Kind call → all_within w B posts ≡ true → Alike w B s (next w s (says person posts call))
    unfolding next
    stays_by s person posts (at_branch call l one) h = stays_local s (says person posts call) l one h
    stays_by s person posts (at_or_above p r b) h = after_throughout s person posts p r b (answer w s (clears person posts p r b)) h
    stays_by s person posts (at_top call one is) h = stays_idle s (says person posts call) one h (top_target call (is w))
    stays_by s person posts nowhere h = subst (λ u. Alike w B s u) (sym (after_sit s person posts (answer w s (says person posts Sit)))) (alike_self w B s)

    pub stays : (s : State) (c : Said) → within w B c ≡ true → Alike w B s (next w s c)
    stays s c h = stays_by s c.person c.posts (kind_of c.call) h

    -- any call keeps two states alike outside the reach
    keeps_by : (s s' : State) → Alike w B s s' → (person : ℕ) (posts : List Post) {call : Call} → Kind call →
        Alike w B (next w s (says person posts call)) (next w s' (says person posts call))
    unfolding next
    keeps_by s s' A person posts (at_branch call l one) = keeps_local s s' A (says person posts call) l one
    keeps_by s s' A person posts (at_or_above p r b) = keeps_throughout s s' A person posts p r b
    keeps_by s s' A person posts (at_top call one is) =
        keeps_abroad s s' A (says person posts call) (abroad_at person posts call one (top_target call (is w)))
    keeps_by s s' A person posts nowhere =
        let c = says person posts Sit in
        subst (λ u. Alike w B (after w s c (answer w s c)) u) (sym (after_sit s' person posts (answer w s' c)))
        (subst (λ u. Alike w B u s') (sym (after_sit s person posts (answer w s c))) A)

    pub keeps : (s s' : State) → Alike w B s s' → (c : Said) → Alike w B (next w s c) (next w s' c)
    keeps s s' A c = keeps_by s s' A c.person c.posts (kind_of c.call)
