-- What a call sees outside a reach is the same in states that are alike outside it, and so is its answer.
use Rattle.std.proofs.Common.{◌≡◌, ℕ, true, false, cond, not, ◌&&◌, eqb, ltb, List, [], ◌∷◌, length, is_some, sym, refl, ap, ◌∙◌, ap₂, inl, inr}
use mathlib.Core.Path.{fun_ext}
use Rattle.std.proofs.lemmas.Bool.{and_parts, both_ways, cases_Bool, eqb-true, not-true, not_from_false, or_cases}
use Rattle.search.specs.Searches.{any_below, first_below}
use Rattle.messages.specs.Said.{Said}
use Rattle.messages.specs.declared.post.Post.{Post}
use Rattle.rules.specs.Calls.{judged}
use Rattle.rules.specs.Isolation.{Alike, abroad, all_outside, outside}
use Rattle.rules.specs.Numbers.{numbers_checked}
use Rattle.rules.specs.Rows.{before}
use Rattle.rules.specs.Runs.{answer}
use Rattle.rules.specs.Setup.{Lawful, Setup, State, is_branch, outranks, over, may_stand_at}
use Rattle.rules.specs.Views.{View, about, blank, candidate, commander, over_some, sight, view}
use Rattle.rules.specs.Words.{belongs, closed_over, commands, counts, holds, post_at, posted_to, stands_over}
use Rattle.rules.proofs.RowFacts.{chosen, guarded}

-- a state is alike itself, the likeness goes both ways, and on
pub alike_self : (w : Setup) (B : ℕ) (s : State) → Alike w B s s
alike_self w B s = record { posted = λ p r b h. refl; enrolled = λ p b h. refl; closed = λ b h. refl; permitted = λ o k r. refl }

pub alike_back : (w : Setup) (B : ℕ) (s s' : State) → Alike w B s s' → Alike w B s' s
alike_back w B s s' A =
    record {
      posted = λ p r b h. sym (A.posted p r b h);
      enrolled = λ p b h. sym (A.enrolled p b h);
      closed = λ b h. sym (A.closed b h);
      permitted = λ o k r. sym (A.permitted o k r);
    }

pub alike_on : (w : Setup) (B : ℕ) (s s' s'' : State) → Alike w B s s' → Alike w B s' s'' → Alike w B s s''
alike_on w B s s' s'' A A' =
    record {
      posted = λ p r b h. A.posted p r b h ∙ A'.posted p r b h;
      enrolled = λ p b h. A.enrolled p b h ∙ A'.enrolled p b h;
      closed = λ b h. A.closed b h ∙ A'.closed b h;
      permitted = λ o k r. A.permitted o k r ∙ A'.permitted o k r;
    }

module _ (w : Setup) (L : Lawful w.branches) (B : ℕ) where
  -- what is above a branch outside a reach is outside it too
  pub outside_up : (t o : ℕ) → outside w B t ≡ true → over w o t ≡ true → outside w B o ≡ true
  outside_up t o h u =
      elim (cases_Bool (over w B o)) [
        | inl e ↦ absurd (both_ways (over w B t) (not-true (over w B t) h) (L.transitive B o t e u))
        | inr e ↦ not_from_false (over w B o) e
      ]

  pub outside_some : (ts : List ℕ) (o : ℕ) → all_outside w B ts ≡ true → over_some w ts o ≡ true → outside w B o ≡ true
  outside_some [] o h u = absurd (both_ways false refl u)
  outside_some (t ∷ ts) o h u =
      let parts = and_parts (outside w B t) (all_outside w B ts) h in
      elim (or_cases (over w o t) (over_some w ts o) u) [
        | inl e ↦ outside_up t o parts.0 e
        | inr e ↦ outside_some ts o parts.1 e
      ]

  module _ (s s' : State) (A : Alike w B s s') where
    closed_same : (t : ℕ) → outside w B t ≡ true → closed_over w s t ≡ closed_over w s' t
    unfolding closed_over
    closed_same t h =
        ap (first_below w.branches.members) (fun_ext (λ o. guarded (over w o t) (s.closed o) (s'.closed o) (λ u. A.closed o (outside_up t o h u))))

    posted_same : (person role o : ℕ) → outside w B o ≡ true → posted_to w s person role o ≡ posted_to w s' person role o
    unfolding posted_to
    posted_same person role o h =
        ap (any_below w.roles.members) (fun_ext (λ q. ap (λ b. outranks w q role && b) (A.posted person q o h)))

    holds_same : (person role t : ℕ) → outside w B t ≡ true → holds w s person role t ≡ holds w s' person role t
    unfolding holds
    holds_same person role t h =
        ap (any_below w.branches.members) (fun_ext (λ o.
        guarded (over w o t) (posted_to w s person role o) (posted_to w s' person role o) (λ u. posted_same person role o (outside_up t o h u))))

    belongs_same : (person t : ℕ) → outside w B t ≡ true → belongs w s person t ≡ belongs w s' person t
    unfolding belongs
    belongs_same person t h =
        ap (any_below w.branches.members) (fun_ext (λ o.
        guarded (over w o t) (s.enrolled person o) (s'.enrolled person o) (λ u. A.enrolled person o (outside_up t o h u))))

    counts_same : (person : ℕ) (post : Post) → outside w B post.branch ≡ true → counts w s person post ≡ counts w s' person post
    unfolding counts
    counts_same person post h =
        ap (λ b. may_stand_at w post.role post.branch && b)
        (ap₂ (λ a b. a && b) (holds_same person post.role post.branch h) (ap (λ o. not (is_some o)) (closed_same post.branch h)))

    candidate_same : (c : Said) (t place : ℕ) → outside w B t ≡ true → candidate w s c t place ≡ candidate w s' c t place
    unfolding candidate
    candidate_same c t place h =
        let post = post_at c.posts place in
        ap (λ b. is_branch w t && (ltb place (length c.posts) && b))
        (guarded (stands_over w post t) (counts w s c.person post) (counts w s' c.person post)
        (λ u. counts_same c.person post (outside_up t post.branch h (and_parts (over w post.branch t) (may_stand_at w post.role post.branch) u).0)))

    commander_same : (c : Said) (t place : ℕ) → outside w B t ≡ true → commander w s c t place ≡ commander w s' c t place
    unfolding commander
    commander_same c t place h = ap (λ b. b && commands w (post_at c.posts place).branch t) (candidate_same c t place h)

    counting_same : (c : Said) (t place : ℕ) → outside w B t ≡ true →
        (eqb (post_at c.posts place).branch t && counts w s c.person (post_at c.posts place))
        ≡ (eqb (post_at c.posts place).branch t && counts w s' c.person (post_at c.posts place))
    counting_same c t place h =
        let post = post_at c.posts place in
        guarded (eqb post.branch t) (counts w s c.person post) (counts w s' c.person post)
        (λ u. counts_same c.person post (ap (outside w B) (eqb-true post.branch t u) ∙ h))

    pub view_same : (c : Said) (t : ℕ) → outside w B t ≡ true → view w s c t ≡ view w s' c t
    unfolding view
    view_same c t h = λ i.
        record {
          candidate = λ place. candidate_same c t place h i;
          commander = λ place. commander_same c t place h i;
          counting = λ place. counting_same c t place h i;
          barrier = closed_same t h i;
          holding = λ person role. holds_same person role t h i;
          belonging = λ person. belongs_same person t h i;
          posted = λ person role. A.posted person role t h i;
          enrolled = λ person. A.enrolled person t h i;
          closed = A.closed t h i;
          permitted = λ operation kind role. A.permitted operation kind role i;
        }

    -- what is seen at a branch outside the reach
    pub sight_same : (c : Said) (o : ℕ) → outside w B o ≡ true → sight w s c o ≡ sight w s' c o
    unfolding sight
    sight_same c o h = ap (λ v. cond (over_some w (about w c) o) v blank) (view_same c o h)

    -- the answer to a call about branches outside the reach
    pub answer_same : (c : Said) → abroad w B c ≡ true → answer w s c ≡ answer w s' c
    unfolding answer sight
    answer_same c h =
        ap (λ (look : ℕ → View). before (numbers_checked w c) (judged w c c.call look))
        (fun_ext (λ o.
        chosen (over_some w (about w c) o) (view w s c o) (view w s' c o) blank (λ u. view_same c o (outside_some (about w c) o h u))))
