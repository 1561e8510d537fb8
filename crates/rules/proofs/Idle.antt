-- A sitting within a reach has no candidate for a branch outside it, and is refused there whatever else the state is.
use Rattle.std.proofs.Common.{◌≡◌, ℕ, zero, suc, ◌<◌, Bool, true, false, cond, List, [], ◌∷◌, length, is_ok, Ok, Err, refl, inl, inr, arith}
use Rattle.std.proofs.lemmas.Bool.{and_left, and_parts, both_ways, cases_Bool, not-true}
use Rattle.refusals.specs.Checks.{must}
use Rattle.search.proofs.Searches.{any_fails}
use Rattle.messages.specs.Said.{Said}
use Rattle.messages.specs.declared.call.Call.{Call}
use Rattle.messages.specs.declared.call.Call.TheVariants.{Decide, Grant, Take, Throughout, Enrol, Strike, Open, Close, Permit, Forbid, Sit}
use Rattle.messages.specs.declared.post.Post.{Post}
use Rattle.rules.specs.Answers.{Answer}
use Rattle.rules.specs.Calls.{close_row, decide_row, enrol_row, forbid_row, grant_row, judged, open_row, permit_row, strike_row, take_row, throughout_row}
use Rattle.rules.specs.Choices.{some_place}
use Rattle.rules.specs.Isolation.{all_within, no_answer, outside, within}
use Rattle.rules.specs.Promises.{Orderly}
use Rattle.rules.specs.Rows.{Check, before}
use Rattle.rules.specs.Setup.{Setup, State, over, may_stand_at}
use Rattle.rules.specs.Views.{View, about, blank, candidate, commander, over_some, sight, view}
use Rattle.rules.specs.Words.{commands, post_at}
use Rattle.rules.specs.declared.fault.EngineFault.TheVariants.{NoCandidate, CannotStand}
use Rattle.rules.proofs.WordFacts.{candidate_counts}
use Rattle.rules.proofs.CallKinds.{OneBranch, target}

-- what such a call is answered where it has no candidate
abbrev pub silent : Setup → Call → Answer
silent w (Decide operation piece) = Err (NoCandidate piece)
silent w (Grant person role branch) = before (must (may_stand_at w role branch) (CannotStand role)) (Err (NoCandidate branch))
silent w (Take person role branch) = Err (NoCandidate branch)
silent w (Throughout person role branch) = Err (NoCandidate branch)
silent w (Enrol person branch) = Err (NoCandidate branch)
silent w (Strike person branch) = Err (NoCandidate branch)
silent w (Open branch) = Err (NoCandidate branch)
silent w (Close branch) = Err (NoCandidate branch)
silent w (Permit operation kind role) = Err (NoCandidate 0)
silent w (Forbid operation kind role) = Err (NoCandidate 0)
silent w Sit = no_answer

-- no candidate is seen, neither of the common kind nor for opening and closing
pub record Unseen (c : Said) (v : View) : Type 0 where
  pub candidates : some_place c v.candidate ≡ false
  pub commanders : some_place c v.commander ≡ false

-- then the call is refused so
pub turned : (w : Setup) (c : Said) (call : Call) (look : ℕ → View) → OneBranch call → Unseen c (look (target w call)) → judged w c call look ≡ silent w call
unfolding decide_row grant_row take_row throughout_row enrol_row strike_row open_row close_row permit_row forbid_row
turned w c (Decide operation piece) look one u = rw u.candidates refl
turned w c (Grant person role branch) look one u = rw u.candidates refl
turned w c (Take person role branch) look one u = rw u.candidates refl
turned w c (Throughout person role branch) look one u = rw u.candidates refl
turned w c (Enrol person branch) look one u = rw u.candidates refl
turned w c (Strike person branch) look one u = rw u.candidates refl
turned w c (Open branch) look one u = rw u.commanders refl
turned w c (Close branch) look one u = rw u.commanders refl
turned w c (Permit operation kind role) look one u = rw u.candidates refl
turned w c (Forbid operation kind role) look one u = rw u.candidates refl
turned w c Sit look one u = absurd one

-- and that is a refusal, also behind the check of its numbers
refused_grant : (stands : Bool) (role branch : ℕ) → is_ok (before (must stands (CannotStand role)) (Err (NoCandidate branch))) ≡ false
refused_grant true role branch = refl
refused_grant false role branch = refl

silent_refuses : (w : Setup) (call : Call) → OneBranch call → is_ok (silent w call) ≡ false
silent_refuses w (Decide operation piece) one = refl
silent_refuses w (Grant person role branch) one = refused_grant (may_stand_at w role branch) role branch
silent_refuses w (Take person role branch) one = refl
silent_refuses w (Throughout person role branch) one = refl
silent_refuses w (Enrol person branch) one = refl
silent_refuses w (Strike person branch) one = refl
silent_refuses w (Open branch) one = refl
silent_refuses w (Close branch) one = refl
silent_refuses w (Permit operation kind role) one = refl
silent_refuses w (Forbid operation kind role) one = refl
silent_refuses w Sit one = absurd one

pub before_refuses : (check : Check) (w : Setup) (call : Call) → OneBranch call → is_ok (before check (silent w call)) ≡ false
before_refuses (Ok passed) w call one = silent_refuses w call one
before_refuses (Err fault) w call one = refl

-- each post of a sitting within a reach is in it
pub post_within : (w : Setup) (B : ℕ) (posts : List Post) (place : ℕ) → all_within w B posts ≡ true → place < length posts → over w B (post_at posts place).branch ≡ true
post_within w B [] place h l = absurd (omega arith)
post_within w B (post ∷ posts) zero h l = (and_parts (over w B post.branch) (all_within w B posts) h).0
post_within w B (post ∷ posts) (suc place) h l = post_within w B posts place (and_parts (over w B post.branch) (all_within w B posts) h).1 (omega arith)

module _ (w : Setup) (law : Orderly w) (B : ℕ) (s : State) (c : Said) (inside : within w B c ≡ true) (t : ℕ) (out : outside w B t ≡ true) where
  -- no candidate
  no_candidate : (place : ℕ) → candidate w s c t place ≡ false
  no_candidate place =
      elim (cases_Bool (candidate w s c t place)) [
        | inl e ↦
            let p = ((candidate_counts w law s c t place).0 e).1 in
            absurd (both_ways (over w B t) (not-true (over w B t) out)
            (law.branches.transitive B (post_at c.posts place).branch t (post_within w B c.posts place inside p.sits) p.higher))
        | inr e ↦ e
      ]

  no_commander : (place : ℕ) → commander w s c t place ≡ false
  unfolding commander
  no_commander place = and_left (candidate w s c t place) (commands w (post_at c.posts place).branch t) (no_candidate place)

  none_at : (seen : Bool) (place : ℕ) → ((cond seen (view w s c t) blank).candidate place ≡ false) × ((cond seen (view w s c t) blank).commander place ≡ false)
  unfolding view blank
  none_at true place = (no_candidate place, no_commander place)
  none_at false place = (refl, refl)

  pub unseen : Unseen c (sight w s c t)
  unfolding sight
  unseen =
      record {
        candidates = any_fails (sight w s c t).candidate (length c.posts) (λ place h. (none_at (over_some w (about w c) t) place).0);
        commanders = any_fails (sight w s c t).commander (length c.posts) (λ place h. (none_at (over_some w (about w c) t) place).1);
      }
