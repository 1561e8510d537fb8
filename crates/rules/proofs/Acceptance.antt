-- A call is accepted exactly when all that it names exists and its conditions hold.
use Rattle.std.proofs.Common.{◌≡◌, ℕ, ◌<◌, Bool, true, false, cond, not, ◌&&◌, eqb, ltb, List, [], ◌∷◌, length, is_some, is_ok, Decides, sym, refl, ap, ◌∙◌, inl, inr}
use Rattle.std.proofs.lemmas.Bool.{both_ways, cases_Bool, cond-true}
use Rattle.std.proofs.lemmas.Bool.Decides.{Decides-and, Decides-at, Decides-eqb, Decides-like, Decides-not, not_from_Decides}
use Rattle.refusals.specs.Checks.{in_order}
use Rattle.search.specs.Searches.{count_below, first_below}
use Rattle.search.proofs.Searches.{any_fails}
use Rattle.messages.specs.Said.{Said}
use Rattle.messages.specs.declared.call.Call.{Call}
use Rattle.messages.specs.declared.call.Call.TheVariants.{Decide, Grant, Take, Throughout, Enrol, Strike, Open, Close, Permit, Forbid, Sit}
use Rattle.messages.specs.declared.post.Post.{Post}
use Rattle.rules.specs.Answers.{Answer}
use Rattle.rules.specs.Calls.{close_row, decide_row, enrol_row, forbid_row, grant_row, judged, open_row, permit_row, principal_steps, sit_row, strike_row, take_row, throughout_row}
use Rattle.rules.specs.Choices.{finds, postings_of, some_place}
use Rattle.rules.specs.Conditions.{Allowed, CanAccess, Candidate, Counts, Holds, Known, MayClear, MayPermit, MaySit}
use Rattle.rules.specs.Numbers.{numbers_checked}
use Rattle.rules.specs.Promises.{AcceptedWhenAllowed, DecidedAsModelled, Orderly, found_in}
use Rattle.rules.specs.Rows.{before}
use Rattle.rules.specs.Runs.{answer}
use Rattle.rules.specs.Setup.{Setup, State, home_of, is_branch, outranks, over}
use Rattle.rules.specs.Views.{View, branches_of, candidate, over_some, sight, view}
use Rattle.rules.specs.Words.{counts, post_at}
use Rattle.rules.specs.declared.fault.EngineFault.TheVariants.{NotCounting}
use Rattle.rules.proofs.RowFacts.{decides_any, decides_before, decides_first, decides_must, decides_never, decides_none, decides_one, decides_refuse, decides_self, decides_sum, decides_then, first_passed}
use Rattle.rules.proofs.WordFacts.{candidate_counts, counts_held, decides_both}
use Rattle.rules.proofs.KnownFacts.{numbers_known}
use Rattle.rules.proofs.SightFacts.{finds_in, none_seen, over_one, over_post, over_self, sight_view}
use Rattle.rules.proofs.CallFacts.{decided_allowed, enrolled_allowed, forbidden_allowed, granted_allowed, opened_allowed, permitted_allowed, shut_allowed, struck_allowed, taken_allowed}

-- at a branch that does not exist no place is seen to be a candidate
pub no_place : (w : Setup) (s : State) (c : Said) (t : ℕ) → is_branch w t ≡ false → some_place c (sight w s c t).candidate ≡ false
no_place w s c t lacks = any_fails (sight w s c t).candidate (length c.posts) (λ place h. none_seen w s c t place lacks)

module _ (w : Setup) (law : Orderly w) (s : State) where
  -- at the one branch that it is about a call sees the view, so that its row decides what the row at the view does
  seen :
      {P : Type 0} (c : Said) (t : ℕ) (row : View → Answer)
      → Known w c
      → branches_of w c.posts c.call ≡ t ∷ []
      → is_branch w t ≡ true
      → Decides (is_ok (row (view w s c t))) P
      → Decides (is_ok (row (sight w s c t))) P
  seen c t row k one is d =
      let e = sight_view w s c t k (ap (λ ts. over_some w ts t) one ∙ over_one w t t (over_self w law t is)) in
      Decides-at (is_ok (row (sight w s c t))) (is_ok (row (view w s c t))) (ap (λ v. is_ok (row v)) e) d

  -- throughout finds something exactly when the person holds the role
  pub found_held :
      (sitter person role branch : ℕ) (posts : List Post)
      → let c : Said = record { person = sitter; posts = posts; call = Throughout person role branch } in
      Known w c → Decides (ltb 0 (postings_of w (finds w (sight w s c) person role branch))) (Holds w s person role branch)
  unfolding postings_of
  found_held sitter person role branch posts k =
      let c : Said = record { person = sitter; posts = posts; call = Throughout person role branch } in
      let Found : ℕ → ℕ → Type 0 = λ o q. (over w o branch ≡ true) × ((outranks w q role ≡ true) × (s.posted person q o ≡ true)) in
      let found : ℕ → ℕ → Bool = finds w (sight w s c) person role branch in
      Decides-like (ltb 0 (postings_of w found))
      (λ x. let y = x.2 in record { branch = x.0; rank = y.0; higher = y.2.0; ranking = y.2.1.0; posted = y.2.1.1 })
      (λ h. (
        h.branch,
        (law.branches.inside h.branch branch h.higher).0,
        (h.rank, (law.roles.inside h.rank role h.ranking).0, (h.higher, (h.ranking, h.posted))),
      ))
      (decides_sum (λ o. (q : ℕ) × (q < w.roles.members) × Found o q) w.branches.members (λ o. count_below w.roles.members (found o))
      (λ o h. decides_sum (Found o) w.roles.members (λ q. cond (found o q) 1 0)
      (λ q i. decides_one (found o q)
      (Decides-at (found o q) (found_in w s person role branch o q) (finds_in w s sitter person role branch posts k o q)
      (Decides-and (over w o branch) (outranks w q role && s.posted person q o) (decides_self (over w o branch))
      (decides_both (outranks w q role) (s.posted person q o)))))))

  cleared_allowed :
      (sitter person role branch : ℕ) (posts : List Post)
      → let c : Said = record { person = sitter; posts = posts; call = Throughout person role branch } in
      Known w c → Decides (is_ok (throughout_row w c (sight w s c) person role branch)) (MayClear w s c person role branch)
  unfolding throughout_row view
  cleared_allowed sitter person role branch posts k =
      let c : Said = record { person = sitter; posts = posts; call = Throughout person role branch } in
      let is = k.arguments.2 in
      let e : sight w s c branch ≡ view w s c branch = sight_view w s c branch k (over_one w branch branch (over_self w law branch is)) in
      Decides-like (is_ok (throughout_row w c (sight w s c) person role branch))
      (λ x. record { place = x.0.0; candidate = x.0.2.1; found = x.1.0 })
      (λ x. ((x.place, x.candidate.sits, (is, x.candidate)), (x.found, tt)))
      (decides_before _ _
      (decides_must _ _
      (Decides-at (some_place c (sight w s c branch).candidate) (some_place c (view w s c branch).candidate) (ap (λ v. some_place c v.candidate) e)
      (decides_any (λ place. (is_branch w branch ≡ true) × Candidate w s c branch place) (length posts) (candidate w s c branch)
      (λ place h. candidate_counts w law s c branch place))))
      (λ p. decides_before _ _ (decides_must _ _ (found_held sitter person role branch posts k)) (λ p. decides_none)))

  -- sit sees of every post whether it counts
  pub counting_seen :
      (sitter : ℕ) (posts : List Post)
      → let c : Said = record { person = sitter; posts = posts; call = Sit } in
      Known w c → (place : ℕ) → place < length posts
      → Decides ((sight w s c (post_at posts place).branch).counting place) (Counts w s sitter (post_at posts place))
  unfolding view
  counting_seen sitter posts k place h =
      let c : Said = record { person = sitter; posts = posts; call = Sit } in
      let own = (post_at posts place).branch in
      let counted = counts w s sitter (post_at posts place) in
      Decides-at ((sight w s c own).counting place) (eqb own own && counted)
      (ap (λ v. v.counting place) (sight_view w s c own k (over_post w law posts place h (k.posts place h).1)))
      (Decides-like (eqb own own && counted) (λ x. x.1) (λ x. (refl, x))
      (Decides-and (eqb own own) counted (Decides-eqb own own) (counts_held w law s sitter (post_at posts place))))

  seated_allowed :
      (sitter : ℕ) (posts : List Post)
      → let c : Said = record { person = sitter; posts = posts; call = Sit } in
      Known w c → Decides (is_ok (sit_row w c (sight w s c))) (MaySit w s c)
  unfolding sit_row
  seated_allowed sitter posts k =
      let c : Said = record { person = sitter; posts = posts; call = Sit } in
      let counting : ℕ → Bool = λ place. (sight w s c (post_at posts place).branch).counting place in
      let Counting : ℕ → Type 0 = λ place. Counts w s sitter (post_at posts place) in
      let each : (place : ℕ) → place < length posts → Decides (counting place) (Counting place) = counting_seen sitter posts k in
      let missing = is_some (first_below (length posts) (λ place. not (counting place))) in
      Decides-like (is_ok (sit_row w c (sight w s c)))
      (λ x. x.0)
      (λ x. (x, tt))
      (decides_before _ _
      (decides_refuse NotCounting _
      (Decides-like (not missing)
      (λ none place h.
      elim (cases_Bool (counting place)) [
        | inl e ↦ (each place h).0 e
        | inr e ↦ absurd (none (place, h, not_from_Decides (counting place) (each place h) e))
      ])
      (λ all found. found.2 (all found.0 found.1))
      (Decides-not missing
      (decides_first (λ place. Counting place → ⊥) (length posts) (λ place. not (counting place))
      (λ place h. Decides-not (counting place) (each place h))))))
      (λ p. decides_none))

  -- decide, wherever the piece's home is
  decided_seen :
      (sitter operation piece : ℕ) (posts : List Post)
      → let c : Said = record { person = sitter; posts = posts; call = Decide operation piece } in
      Known w c → Decides (is_ok (decide_row w c (sight w s c (home_of w piece)) operation piece)) (CanAccess w s c operation piece)
  unfolding decide_row
  decided_seen sitter operation piece posts k =
      let c : Said = record { person = sitter; posts = posts; call = Decide operation piece } in
      let t = home_of w piece in
      elim (cases_Bool (is_branch w t)) [
        | inl is ↦
            seen c t (λ v. decide_row w c v operation piece) k (cond-true (is_branch w t) (t ∷ []) [] is) is (decided_allowed w law s c operation piece is)
        | inr lacks ↦
            decides_never (is_ok (decide_row w c (sight w s c t) operation piece))
            (λ e. both_ways _ (no_place w s c t lacks) ((decides_must (some_place c (sight w s c t).candidate) _ (decides_self _)).0 (first_passed _ _ e)))
            (λ x. both_ways (is_branch w t) lacks x.home)
      ]

  -- permit and forbid, whether or not there is a branch 0: their rows begin with the candidates for it
  permits_seen :
      (c : Said) (operation kind role : ℕ) (there : Bool) (row : View → Answer) (rest : Answer)
      → Known w c
      → branches_of w c.posts c.call ≡ 0 ∷ []
      → row (sight w s c 0) ≡ before (in_order (principal_steps w c (sight w s c 0).candidate 0)) rest
      → (is_branch w 0 ≡ true → Decides (is_ok (row (view w s c 0))) (MayPermit w s c operation kind role there))
      → Decides (is_ok (row (sight w s c 0))) (MayPermit w s c operation kind role there)
  permits_seen c operation kind role there row rest k top begins viewed =
      elim (cases_Bool (is_branch w 0)) [
        | inl is ↦ seen c 0 row k top is (viewed is)
        | inr lacks ↦
            decides_never (is_ok (row (sight w s c 0)))
            (λ e.
            let steps = first_passed _ rest (sym (ap (λ a. is_ok a) begins) ∙ e) in
            let first = ((decides_then _ _ (decides_must (some_place c (sight w s c 0).candidate) _ (decides_self _)) (decides_self _)).0 steps).0 in
            both_ways _ (no_place w s c 0 lacks) first)
            (λ x. both_ways (is_branch w 0) lacks x.top)
      ]

  -- the checks of each call, by what it sees
  pub judged_allowed :
      (sitter : ℕ) (posts : List Post) (call : Call)
      → let c : Said = record { person = sitter; posts = posts; call = call } in
      Known w c → Decides (is_ok (judged w c call (sight w s c))) (Allowed w s c call)
  unfolding permit_row forbid_row
  judged_allowed sitter posts (Decide operation piece) k = decided_seen sitter operation piece posts k
  judged_allowed sitter posts (Grant person role branch) k =
      let c : Said = record { person = sitter; posts = posts; call = Grant person role branch } in
      seen c branch (λ v. grant_row w c v person role branch) k refl k.arguments.2
      (granted_allowed w law s c person role branch k.arguments)
  judged_allowed sitter posts (Take person role branch) k =
      let c : Said = record { person = sitter; posts = posts; call = Take person role branch } in
      seen c branch (λ v. take_row w c v person role branch) k refl k.arguments.2
      (taken_allowed w law s c person role branch k.arguments)
  judged_allowed sitter posts (Throughout person role branch) k = cleared_allowed sitter person role branch posts k
  judged_allowed sitter posts (Enrol person branch) k =
      let c : Said = record { person = sitter; posts = posts; call = Enrol person branch } in
      seen c branch (λ v. enrol_row w c v person branch) k refl k.arguments.1
      (enrolled_allowed w law s c person branch k.arguments.1)
  judged_allowed sitter posts (Strike person branch) k =
      let c : Said = record { person = sitter; posts = posts; call = Strike person branch } in
      seen c branch (λ v. strike_row w c v person branch) k refl k.arguments.1
      (struck_allowed w law s c person branch k.arguments.1)
  judged_allowed sitter posts (Open branch) k =
      let c : Said = record { person = sitter; posts = posts; call = Open branch } in
      seen c branch (λ v. open_row w c v branch) k refl k.arguments
      (opened_allowed w law s c branch k.arguments)
  judged_allowed sitter posts (Close branch) k =
      let c : Said = record { person = sitter; posts = posts; call = Close branch } in
      seen c branch (λ v. close_row w c v branch) k refl k.arguments
      (shut_allowed w law s c branch k.arguments)
  judged_allowed sitter posts (Permit operation kind role) k =
      let c : Said = record { person = sitter; posts = posts; call = Permit operation kind role } in
      permits_seen c operation kind role false (λ v. permit_row w c v operation kind role) _ k refl refl
      (permitted_allowed w law s c operation kind role)
  judged_allowed sitter posts (Forbid operation kind role) k =
      let c : Said = record { person = sitter; posts = posts; call = Forbid operation kind role } in
      permits_seen c operation kind role true (λ v. forbid_row w c v operation kind role) _ k refl refl
      (forbidden_allowed w law s c operation kind role)
  judged_allowed sitter posts Sit k = seated_allowed sitter posts k

pub accepted_when_allowed : AcceptedWhenAllowed
unfolding answer
accepted_when_allowed w law s c =
    decides_before (numbers_checked w c) (judged w c c.call (sight w s c)) (numbers_known w c)
    (λ k. judged_allowed w law s c.person c.posts c.call k)

pub decided_as_modelled : DecidedAsModelled
decided_as_modelled w law s person operation piece posts =
    accepted_when_allowed w law s (record { person = person; posts = posts; call = Decide operation piece })
