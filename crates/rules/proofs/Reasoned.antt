-- Every answer has its reason: the first that holds of those of its call, after the numbers that the call names.
use Rattle.std.proofs.Common.{◌≡◌, ℕ, ◌<◌, Bool, true, false, not, ltb, List, [], ◌∷◌, length, is_some, Ok, Err, refl, ap, ◌∙◌, subst, sym, inl, inr}
use Rattle.std.specs.Option.{unwrap_or}
use Rattle.std.proofs.lemmas.Bool.{both_ways, cases_Bool, cond-true}
use Rattle.std.proofs.lemmas.Bool.Decides.{Decides-at, Decides-like, Decides-not}
use Rattle.refusals.specs.Checks.{in_order, must, then}
use Rattle.messages.specs.Said.{Said}
use Rattle.messages.specs.declared.call.Call.{Call}
use Rattle.messages.specs.declared.call.Call.TheVariants.{Decide, Grant, Take, Throughout, Enrol, Strike, Open, Close, Permit, Forbid, Sit}
use Rattle.messages.specs.declared.post.Post.{Post}
use Rattle.rules.specs.Answers.{Answer}
use Rattle.rules.specs.Calls.{close_row, decide_row, enrol_row, forbid_row, grant_row, judged, line_answer, open_row, permit_row, principal_answer, principal_steps, sit_row, strike_row, take_row, throughout_row}
use Rattle.rules.specs.Choices.{finds, grant_lines, met_place, permitted_place, permitted_role, postings_of, served_place, serving_line, some_place, take_lines}
use Rattle.rules.specs.Conditions.{Candidate, Commander, Counts, Known, KnownPosting, Led}
use Rattle.rules.specs.Promises.{AnsweredForItsReason, Orderly}
use Rattle.rules.specs.Reasons.{Accepts, Bars, ByCommander, ByLeader, Lacks, Lowest, NamesLeader, NamesRole, PermittedAt, Reasoned, Refuses, SomeCandidate, refused}
use Rattle.rules.specs.Rows.{Check, before}
use Rattle.rules.specs.Runs.{answer}
use Rattle.rules.specs.Setup.{Setup, State, home_of, is_branch, may_stand_at, piece_of}
use Rattle.rules.specs.Views.{View, branches_of, candidate, commander, over_some, sight, view}
use Rattle.rules.specs.Words.{belongs, post_at}
use Rattle.rules.specs.declared.answer.Accepted.TheVariants.{Allowed, Seated}
use Rattle.rules.specs.declared.fault.EngineFault.{EngineFault}
use Rattle.rules.specs.declared.fault.EngineFault.TheVariants.{NoCandidate, NotGoverned, CannotStand, Closed, Stranger, Unmet, NoPermit, NotCounting, AlreadySo, NothingFound}
use Rattle.rules.proofs.RowFacts.{decides_false, decides_never, decides_self}
use Rattle.rules.proofs.WordFacts.{belongs_enrolment, candidate_counts, commander_leads}
use Rattle.rules.proofs.SightFacts.{over_one, over_self, sight_view}
use Rattle.rules.proofs.CallFacts.{candidate_fits, register_numbers}
use Rattle.rules.proofs.Acceptance.{counting_seen, found_held, no_place}
use Rattle.rules.proofs.ReasonFacts.{searched, tested, wanted}
use Rattle.rules.proofs.CallReasons.{barred, leader_named, leader_steps, limited, line_named, met_some, permitted_some, put_reasons, role_named, served_some, take_reasons, unmet_told}
use Rattle.rules.proofs.MissingFacts.{call_missing}

-- the row of a call about one branch, at the view of that branch
module _ (w : Setup) (law : Orderly w) (s : State) (c : Said) (t : ℕ) (is : is_branch w t ≡ true) where
  -- a candidate leads, or is lacking
  by_leader :
      {Rest : Answer → Type 0} (rest : Answer)
      → (Led w c (Candidate w s c t) → Rest rest)
      → ByLeader w s c t Rest (before (in_order (principal_steps w c (candidate w s c t) t)) rest)
  by_leader = leader_steps w c (is_branch w t ≡ true) is (candidate w s c t) (Candidate w s c t) (λ place x. x.sits) (candidate_counts w law s c t) t

  candidate_named : Led w c (Candidate w s c t) → Accepts (NamesLeader w c (Candidate w s c t)) (Ok (principal_answer w c (candidate w s c t)))
  candidate_named = leader_named w c (is_branch w t ≡ true) is (candidate w s c t) (Candidate w s c t) (λ place x. x.sits) (candidate_counts w law s c t)

  by_commander :
      {Rest : Answer → Type 0} (rest : Answer)
      → (Led w c (Commander w s c t) → Rest rest)
      → ByCommander w s c t Rest (before (in_order (principal_steps w c (commander w s c t) t)) rest)
  by_commander = leader_steps w c (is_branch w t ≡ true) is (commander w s c t) (Commander w s c t) (λ place x. x.candidate.sits) (commander_leads w law s c t) t

  commander_named : Led w c (Commander w s c t) → Accepts (NamesLeader w c (Commander w s c t)) (Ok (principal_answer w c (commander w s c t)))
  commander_named = leader_named w c (is_branch w t ≡ true) is (commander w s c t) (Commander w s c t) (λ place x. x.candidate.sits) (commander_leads w law s c t)

  decide_reasons : (operation piece : ℕ) → home_of w piece ≡ t → Reasoned w s c (Decide operation piece) (decide_row w c (view w s c t) operation piece)
  unfolding decide_row view
  decide_reasons operation piece home =
      let kind = (piece_of w piece).kind in
      subst (λ h.
      Refuses (Lacks piece (SomeCandidate w s c h)) NoCandidate
      (Refuses (Lowest (Bars w s h)) Closed
      (Refuses (Lacks kind ((place : ℕ) × PermittedAt w s c operation kind h place)) NoPermit
      (Accepts (NamesRole w s c operation kind h))))
      (decide_row w c (view w s c t) operation piece))
      (sym home)
      (wanted (some_place c (candidate w s c t)) piece NoCandidate _ (candidate_fits w law s c t is)
      (λ some. barred w law s c t _
      (wanted (is_some (permitted_place w c (view w s c t) operation kind)) kind NoPermit _ (permitted_some w law s c t is operation kind)
      (λ permitted. record { accepted = Allowed (unwrap_or (permitted_place w c (view w s c t) operation kind) 0) (permitted_role w c (view w s c t) operation kind); named = role_named w law s c t is operation kind permitted; is = refl }))))

  grant_reasons : (person role : ℕ) → KnownPosting w person role t → Reasoned w s c (Grant person role t) (grant_row w c (view w s c t) person role t)
  unfolding grant_row view
  grant_reasons person role known =
      let v = view w s c t in
      let lines = grant_lines w in
      wanted (may_stand_at w role t) role CannotStand _ (decides_self (may_stand_at w role t))
      (λ stands. wanted (some_place c (candidate w s c t)) t NoCandidate _ (candidate_fits w law s c t is)
      (λ some. wanted (is_some (served_place w c v lines role)) role NotGoverned _ (served_some w law s c t is lines person role)
      (λ served. barred w law s c t _
      (wanted (belongs w s person t) person Stranger _ (belongs_enrolment w law s person t)
      (λ belonging. tested (is_some (met_place w c v lines person role)) (serving_line w c v lines role) Unmet _
      (unmet_told w law s c t is lines person role served)
      (λ e other m. m.unmet ((met_some w law s c t is lines person role).0 e))
      (λ e. limited w law s c t is person role _
      (put_reasons (λ x y z. v.posted x y) w.register_branches person role t (register_numbers w person role t known) w.share _
      (record { accepted = line_answer w c v lines person role; named = line_named w law s c t is lines person role ((met_some w law s c t is lines person role).0 e); is = refl }))))))))

  take_row_reasons : (person role : ℕ) → KnownPosting w person role t → Reasoned w s c (Take person role t) (take_row w c (view w s c t) person role t)
  unfolding take_row view
  take_row_reasons person role known =
      let v = view w s c t in
      let lines = take_lines w in
      wanted (some_place c (candidate w s c t)) t NoCandidate _ (candidate_fits w law s c t is)
      (λ some. wanted (is_some (served_place w c v lines role)) role NotGoverned _ (served_some w law s c t is lines person role)
      (λ served. tested (is_some (met_place w c v lines person role)) (serving_line w c v lines role) Unmet _
      (unmet_told w law s c t is lines person role served)
      (λ e other m. m.unmet ((met_some w law s c t is lines person role).0 e))
      (λ e. take_reasons (λ x y z. v.posted x y) w.register_branches person role t (register_numbers w person role t known) _
      (record { accepted = line_answer w c v lines person role; named = line_named w law s c t is lines person role ((met_some w law s c t is lines person role).0 e); is = refl }))))

  enrol_reasons : (person : ℕ) → Reasoned w s c (Enrol person t) (enrol_row w c (view w s c t) person t)
  unfolding enrol_row view
  enrol_reasons person =
      by_leader _ (λ led. barred w law s c t _
      (wanted (not (s.enrolled person t)) t AlreadySo _ (decides_false (s.enrolled person t)) (λ fresh. candidate_named led)))

  strike_reasons : (person : ℕ) → Reasoned w s c (Strike person t) (strike_row w c (view w s c t) person t)
  unfolding strike_row view
  strike_reasons person = by_leader _ (λ led. wanted (s.enrolled person t) t AlreadySo _ (decides_self (s.enrolled person t)) (λ there. candidate_named led))

  open_reasons : Reasoned w s c (Open t) (open_row w c (view w s c t) t)
  unfolding open_row view
  open_reasons = by_commander _ (λ led. wanted (s.closed t) t AlreadySo _ (decides_self (s.closed t)) (λ mark. commander_named led))

  close_reasons : Reasoned w s c (Close t) (close_row w c (view w s c t) t)
  unfolding close_row view
  close_reasons = by_commander _ (λ led. wanted (not (s.closed t)) t AlreadySo _ (decides_false (s.closed t)) (λ mark. commander_named led))

-- permit and forbid: their branch is 0
module _ (w : Setup) (law : Orderly w) (s : State) (c : Said) (is : is_branch w 0 ≡ true) (operation kind role : ℕ) where
  permit_reasons : Reasoned w s c (Permit operation kind role) (permit_row w c (view w s c 0) operation kind role)
  unfolding permit_row view
  permit_reasons =
      let there = s.permitted operation kind role in
      by_leader w law s c 0 is _ (λ led. wanted (not there) kind AlreadySo _ (decides_false there) (λ fresh. candidate_named w law s c 0 is led))

  forbid_reasons : Reasoned w s c (Forbid operation kind role) (forbid_row w c (view w s c 0) operation kind role)
  unfolding forbid_row view
  forbid_reasons =
      let there = s.permitted operation kind role in
      by_leader w law s c 0 is _ (λ led. wanted there kind AlreadySo _ (decides_self there) (λ old. candidate_named w law s c 0 is led))

-- a row in a row whose first test fails
row_refused : (test : Bool) (fault : EngineFault) (checks : Check) (rest : Answer) → test ≡ false → before (then (must test fault) checks) rest ≡ Err fault
row_refused false fault checks rest e = refl
row_refused true fault checks rest e = absurd (both_ways true e refl)

module _ (w : Setup) (law : Orderly w) (s : State) where
  -- at the one branch that it is about a call sees the view
  seen :
      (c : Said) (t : ℕ) (row : View → Answer)
      → Known w c
      → branches_of w c.posts c.call ≡ t ∷ []
      → is_branch w t ≡ true
      → Reasoned w s c c.call (row (view w s c t))
      → Reasoned w s c c.call (row (sight w s c t))
  seen c t row k one is r =
      subst (λ v. Reasoned w s c c.call (row v))
      (sym (sight_view w s c t k (ap (λ ts. over_some w ts t) one ∙ over_one w t t (over_self w law t is)))) r

  decide_seen :
      (sitter operation piece : ℕ) (posts : List Post)
      → let c : Said = record { person = sitter; posts = posts; call = Decide operation piece } in
      Known w c → Reasoned w s c c.call (decide_row w c (sight w s c (home_of w piece)) operation piece)
  unfolding decide_row
  decide_seen sitter operation piece posts k =
      let c : Said = record { person = sitter; posts = posts; call = Decide operation piece } in
      let t = home_of w piece in
      elim (cases_Bool (is_branch w t)) [
        | inl is ↦
            seen c t (λ v. decide_row w c v operation piece) k (cond-true (is_branch w t) (t ∷ []) [] is) is (decide_reasons w law s c t is operation piece refl)
        | inr lacks ↦
            wanted (some_place c (sight w s c t).candidate) piece NoCandidate _
            (decides_never (some_place c (sight w s c t).candidate) (λ e. both_ways _ (no_place w s c t lacks) e) (λ x. both_ways (is_branch w t) lacks x.0))
            (λ x. absurd (both_ways (is_branch w t) lacks x.0))
      ]

  permit_seen :
      (sitter operation kind role : ℕ) (posts : List Post)
      → let c : Said = record { person = sitter; posts = posts; call = Permit operation kind role } in
      Known w c → Reasoned w s c c.call (permit_row w c (sight w s c 0) operation kind role)
  unfolding permit_row
  permit_seen sitter operation kind role posts k =
      let c : Said = record { person = sitter; posts = posts; call = Permit operation kind role } in
      elim (cases_Bool (is_branch w 0)) [
        | inl is ↦ seen c 0 (λ v. permit_row w c v operation kind role) k refl is (permit_reasons w law s c is operation kind role)
        | inr lacks ↦
            refused 0 (refl, λ x. both_ways (is_branch w 0) lacks x.0)
            (row_refused (some_place c (sight w s c 0).candidate) (NoCandidate 0) _ _ (no_place w s c 0 lacks))
      ]

  forbid_seen :
      (sitter operation kind role : ℕ) (posts : List Post)
      → let c : Said = record { person = sitter; posts = posts; call = Forbid operation kind role } in
      Known w c → Reasoned w s c c.call (forbid_row w c (sight w s c 0) operation kind role)
  unfolding forbid_row
  forbid_seen sitter operation kind role posts k =
      let c : Said = record { person = sitter; posts = posts; call = Forbid operation kind role } in
      elim (cases_Bool (is_branch w 0)) [
        | inl is ↦ seen c 0 (λ v. forbid_row w c v operation kind role) k refl is (forbid_reasons w law s c is operation kind role)
        | inr lacks ↦
            refused 0 (refl, λ x. both_ways (is_branch w 0) lacks x.0)
            (row_refused (some_place c (sight w s c 0).candidate) (NoCandidate 0) _ _ (no_place w s c 0 lacks))
      ]

  -- throughout looks further up, but for a candidate at its branch
  throughout_seen :
      (sitter person role branch : ℕ) (posts : List Post)
      → let c : Said = record { person = sitter; posts = posts; call = Throughout person role branch } in
      Known w c → Reasoned w s c c.call (throughout_row w c (sight w s c) person role branch)
  unfolding throughout_row view
  throughout_seen sitter person role branch posts k =
      let c : Said = record { person = sitter; posts = posts; call = Throughout person role branch } in
      let is = k.arguments.2 in
      let e : sight w s c branch ≡ view w s c branch = sight_view w s c branch k (over_one w branch branch (over_self w law branch is)) in
      wanted (some_place c (sight w s c branch).candidate) branch NoCandidate _
      (Decides-at (some_place c (sight w s c branch).candidate) (some_place c (view w s c branch).candidate) (ap (λ v. some_place c v.candidate) e)
      (candidate_fits w law s c branch is))
      (λ some. wanted (ltb 0 (postings_of w (finds w (sight w s c) person role branch))) branch NothingFound _
      (found_held w law s sitter person role branch posts k)
      (λ found. record { accepted = _; named = record { taken = _; left = _; names = refl }; is = refl }))

  -- sit looks at each of its posts
  sit_seen :
      (sitter : ℕ) (posts : List Post)
      → let c : Said = record { person = sitter; posts = posts; call = Sit } in
      Known w c → Reasoned w s c Sit (sit_row w c (sight w s c))
  unfolding sit_row
  sit_seen sitter posts k =
      let c : Said = record { person = sitter; posts = posts; call = Sit } in
      let counting : ℕ → Bool = λ place. (sight w s c (post_at posts place).branch).counting place in
      searched (λ place. (place < length posts) × (Counts w s sitter (post_at posts place) → ⊥)) (length posts) (λ place. not (counting place)) NotCounting _
      (λ place h. Decides-like (not (counting place)) (λ x. (h, x)) (λ x. x.1) (Decides-not (counting place) (counting_seen w law s sitter posts k place h)))
      (λ place x. x.0)
      (λ all. record { accepted = Seated (length posts); named = refl; is = refl })

  -- the row of each call, by what it sees
  judged_reasons :
      (sitter : ℕ) (posts : List Post) (call : Call)
      → let c : Said = record { person = sitter; posts = posts; call = call } in
      Known w c → Reasoned w s c call (judged w c call (sight w s c))
  judged_reasons sitter posts (Decide operation piece) k = decide_seen sitter operation piece posts k
  judged_reasons sitter posts (Grant person role branch) k =
      let c : Said = record { person = sitter; posts = posts; call = Grant person role branch } in
      seen c branch (λ v. grant_row w c v person role branch) k refl k.arguments.2 (grant_reasons w law s c branch k.arguments.2 person role k.arguments)
  judged_reasons sitter posts (Take person role branch) k =
      let c : Said = record { person = sitter; posts = posts; call = Take person role branch } in
      seen c branch (λ v. take_row w c v person role branch) k refl k.arguments.2 (take_row_reasons w law s c branch k.arguments.2 person role k.arguments)
  judged_reasons sitter posts (Throughout person role branch) k = throughout_seen sitter person role branch posts k
  judged_reasons sitter posts (Enrol person branch) k =
      let c : Said = record { person = sitter; posts = posts; call = Enrol person branch } in
      seen c branch (λ v. enrol_row w c v person branch) k refl k.arguments.1 (enrol_reasons w law s c branch k.arguments.1 person)
  judged_reasons sitter posts (Strike person branch) k =
      let c : Said = record { person = sitter; posts = posts; call = Strike person branch } in
      seen c branch (λ v. strike_row w c v person branch) k refl k.arguments.1 (strike_reasons w law s c branch k.arguments.1 person)
  judged_reasons sitter posts (Open branch) k =
      let c : Said = record { person = sitter; posts = posts; call = Open branch } in
      seen c branch (λ v. open_row w c v branch) k refl k.arguments (open_reasons w law s c branch k.arguments)
  judged_reasons sitter posts (Close branch) k =
      let c : Said = record { person = sitter; posts = posts; call = Close branch } in
      seen c branch (λ v. close_row w c v branch) k refl k.arguments (close_reasons w law s c branch k.arguments)
  judged_reasons sitter posts (Permit operation kind role) k = permit_seen sitter operation kind role posts k
  judged_reasons sitter posts (Forbid operation kind role) k = forbid_seen sitter operation kind role posts k
  judged_reasons sitter posts Sit k = sit_seen sitter posts k

pub answered_for_its_reason : AnsweredForItsReason
unfolding answer
answered_for_its_reason w law s c =
    call_missing w c (judged w c c.call (sight w s c)) (λ k. judged_reasons w law s c.person c.posts c.call k)
