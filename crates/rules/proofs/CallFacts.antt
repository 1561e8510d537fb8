-- Each call's own checks pass exactly when its conditions hold.
use Rattle.std.proofs.Common.{◌≡◌, ℕ, ◌<◌, ◌≤◌, Bool, true, false, not, ◌&&◌, ltb, leb, length, get_or, is_some, is_ok, Ok, Decides, inl, inr, arith}
use Rattle.std.proofs.lemmas.Bool.{and_parts, cases_lt, le-leb, leb-true}
use Rattle.std.proofs.lemmas.Bool.Decides.{Decides-like, Decides-ltb, Decides-not}
use Rattle.refusals.specs.Checks.{in_order, must}
use Rattle.search.specs.Searches.{first_below}
use Rattle.plans.specs.Role.{no_role}
use Rattle.plans.specs.Set.{no_set}
use Rattle.registers.specs.Meaning.{Postings, others_at, postings_at, put_checked, take_checked}
use Rattle.messages.specs.Said.{Said}
use Rattle.rules.specs.Calls.{close_row, decide_row, enrol_row, forbid_row, grant_row, open_row, permit_row, principal_steps, strike_row, take_row}
use Rattle.rules.specs.Choices.{Lines, full_set, grant_lines, roles_of_set, served_place, some_place, take_lines}
use Rattle.rules.specs.Conditions.{CanAccess, Candidate, Commander, KnownPosting, Led, MayEnrol, MayGrant, MayMark, MayPermit, MayStrike, MayTake, ServedMet, roles_then}
use Rattle.rules.specs.Promises.{Orderly}
use Rattle.rules.specs.Reasons.{SomeCandidate}
use Rattle.rules.specs.Rows.{Check, before}
use Rattle.rules.specs.Setup.{Setup, State, home_of, is_branch, piece_of, may_stand_at}
use Rattle.rules.specs.Views.{candidate, commander, view}
use Rattle.rules.specs.declared.answer.Accepted.{Accepted}
use Rattle.rules.specs.declared.fault.EngineFault.{EngineFault}
use Rattle.rules.specs.declared.fault.EngineFault.TheVariants.{Closed, TooManyOf}
use Rattle.rules.proofs.RowFacts.{decides_before, decides_false, decides_first, decides_must, decides_none, decides_refuse, decides_register, decides_self, decides_then, test_first, three_tests}
use Rattle.rules.proofs.WordFacts.{belongs_enrolment, candidate_counts, commander_leads, open_unbarred}
use Rattle.rules.proofs.PlaceFacts.{leader, met_is_served, met_served, permitted_found, served_found, some_fits}
use Rattle.rules.proofs.SightFacts.{branch_parts}

-- the register takes a posting whose numbers it has and that is new, where its branch has room
pub put_decided :
    (posted : Postings) (places : ℕ) (share : ℕ → ℕ) (person role branch : ℕ)
    → Decides (is_ok (put_checked posted places share person role branch))
    (((ltb person 64 ≡ true) × (ltb role 16 ≡ true) × (ltb branch places ≡ true))
    × ((posted person role branch ≡ false) × ((postings_at posted branch < share branch) × Unit {0})))
put_decided posted places share person role branch =
    decides_then _ _ (three_tests (ltb person 64) (ltb role 16) (ltb branch places) _ _ _)
    (decides_then _ _ (decides_must _ _ (decides_false (posted person role branch)))
    (decides_then _ (Ok tt) (decides_must _ _ (Decides-ltb (postings_at posted branch) (share branch))) decides_none))

put_room :
    (posted : Postings) (places : ℕ) (share : ℕ → ℕ) (person role branch : ℕ)
    → (ltb person 64 ≡ true) × (ltb role 16 ≡ true) × (ltb branch places ≡ true)
    → Decides (is_ok (put_checked posted places share person role branch)) ((posted person role branch ≡ false) × (postings_at posted branch < share branch))
put_room posted places share person role branch known =
    Decides-like (is_ok (put_checked posted places share person role branch)) (λ x. (x.1.0, x.1.1.0)) (λ x. (known, (x.0, (x.1, tt))))
    (put_decided posted places share person role branch)

-- and gives up one that it has
take_there :
    (posted : Postings) (places person role branch : ℕ)
    → (ltb person 64 ≡ true) × (ltb role 16 ≡ true) × (ltb branch places ≡ true)
    → Decides (is_ok (take_checked posted places person role branch)) (posted person role branch ≡ true)
take_there posted places person role branch known =
    Decides-like (is_ok (take_checked posted places person role branch)) (λ x. x.1.0) (λ x. (known, (x, tt)))
    (decides_then _ _ (three_tests (ltb person 64) (ltb role 16) (ltb branch places) _ _ _) (test_first (posted person role branch) _ (Ok tt) decides_none))

-- a posting that exists has the register's numbers
pub register_numbers :
    (w : Setup) (person role branch : ℕ)
    → KnownPosting w person role branch
    → (ltb person 64 ≡ true) × (ltb role 16 ≡ true) × (ltb branch w.register_branches ≡ true)
register_numbers w person role branch k =
    (k.0, (and_parts (ltb role 16) (ltb role w.plan.role_count && ltb role w.roles.members) k.1).0, (branch_parts w branch k.2).1)

-- a candidate leads
led_steps :
    (w : Setup) (c : Said) (known : Type 0) (candidates : ℕ → Bool) (Fits : ℕ → Type 0) (branch : ℕ)
    → ((place : ℕ) → Fits place → place < length c.posts)
    → known
    → ((place : ℕ) → Decides (candidates place) (known × Fits place))
    → Decides (is_ok (in_order (principal_steps w c candidates branch))) (Led w c Fits)
led_steps w c known candidates Fits branch sits is each =
    Decides-like (is_ok (in_order (principal_steps w c candidates branch))) (λ x. x.1.0)
    (λ led. ((some_fits w c known is candidates Fits sits each).1 (is, (led.place, led.candidate)), (led, tt)))
    (test_first (some_place c candidates) _ _ (decides_then _ (Ok tt) (decides_must _ _ (leader w c known is candidates Fits sits each)) decides_none))

-- and then one test is left
led_and :
    {L X : Type 0} (steps : Check) (test : Bool) (fault : EngineFault) (accepted : Accepted)
    → Decides (is_ok steps) L
    → Decides test X
    → Decides (is_ok (before steps (before (must test fault) (Ok accepted)))) (L × X)
led_and steps test fault accepted led d =
    Decides-like (is_ok (before steps (before (must test fault) (Ok accepted)))) (λ x. (x.0, x.1.0)) (λ x. (x.0, (x.1, tt)))
    (decides_before steps _ led (λ p. decides_before _ _ (decides_must test fault d) (λ q. decides_none)))

-- where a candidate is served by a line that is met, one is served
served_is :
    (w : Setup) (law : Orderly w) (s : State) (c : Said) (t : ℕ) (lines : Lines) (person role : ℕ)
    → is_branch w t ≡ true
    → ServedMet w s c lines person role t
    → is_some (served_place w c (view w s c t) lines role) ≡ true
served_is w law s c t lines person role is x =
    let served = met_is_served w law s c t lines person role x in
    (served_found w law s c t lines person role).1 (served.0, (is, served.1))

module _ (w : Setup) (law : Orderly w) (s : State) (c : Said) where
  -- there is a candidate for a branch that exists
  pub candidate_fits : (t : ℕ) → is_branch w t ≡ true → Decides (some_place c (candidate w s c t)) (SomeCandidate w s c t)
  candidate_fits t is = some_fits w c (is_branch w t ≡ true) is (candidate w s c t) (Candidate w s c t) (λ place x. x.sits) (candidate_counts w law s c t)

  -- decide
  pub decided_allowed :
      (operation piece : ℕ)
      → is_branch w (home_of w piece) ≡ true
      → Decides (is_ok (decide_row w c (view w s c (home_of w piece)) operation piece)) (CanAccess w s c operation piece)
  unfolding decide_row view
  decided_allowed operation piece known =
      let t = home_of w piece in
      Decides-like (is_ok (decide_row w c (view w s c t) operation piece))
      (λ x.
      let found = x.1.1.0 in
      let permit = found.1.1.1 in
      record {
        home = known;
        place = found.0;
        role = permit.0;
        candidate = found.1.1.0;
        below = permit.1.0;
        permit = permit.1.1;
        unbarred = x.1.0;
      })
      (λ x. (
        (candidate_fits t known).1 (known, (x.place, x.candidate)),
        (
          x.unbarred,
          (
            (x.place, (known, (x.candidate, (x.role, (x.below, x.permit))))),
            tt,
          ),
        ),
      ))
      (decides_before _ _ (decides_must _ _ (decides_self (some_place c (candidate w s c t))))
      (λ p. decides_before _ _ (decides_refuse Closed _ (open_unbarred w law s t))
      (λ p. decides_before _ _ (decides_must _ _ (permitted_found w law s c t operation (piece_of w piece).kind)) (λ p. decides_none))))

  -- sets and limits
  full_sets :
      (person role branch : ℕ)
      → Decides (not (is_some (full_set w (view w s c branch) person role)))
      ((number : ℕ) → number < w.plan.set_count → roles_then w s person role branch number < (get_or w.plan.sets number no_set).bound)
  unfolding full_set roles_of_set view
  full_sets person role branch =
      let roles : ℕ → ℕ = roles_then w s person role branch in
      let bound : ℕ → ℕ = λ number. (get_or w.plan.sets number no_set).bound in
      let full = first_below w.plan.set_count (λ number. leb (bound number) (roles number)) in
      Decides-like (not (is_some full))
      (λ none number h. elim (cases_lt (roles number) (bound number)) [ inl l ↦ l | inr g ↦ absurd (none (number, h, g)) ])
      (λ each found. let l = each found.0 found.1 in let g = found.2 in omega arith)
      (Decides-not (is_some full)
      (decides_first (λ number. bound number ≤ roles number) w.plan.set_count (λ number. leb (bound number) (roles number))
      (λ number h. (leb-true (bound number) (roles number), le-leb (bound number) (roles number)))))

  -- grant
  pub granted_allowed :
      (person role branch : ℕ)
      → KnownPosting w person role branch
      → Decides (is_ok (grant_row w c (view w s c branch) person role branch)) (MayGrant w s c person role branch)
  unfolding grant_row view
  granted_allowed person role branch known =
      let v = view w s c branch in
      Decides-like (is_ok (grant_row w c v person role branch))
      (λ x.
      let y = x.1.1.1 in
      let z = y.1.1 in
      record {
        stands = x.0;
        served = z.0.1;
        unbarred = y.0;
        belongs = y.1.0;
        sets = z.1.0.0;
        limit = z.1.0.1.0;
        fresh = z.1.1.0.0;
        room = z.1.1.0.1;
      })
      (λ x.
      let is = known.2 in
      let candidate = x.served.candidate in (
        x.stands,
        (
          (candidate_fits branch is).1 (is, (x.served.place, candidate)),
          (
            served_is w law s c branch (grant_lines w) person role is x.served,
            (x.unbarred, (x.belongs, ((is, x.served), ((x.sets, (x.limit, tt)), ((x.fresh, x.room), tt))))),
          ),
        ),
      ))
      (decides_before _ _ (decides_must _ _ (decides_self (may_stand_at w role branch)))
      (λ p. decides_before _ _ (decides_must _ _ (decides_self (some_place c (candidate w s c branch))))
      (λ p. decides_before _ _ (decides_must _ _ (decides_self (is_some (served_place w c v (grant_lines w) role))))
      (λ p. decides_before _ _ (decides_refuse Closed _ (open_unbarred w law s branch))
      (λ p. decides_before _ _ (decides_must _ _ (belongs_enrolment w law s person branch))
      (λ p. decides_before _ _ (decides_must _ _ (met_served w law s c branch (grant_lines w) person role))
      (λ p. decides_before _ _
      (decides_then _ _ (decides_refuse TooManyOf _ (full_sets person role branch))
      (decides_then _ (Ok tt)
      (decides_must _ _ (Decides-ltb (others_at s.posted person role branch) (get_or w.plan.roles role no_role).limit)) decides_none))
      (λ p. decides_before _ _
      (decides_register _ (put_room (λ x y z. v.posted x y) w.register_branches w.share person role branch (register_numbers w person role branch known)))
      (λ p. decides_none)))))))))

  -- take
  pub taken_allowed :
      (person role branch : ℕ)
      → KnownPosting w person role branch
      → Decides (is_ok (take_row w c (view w s c branch) person role branch)) (MayTake w s c person role branch)
  unfolding take_row view
  taken_allowed person role branch known =
      let v = view w s c branch in
      Decides-like (is_ok (take_row w c v person role branch))
      (λ x. record { served = x.1.1.0.1; posted = x.1.1.1.0 })
      (λ x.
      let is = known.2 in (
        (candidate_fits branch is).1 (is, (x.served.place, x.served.candidate)),
        (served_is w law s c branch (take_lines w) person role is x.served, ((is, x.served), (x.posted, tt))),
      ))
      (decides_before _ _ (decides_must _ _ (decides_self (some_place c (candidate w s c branch))))
      (λ p. decides_before _ _ (decides_must _ _ (decides_self (is_some (served_place w c v (take_lines w) role))))
      (λ p. decides_before _ _ (decides_must _ _ (met_served w law s c branch (take_lines w) person role))
      (λ p. decides_before _ _
      (decides_register _ (take_there (λ x y z. v.posted x y) w.register_branches person role branch (register_numbers w person role branch known)))
      (λ p. decides_none)))))

  -- a candidate for t leads, or a candidate for opening and closing t
  candidate_steps : (t : ℕ) → is_branch w t ≡ true → Decides (is_ok (in_order (principal_steps w c (candidate w s c t) t))) (Led w c (Candidate w s c t))
  candidate_steps t known =
      led_steps w c (is_branch w t ≡ true) (candidate w s c t) (Candidate w s c t) t (λ place x. x.sits) known (candidate_counts w law s c t)

  commander_steps : (t : ℕ) → is_branch w t ≡ true → Decides (is_ok (in_order (principal_steps w c (commander w s c t) t))) (Led w c (Commander w s c t))
  commander_steps t known =
      led_steps w c (is_branch w t ≡ true) (commander w s c t) (Commander w s c t) t (λ place x. x.candidate.sits) known (commander_leads w law s c t)

  -- enrol and strike
  pub enrolled_allowed :
      (person branch : ℕ) → is_branch w branch ≡ true → Decides (is_ok (enrol_row w c (view w s c branch) person branch)) (MayEnrol w s c person branch)
  unfolding enrol_row view
  enrolled_allowed person branch known =
      Decides-like (is_ok (enrol_row w c (view w s c branch) person branch))
      (λ x. record { led = x.0; unbarred = x.1.0; fresh = x.1.1.0 })
      (λ x. (x.led, (x.unbarred, (x.fresh, tt))))
      (decides_before _ _ (candidate_steps branch known)
      (λ p. decides_before _ _ (decides_refuse Closed _ (open_unbarred w law s branch))
      (λ p. decides_before _ _ (decides_must _ _ (decides_false (s.enrolled person branch))) (λ p. decides_none))))

  pub struck_allowed :
      (person branch : ℕ) → is_branch w branch ≡ true → Decides (is_ok (strike_row w c (view w s c branch) person branch)) (MayStrike w s c person branch)
  unfolding strike_row view
  struck_allowed person branch known =
      Decides-like (is_ok (strike_row w c (view w s c branch) person branch))
      (λ x. record { led = x.0; there = x.1 })
      (λ x. (x.led, x.there))
      (led_and _ _ _ _ (candidate_steps branch known) (decides_self (s.enrolled person branch)))

  -- open and close
  pub opened_allowed : (branch : ℕ) → is_branch w branch ≡ true → Decides (is_ok (open_row w c (view w s c branch) branch)) (MayMark w s c branch true)
  unfolding open_row view
  opened_allowed branch known =
      Decides-like (is_ok (open_row w c (view w s c branch) branch))
      (λ x. record { led = x.0; mark = x.1 })
      (λ x. (x.led, x.mark))
      (led_and _ _ _ _ (commander_steps branch known) (decides_self (s.closed branch)))

  pub shut_allowed : (branch : ℕ) → is_branch w branch ≡ true → Decides (is_ok (close_row w c (view w s c branch) branch)) (MayMark w s c branch false)
  unfolding close_row view
  shut_allowed branch known =
      Decides-like (is_ok (close_row w c (view w s c branch) branch))
      (λ x. record { led = x.0; mark = x.1 })
      (λ x. (x.led, x.mark))
      (led_and _ _ _ _ (commander_steps branch known) (decides_false (s.closed branch)))

  -- permit and forbid
  pub permitted_allowed :
      (operation kind role : ℕ)
      → is_branch w 0 ≡ true
      → Decides (is_ok (permit_row w c (view w s c 0) operation kind role)) (MayPermit w s c operation kind role false)
  unfolding permit_row view
  permitted_allowed operation kind role known =
      Decides-like (is_ok (permit_row w c (view w s c 0) operation kind role))
      (λ x. record { led = x.0; top = known; permit = x.1 })
      (λ x. (x.led, x.permit))
      (led_and _ _ _ _ (candidate_steps 0 known) (decides_false (s.permitted operation kind role)))

  pub forbidden_allowed :
      (operation kind role : ℕ)
      → is_branch w 0 ≡ true
      → Decides (is_ok (forbid_row w c (view w s c 0) operation kind role)) (MayPermit w s c operation kind role true)
  unfolding forbid_row view
  forbidden_allowed operation kind role known =
      Decides-like (is_ok (forbid_row w c (view w s c 0) operation kind role))
      (λ x. record { led = x.0; top = known; permit = x.1 })
      (λ x. (x.led, x.permit))
      (led_and _ _ _ _ (candidate_steps 0 known) (decides_self (s.permitted operation kind role)))
