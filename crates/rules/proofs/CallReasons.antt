-- The checks of each call, one after the other, against the reasons of the call.
use Rattle.std.proofs.Common.{◌≡◌, ℕ, ◌<◌, Bool, true, false, not, ◌&&◌, ltb, leb, length, get_or, is_some, Ok, Decides, sym, refl, ap, ◌∙◌, subst}
use Rattle.std.specs.Option.{unwrap_or}
use Rattle.std.proofs.lemmas.Bool.{le-leb, leb-true}
use Rattle.std.proofs.lemmas.Bool.Decides.{Decides-like, Decides-ltb, not_from_Decides}
use Rattle.refusals.proofs.Rows.{must_of, passed_all}
use Rattle.refusals.specs.Checks.{in_order, must, then}
use Rattle.plans.specs.Role.{no_role}
use Rattle.plans.specs.Set.{no_set}
use Rattle.registers.specs.Meaning.{Postings, number_steps, others_at, postings_at, put_checked, take_checked}
use Rattle.registers.specs.declared.fault.RegisterFault.{RegisterFault}
use Rattle.registers.specs.declared.fault.RegisterFault.TheVariants.{NoPerson, NoRole, NoBranch, NotPosted, Posted, Full}
use Rattle.messages.specs.Said.{Said}
use Rattle.rules.specs.Answers.{Answer}
use Rattle.rules.specs.Calls.{line_answer, principal_answer, principal_steps}
use Rattle.rules.specs.Choices.{Lines, full_set, has_permit, met_line, met_place, permitted_place, permitted_role, principal_place, roles_of_set, served_place, serving_line, sets_and_limits, some_place}
use Rattle.rules.specs.Conditions.{Led, ServedMet, roles_then}
use Rattle.rules.specs.Promises.{Orderly}
use Rattle.rules.specs.Reasons.{Accepts, Bars, Lacks, LeadsAt, Lowest, MeetsNone, MetAt, NamesLeader, NamesLine, NamesRole, Permits, PermittedAt, Refuses, ServedAt, Governs, GovernsMet, TooMany}
use Rattle.rules.specs.Rows.{before, by_register, refuse_at}
use Rattle.rules.specs.Setup.{Setup, State, is_branch, over}
use Rattle.rules.specs.Views.{view}
use Rattle.rules.specs.Words.{closed_over}
use Rattle.rules.specs.declared.answer.Accepted.TheVariants.{Allowed}
use Rattle.rules.specs.declared.fault.EngineFault.TheVariants.{NoCandidate, NotGoverned, Closed, TooManyOf, LimitReached, Register}
use Rattle.rules.proofs.RowFacts.{decides_false, decides_self}
use Rattle.rules.proofs.WordFacts.{decides_both}
use Rattle.rules.proofs.PlaceFacts.{leader, leads_at, met_at, met_served, permits_at, permits_inside, permitted_at, permitted_found, served_at, served_found, governs_at, governs_met_at, some_fits}
use Rattle.rules.proofs.ReasonFacts.{found_some, lowest_told, searched, two_inside, wanted}

-- of the candidates that a sitting has for a branch that exists
module _ (w : Setup) (c : Said) (Exists : Type 0) (is : Exists) (candidates : ℕ → Bool) (Fits : ℕ → Type 0) (sits : (place : ℕ) → Fits place → place < length c.posts) (each : (place : ℕ) → Decides (candidates place) (Exists × Fits place)) where
  -- the first that leads is the one named
  pub leader_named : Led w c Fits → Accepts (NamesLeader w c Fits) (Ok (principal_answer w c candidates))
  unfolding principal_place
  leader_named led =
      record {
        accepted = principal_answer w c candidates;
        named = record {
          place = unwrap_or (principal_place w c candidates) 0;
          names = refl;
          first = lowest_told (LeadsAt w c Fits) (length c.posts) _ (leads_at w c Exists is candidates Fits sits each) ((leader w c Exists is candidates Fits sits each).1 led);
        };
        is = refl;
      }

  -- that there is one, and one that leads, are two steps
  pub leader_steps :
      {Rest : Answer → Type 0} (t : ℕ) (rest : Answer)
      → (Led w c Fits → Rest rest)
      → Refuses (Lacks t (Exists × ((place : ℕ) × Fits place))) NoCandidate
      (Refuses (Lacks w.plan.principal (Led w c Fits)) NotGoverned Rest)
      (before (in_order (principal_steps w c candidates t)) rest)
  leader_steps {Rest = Rest} t rest go =
      let first = must (some_place c candidates) (NoCandidate t) in
      let second = must (is_some (principal_place w c candidates)) (NotGoverned w.plan.principal) in
      subst
      (λ a.
      Refuses (Lacks t (Exists × ((place : ℕ) × Fits place))) NoCandidate
      (Refuses (Lacks w.plan.principal (Led w c Fits)) NotGoverned Rest)
      a)
      (sym (two_inside first second rest))
      (wanted (some_place c candidates) t NoCandidate _ (some_fits w c Exists is candidates Fits sits each)
      (λ some. wanted (is_some (principal_place w c candidates)) w.plan.principal NotGoverned _ (leader w c Exists is candidates Fits sits each) go))

module _ (w : Setup) (law : Orderly w) (s : State) (c : Said) (t : ℕ) where
  -- the mark that bars is the lowest
  pub barred :
      {Rest : Answer → Type 0} (rest : Answer)
      → Rest rest
      → Refuses (Lowest (Bars w s t)) Closed Rest (before (refuse_at Closed (closed_over w s t)) rest)
  unfolding closed_over
  barred rest go =
      searched (Bars w s t) w.branches.members (λ o. over w o t && s.closed o) Closed rest (λ o h. decides_both (over w o t) (s.closed o))
      (λ o b. (law.branches.inside o t b.0).0) (λ none. go)

  module _ (is : is_branch w t ≡ true) where
    -- it is known that the branch exists
    there : {X : Type 0} (r : Bool) → Decides r ((is_branch w t ≡ true) × X) → Decides r X
    there r d = Decides-like r (λ x. x.1) (λ x. (is, x)) d

    -- lines
    module _ (lines : Lines) (person role : ℕ) where
      -- a candidate is served, and by a line that is met
      pub served_some : Decides (is_some (served_place w c (view w s c t) lines role)) ((place : ℕ) × ServedAt w s c lines role t place)
      served_some =
          Decides-like (is_some (served_place w c (view w s c t) lines role)) (λ x. (x.0, x.1.1)) (λ x. (x.0, (is, x.1)))
          (served_found w law s c t lines person role)

      pub met_some : Decides (is_some (met_place w c (view w s c t) lines person role)) (ServedMet w s c lines person role t)
      met_some = there (is_some (met_place w c (view w s c t) lines person role)) (met_served w law s c t lines person role)

      -- where none is met, the line that is told
      pub unmet_told :
          (place : ℕ) × ServedAt w s c lines role t place
          → is_some (met_place w c (view w s c t) lines person role) ≡ false
          → MeetsNone w s c lines person role t (serving_line w c (view w s c t) lines role)
      unfolding serving_line served_place view
      unmet_told some fails =
          let place = unwrap_or (served_place w c (view w s c t) lines role) 0 in
          let first : Lowest (ServedAt w s c lines role t) place =
          lowest_told (ServedAt w s c lines role t) (length c.posts) _ (λ p h. there _ (served_at w law s c t lines person role p h)) (served_some.1 some) in
          let each = governs_at w law s c t lines person role place in
          record {
            place = place;
            first = first;
            lowest = lowest_told (Governs w c lines role place) lines.count _ each ((found_some (Governs w c lines role place) lines.count _ each (λ number x. x.listed)).1 first.fits.1);
            unmet = not_from_Decides (is_some (met_place w c (view w s c t) lines person role)) met_some fails;
          }

      -- and where one is, the line that is named
      pub line_named : ServedMet w s c lines person role t → NamesLine w s c lines person role t (line_answer w c (view w s c t) lines person role)
      unfolding met_line met_place view
      line_named some =
          let place = unwrap_or (met_place w c (view w s c t) lines person role) 0 in
          let first : Lowest (MetAt w s c lines person role t) place =
          lowest_told (MetAt w s c lines person role t) (length c.posts) _ (λ p h. there _ (met_at w law s c t lines person role p h)) (met_some.1 some) in
          let each = governs_met_at w law s c t lines person role place in
          record {
            place = place;
            line = met_line w c (view w s c t) lines person role;
            names = refl;
            first = first;
            lowest = lowest_told (GovernsMet w s c lines person role t place) lines.count _ each ((found_some (GovernsMet w s c lines person role t place) lines.count _ each (λ number x. x.0.listed)).1 first.fits.1);
          }

    -- permits
    module _ (operation kind : ℕ) where
      -- a candidate has a role with the permit
      pub permitted_some : Decides (is_some (permitted_place w c (view w s c t) operation kind)) ((place : ℕ) × PermittedAt w s c operation kind t place)
      permitted_some =
          Decides-like (is_some (permitted_place w c (view w s c t) operation kind)) (λ x. (x.0, x.1.1)) (λ x. (x.0, (is, x.1)))
          (permitted_found w law s c t operation kind)

      -- and the one that is named
      pub role_named :
          (place : ℕ) × PermittedAt w s c operation kind t place
          → NamesRole w s c operation kind t (Allowed (unwrap_or (permitted_place w c (view w s c t) operation kind) 0) (permitted_role w c (view w s c t) operation kind))
      unfolding permitted_role permitted_place view
      role_named some =
          let place = unwrap_or (permitted_place w c (view w s c t) operation kind) 0 in
          let first : Lowest (PermittedAt w s c operation kind t) place =
          lowest_told (PermittedAt w s c operation kind t) (length c.posts) _ (λ p h. there _ (permitted_at w law s c t operation kind p h)) (permitted_some.1 some) in
          let each : (role : ℕ) → role < w.roles.members → Decides (has_permit w c (view w s c t) operation kind place role) (Permits w s c operation kind place role) =
          λ role i. permits_at w law s c t operation kind place role in
          record {
            place = place;
            role = permitted_role w c (view w s c t) operation kind;
            names = refl;
            first = first;
            lowest = lowest_told (Permits w s c operation kind place) w.roles.members _ each ((found_some (Permits w s c operation kind place) w.roles.members _ each (permits_inside w law s c t operation kind place)).1 first.fits.1);
          }

    -- sets and limits
    too_many_at :
        (person role number : ℕ) → number < w.plan.set_count
        → Decides (leb (get_or w.plan.sets number no_set).bound (roles_of_set w (view w s c t) person role number)) (TooMany w s person role t number)
    unfolding roles_of_set view
    too_many_at person role number h =
        let bound = (get_or w.plan.sets number no_set).bound in
        let roles = roles_then w s person role t number in
        Decides-like (leb bound roles) (λ x. (h, x)) (λ x. x.1) (leb-true bound roles, le-leb bound roles)

    pub limited :
        {Rest : Answer → Type 0} (person role : ℕ) (rest : Answer)
        → Rest rest
        → Refuses (Lowest (TooMany w s person role t)) TooManyOf
        (Refuses (Lacks role (others_at s.posted person role t < (get_or w.plan.roles role no_role).limit)) LimitReached Rest)
        (before (in_order (sets_and_limits w (view w s c t) person role t)) rest)
    unfolding full_set view
    limited {Rest = Rest} person role rest go =
        let limit = (get_or w.plan.roles role no_role).limit in
        let first = refuse_at TooManyOf (full_set w (view w s c t) person role) in
        let second = must (ltb (others_at s.posted person role t) limit) (LimitReached role) in
        subst
        (λ a.
        Refuses (Lowest (TooMany w s person role t)) TooManyOf
        (Refuses (Lacks role (others_at s.posted person role t < limit)) LimitReached Rest)
        a)
        (sym (two_inside first second rest))
        (searched (TooMany w s person role t) w.plan.set_count _ TooManyOf _ (too_many_at person role) (λ number x. x.0)
        (λ none. wanted (ltb (others_at s.posted person role t) limit) role LimitReached rest (Decides-ltb (others_at s.posted person role t) limit) (λ few. go)))

-- the register's checks of a posting whose numbers it has
registered :
    (a b : Bool) (f g : RegisterFault) (rest : Answer)
    → before (by_register (then (must a f) (then (must b g) (Ok tt)))) rest ≡ before (must a (Register f)) (before (must b (Register g)) rest)
registered true true f g rest = refl
registered true false f g rest = refl
registered false b f g rest = refl

one_registered : (a : Bool) (f : RegisterFault) (rest : Answer) → before (by_register (then (must a f) (Ok tt))) rest ≡ before (must a (Register f)) rest
one_registered true f rest = refl
one_registered false f rest = refl

module _ (posted : Postings) (places person role branch : ℕ) (known : (ltb person 64 ≡ true) × (ltb role 16 ≡ true) × (ltb branch places ≡ true)) where
  numbers : in_order (number_steps places person role branch) ≡ Ok tt
  numbers = passed_all (number_steps places person role branch) (must_of _ NoPerson known.0, (must_of _ NoRole known.1, (must_of _ NoBranch known.2, tt)))

  pub put_reasons :
      {Rest : Answer → Type 0} (share : ℕ → ℕ) (rest : Answer)
      → Rest rest
      → Refuses (Lacks branch (posted person role branch ≡ false)) (λ b. Register (Posted b))
      (Refuses (Lacks branch (postings_at posted branch < share branch)) (λ b. Register (Full b)) Rest)
      (before (by_register (put_checked posted places share person role branch)) rest)
  put_reasons {Rest = Rest} share rest go =
      let there = posted person role branch in
      let room = ltb (postings_at posted branch) (share branch) in
      subst
      (λ a.
      Refuses (Lacks branch (there ≡ false)) (λ b. Register (Posted b))
      (Refuses (Lacks branch (postings_at posted branch < share branch)) (λ b. Register (Full b)) Rest)
      a)
      (sym (ap (λ n. before (by_register (then n (then (must (not there) (Posted branch)) (then (must room (Full branch)) (Ok tt))))) rest) numbers
      ∙ registered (not there) room (Posted branch) (Full branch) rest))
      (wanted (not there) branch (λ b. Register (Posted b)) _ (decides_false there)
      (λ fresh. wanted room branch (λ b. Register (Full b)) rest (Decides-ltb (postings_at posted branch) (share branch)) (λ some. go)))

  pub take_reasons :
      {Rest : Answer → Type 0} (rest : Answer)
      → Rest rest
      → Refuses (Lacks branch (posted person role branch ≡ true)) (λ b. Register (NotPosted b)) Rest
      (before (by_register (take_checked posted places person role branch)) rest)
  take_reasons {Rest = Rest} rest go =
      let there = posted person role branch in
      subst (λ a. Refuses (Lacks branch (there ≡ true)) (λ b. Register (NotPosted b)) Rest a)
      (sym (ap (λ n. before (by_register (then n (then (must there (NotPosted branch)) (Ok tt)))) rest) numbers ∙ one_registered there (NotPosted branch) rest))
      (wanted there branch (λ b. Register (NotPosted b)) rest (decides_self there) (λ is. go))
