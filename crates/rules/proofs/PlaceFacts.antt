-- What the searches through a sitting decide: of each of its places whether it is served, met, permitted or leads, and so of all.
use Rattle.std.proofs.Common.{◌≡◌, ℕ, ◌<◌, Bool, true, ◌&&◌, length, is_some, Decides}
use Rattle.std.proofs.lemmas.Bool.Decides.{Decides-and, Decides-eqb, Decides-like}
use Rattle.search.specs.Searches.{any_below}
use Rattle.messages.specs.Said.{Said}
use Rattle.rules.specs.Choices.{Lines, governs, governs_met, has_permit, line_at, met_place, permitted_place, principal_place, served_place, some_place}
use Rattle.rules.specs.Conditions.{Candidate, Led, ServedMet}
use Rattle.rules.specs.Promises.{Orderly}
use Rattle.rules.specs.Reasons.{LeadsAt, MetAt, Permits, PermittedAt, ServedAt, Governs, GovernsMet}
use Rattle.rules.specs.Setup.{Setup, State, is_branch, outranks}
use Rattle.rules.specs.Views.{candidate, view}
use Rattle.rules.specs.Words.{holds, is_for, post_at, serves}
use Rattle.rules.proofs.RowFacts.{decides_any, decides_self}
use Rattle.rules.proofs.WordFacts.{candidate_counts, decides_both, meets_held}
use Rattle.rules.proofs.ReasonFacts.{found_some}

-- the candidates that a sitting has for a branch that exists
module _ (w : Setup) (c : Said) (Exists : Type 0) (is : Exists) (candidates : ℕ → Bool) (Fits : ℕ → Type 0) (sits : (place : ℕ) → Fits place → place < length c.posts) (each : (place : ℕ) → Decides (candidates place) (Exists × Fits place)) where
  -- there is one
  pub some_fits : Decides (some_place c candidates) (Exists × ((place : ℕ) × Fits place))
  some_fits =
      Decides-like (some_place c candidates) (λ x. (x.2.0, (x.0, x.2.1))) (λ x. (x.1.0, sits x.1.0 x.1.1, (x.0, x.1.1)))
      (decides_any (λ place. Exists × Fits place) (length c.posts) candidates (λ place h. each place))

  abbrev pub leads : ℕ → Bool
  leads place = candidates place && outranks w (post_at c.posts place).role w.plan.principal

  -- which of them leads
  pub leads_at : (place : ℕ) → place < length c.posts → Decides (leads place) (LeadsAt w c Fits place)
  leads_at place h =
      Decides-like (leads place) (λ x. (x.0.1, x.1)) (λ x. ((is, x.0), x.1))
      (Decides-and (candidates place) (outranks w (post_at c.posts place).role w.plan.principal) (each place) (decides_self _))

  -- one does
  pub leader : Decides (is_some (principal_place w c candidates)) (Led w c Fits)
  unfolding principal_place
  leader =
      Decides-like (is_some (principal_place w c candidates)) (λ x. record { place = x.0; candidate = x.1.0; leads = x.1.1 }) (λ x. (x.place, (x.candidate, x.leads)))
      (found_some (LeadsAt w c Fits) (length c.posts) leads leads_at (λ place x. sits place x.0))

module _ (w : Setup) (law : Orderly w) (s : State) (c : Said) (t : ℕ) where
  -- a place is a candidate's, and something else holds of it
  candidate_and : {X : Type 0} (place : ℕ) (x : Bool) → Decides x X → Decides (candidate w s c t place && x) ((is_branch w t ≡ true) × (Candidate w s c t place × X))
  candidate_and place x d =
      Decides-like (candidate w s c t place && x) (λ e. (e.0.0, (e.0.1, e.1))) (λ e. ((e.0, e.1.0), e.1.1))
      (Decides-and (candidate w s c t place) x (candidate_counts w law s c t place) d)

  -- lines
  module _ (lines : Lines) (person role : ℕ) where
    abbrev pub holding : ℕ → Bool
    holding r = holds w s person r t

    pub governs_at : (place number : ℕ) → number < lines.count → Decides (governs w c lines role place number) (Governs w c lines role place number)
    unfolding governs
    governs_at place number h =
        let line = line_at lines number in
        let post = post_at c.posts place in
        Decides-like (governs w c lines role place number) (λ x. record { listed = h; governed = x.0; serves = x.1 }) (λ x. (x.governed, x.serves))
        (Decides-and (is_for line role) (serves w line post) (Decides-eqb line.governed role) (decides_self (serves w line post)))

    pub governs_met_at : (place number : ℕ) → number < lines.count → Decides (governs_met w c lines role holding place number) (GovernsMet w s c lines person role t place number)
    unfolding governs_met
    governs_met_at place number h =
        Decides-and (governs w c lines role place number) _ (governs_at place number h) (meets_held w law s person t (line_at lines number))

    pub served_at :
        (place : ℕ) → place < length c.posts
        → Decides (candidate w s c t place && any_below lines.count (governs w c lines role place)) ((is_branch w t ≡ true) × ServedAt w s c lines role t place)
    served_at place h =
        candidate_and place _
        (Decides-like _ (λ x. (x.0, x.2)) (λ x. (x.0, x.1.listed, x.1))
        (decides_any (Governs w c lines role place) lines.count (governs w c lines role place) (governs_at place)))

    pub met_at :
        (place : ℕ) → place < length c.posts
        → Decides (candidate w s c t place && any_below lines.count (governs_met w c lines role holding place)) ((is_branch w t ≡ true) × MetAt w s c lines person role t place)
    met_at place h =
        candidate_and place _
        (Decides-like _ (λ x. (x.0, x.2)) (λ x. (x.0, x.1.0.listed, x.1))
        (decides_any (GovernsMet w s c lines person role t place) lines.count (governs_met w c lines role holding place) (governs_met_at place)))

    -- a candidate is served by a line
    pub served_found : Decides (is_some (served_place w c (view w s c t) lines role)) ((place : ℕ) × ((is_branch w t ≡ true) × ServedAt w s c lines role t place))
    unfolding served_place view
    served_found = found_some (λ place. (is_branch w t ≡ true) × ServedAt w s c lines role t place) (length c.posts) _ served_at (λ place x. x.1.0.sits)

    -- and by one that is met
    pub met_served : Decides (is_some (met_place w c (view w s c t) lines person role)) ((is_branch w t ≡ true) × ServedMet w s c lines person role t)
    unfolding met_place view
    met_served =
        Decides-like (is_some (met_place w c (view w s c t) lines person role))
        (λ x.
        let line = x.1.1.1 in (
          x.1.0,
          record {
            place = x.0;
            number = line.0;
            candidate = x.1.1.0;
            listed = line.1.0.listed;
            governed = line.1.0.governed;
            serves = line.1.0.serves;
            met = line.1.1;
          },
        ))
        (λ x.
        let y = x.1 in
        (y.place, (x.0, (y.candidate, (y.number, (record { listed = y.listed; governed = y.governed; serves = y.serves }, y.met))))))
        (found_some (λ place. (is_branch w t ≡ true) × MetAt w s c lines person role t place) (length c.posts) _ met_at (λ place x. x.1.0.sits))

    -- a candidate that is served by a line that is met is served
    pub met_is_served : ServedMet w s c lines person role t → (place : ℕ) × ServedAt w s c lines role t place
    met_is_served x = (x.place, (x.candidate, (x.number, record { listed = x.listed; governed = x.governed; serves = x.serves })))

  -- permits
  module _ (operation kind : ℕ) where
    pub permits_at : (place role : ℕ) → Decides (has_permit w c (view w s c t) operation kind place role) (Permits w s c operation kind place role)
    unfolding has_permit view
    permits_at place role = decides_both (outranks w (post_at c.posts place).role role) (s.permitted operation kind role)

    pub permits_inside : (place role : ℕ) → Permits w s c operation kind place role → role < w.roles.members
    permits_inside place role x = (law.roles.inside (post_at c.posts place).role role x.0).1

    pub permitted_at :
        (place : ℕ) → place < length c.posts
        → Decides (candidate w s c t place && any_below w.roles.members (has_permit w c (view w s c t) operation kind place)) ((is_branch w t ≡ true) × PermittedAt w s c operation kind t place)
    permitted_at place h =
        candidate_and place _
        (Decides-like _ (λ x. (x.0, x.2)) (λ x. (x.0, permits_inside place x.0 x.1, x.1))
        (decides_any (Permits w s c operation kind place) w.roles.members (has_permit w c (view w s c t) operation kind place) (λ role i. permits_at place role)))

    -- a candidate has, at or below its role, one with the permit
    pub permitted_found : Decides (is_some (permitted_place w c (view w s c t) operation kind)) ((place : ℕ) × ((is_branch w t ≡ true) × PermittedAt w s c operation kind t place))
    unfolding permitted_place view
    permitted_found = found_some (λ place. (is_branch w t ≡ true) × PermittedAt w s c operation kind t place) (length c.posts) _ permitted_at (λ place x. x.1.0.sits)
