-- An accepted call makes exactly its change, and a refused one makes none.
use Rattle.std.proofs.Common.{◌≡◌, ℕ, Bool, true, false, not, ◌&&◌, ◌||◌, eqb, ◌⊎◌, List, is_some, is_ok, Ok, Err, Decides, sym, refl, ap, subst}
use Rattle.std.proofs.lemmas.Bool.{false≢true}
use Rattle.std.proofs.lemmas.Bool.Decides.{Decides-and, Decides-at, Decides-eqb, Decides-like, Decides-not, Decides-or}
use Rattle.registers.specs.Meaning.{Postings, same_posting}
use Rattle.messages.specs.Said.{Said}
use Rattle.messages.specs.declared.call.Call.{Call}
use Rattle.messages.specs.declared.call.Call.TheVariants.{Decide, Grant, Take, Throughout, Enrol, Strike, Open, Close, Permit, Forbid, Sit}
use Rattle.messages.specs.declared.post.Post.{Post}
use Rattle.rules.specs.Answers.{Answer}
use Rattle.rules.specs.Choices.{finds, met_place, take_lines, takes}
use Rattle.rules.specs.Changes.{EnrolmentsOnly, Gone, Makes, MarksOnly, PermitsOnly, PostingsOnly, Same, Taken}
use Rattle.rules.specs.Conditions.{Known, ServedMet}
use Rattle.rules.specs.Promises.{MakesItsChange, Orderly, RefusedChangesNothing, found_in}
use Rattle.rules.specs.Runs.{after, answer, changed, next, same_enrolment, same_permit, with_closed, with_enrolled, with_permitted, with_posted}
use Rattle.rules.specs.Setup.{Setup, State, is_branch, outranks, over}
use Rattle.rules.specs.Views.{sight, view}
use Rattle.rules.proofs.RowFacts.{decides_and_then, decides_self}
use Rattle.rules.proofs.WordFacts.{decides_both}
use Rattle.rules.proofs.PlaceFacts.{met_served}
use Rattle.rules.proofs.SightFacts.{finds_in, over_one, sight_view}
use Rattle.rules.proofs.Acceptance.{accepted_when_allowed}

-- the state after an answer
accepted_after : (w : Setup) (s : State) (c : Said) (a : Answer) → is_ok a ≡ true → after w s c a ≡ changed w s c c.call
accepted_after w s c (Ok accepted) e = refl
accepted_after w s c (Err fault) e = absurd (false≢true e)

pub refused_after : (w : Setup) (s : State) (c : Said) (a : Answer) → is_ok a ≡ false → after w s c a ≡ s
refused_after w s c (Ok accepted) e = absurd (false≢true (sym e))
refused_after w s c (Err fault) e = refl

pub next_changed : (w : Setup) (s : State) (c : Said) → is_ok (answer w s c) ≡ true → next w s c ≡ changed w s c c.call
unfolding next
next_changed w s c e = accepted_after w s c (answer w s c) e

pub refused_changes_nothing : RefusedChangesNothing
unfolding next
refused_changes_nothing w s c e = refused_after w s c (answer w s c) e

-- one more in a set, and some no more in it
put_in : {P : Type 0} (same was : Bool) → Decides same P → Decides (same || was) (P ⊎ (was ≡ true))
put_in same was d = Decides-or same was d (decides_self was)

gone_from : {P : Type 0} (same was : Bool) → Decides same P → Decides (not same && was) ((was ≡ true) × (P → ⊥))
gone_from same was d =
    Decides-like (not same && was) (λ x. (x.1, x.0)) (λ x. (x.1, x.0)) (Decides-and (not same) was (Decides-not same d) (decides_self was))

-- two or three numbers are the same
two_same : (a b x y : ℕ) → Decides (eqb x a && eqb y b) ((x ≡ a) × (y ≡ b))
two_same a b x y = Decides-and (eqb x a) (eqb y b) (Decides-eqb x a) (Decides-eqb y b)

three_same : (a b c x y z : ℕ) → Decides (eqb x a && (eqb y b && eqb z c)) ((x ≡ a) × (y ≡ b) × (z ≡ c))
three_same a b c x y z =
    Decides-like (eqb x a && (eqb y b && eqb z c)) (λ e. (e.0, e.1.0, e.1.1)) (λ e. (e.0, (e.1, e.2)))
    (Decides-and (eqb x a) (eqb y b && eqb z c) (Decides-eqb x a) (two_same b c y z))

pub same_posting_lem : (person role branch x y z : ℕ) → Decides (same_posting person role branch x y z) ((x ≡ person) × (y ≡ role) × (z ≡ branch))
same_posting_lem person role branch x y z =
    Decides-like (same_posting person role branch x y z) (λ e. (e.1, e.2, e.0)) (λ e. (e.2, e.0, e.1)) (three_same branch person role z x y)

same_enrolment_lem : (person branch x z : ℕ) → Decides (same_enrolment person branch x z) ((x ≡ person) × (z ≡ branch))
same_enrolment_lem person branch x z =
    Decides-like (same_enrolment person branch x z) (λ e. (e.1, e.0)) (λ e. (e.1, e.0)) (two_same branch person z x)

-- all but one part of the state stays as it was
unchanged : (s : State) → Same s s
unchanged s = record { posted = λ x y z. refl; enrolled = λ x z. refl; closed = λ z. refl; permitted = λ x y z. refl }

postings_only : {P : Type 0} (s : State) (posted : Postings) → P → PostingsOnly s (with_posted s posted) P
postings_only s posted p = record { posted = p; enrolled = λ x z. refl; closed = λ z. refl; permitted = λ x y z. refl }

enrolments_only : {P : Type 0} (s : State) (enrolled : ℕ → ℕ → Bool) → P → EnrolmentsOnly s (with_enrolled s enrolled) P
enrolments_only s enrolled p = record { posted = λ x y z. refl; enrolled = p; closed = λ z. refl; permitted = λ x y z. refl }

marks_only : {P : Type 0} (s : State) (closed : ℕ → Bool) → P → MarksOnly s (with_closed s closed) P
marks_only s closed p = record { posted = λ x y z. refl; enrolled = λ x z. refl; closed = p; permitted = λ x y z. refl }

permits_only : {P : Type 0} (s : State) (permitted : ℕ → ℕ → ℕ → Bool) → P → PermitsOnly s (with_permitted s permitted) P
permits_only s permitted p = record { posted = λ x y z. refl; enrolled = λ x z. refl; closed = λ z. refl; permitted = p }

module _ (w : Setup) (law : Orderly w) (s : State) where
  -- what throughout takes
  pub takes_served :
      (sitter person role branch : ℕ) (posts : List Post)
      → let c : Said = record { person = sitter; posts = posts; call = Throughout person role branch } in
      Known w c → (z y : ℕ)
      → Decides (takes w c (sight w s c) person role branch z y)
      (((over w z branch ≡ true) × ((outranks w y role ≡ true) × (s.posted person y z ≡ true)))
      × ((is_branch w z ≡ true) × ServedMet w s c (take_lines w) person y z))
  unfolding takes
  takes_served sitter person role branch posts k z y =
      let c : Said = record { person = sitter; posts = posts; call = Throughout person role branch } in
      let found = finds w (sight w s c) person role branch z y in
      let met = is_some (met_place w c (sight w s c z) (take_lines w) person y) in
      decides_and_then found met
      (Decides-at found (found_in w s person role branch z y) (finds_in w s sitter person role branch posts k z y)
      (Decides-and (over w z branch) (outranks w y role && s.posted person y z) (decides_self (over w z branch))
      (decides_both (outranks w y role) (s.posted person y z))))
      (λ x.
      Decides-at met (is_some (met_place w c (view w s c z) (take_lines w) person y))
      (ap (λ v. is_some (met_place w c v (take_lines w) person y)) (sight_view w s c z k (over_one w branch z x.0)))
      (met_served w law s c z (take_lines w) person y))

  taken_gone :
      (sitter person role branch : ℕ) (posts : List Post)
      → let c : Said = record { person = sitter; posts = posts; call = Throughout person role branch } in
      Known w c → Gone s (changed w s c (Throughout person role branch)) (Taken w s c person role branch)
  taken_gone sitter person role branch posts k x y z =
      let c : Said = record { person = sitter; posts = posts; call = Throughout person role branch } in
      let take = takes w c (sight w s c) person role branch z y in
      Decides-like (not (take && eqb x person) && s.posted x y z)
      (λ h. (
        h.0,
        λ t. h.1
            (((t.higher, (t.ranking, subst (λ p. s.posted p y z ≡ true) t.whose h.0)), (t.there, t.served)), t.whose),
      ))
      (λ h. (
        h.0,
        λ t. h.1
            (record { whose = t.1; there = t.0.1.0; higher = t.0.0.0; ranking = t.0.0.1.0; served = t.0.1.1 }),
      ))
      (gone_from (take && eqb x person) (s.posted x y z)
      (Decides-and take (eqb x person) (takes_served sitter person role branch posts k z y) (Decides-eqb x person)))

  -- the change of each call
  changes_made :
      (sitter : ℕ) (posts : List Post) (call : Call)
      → let c : Said = record { person = sitter; posts = posts; call = call } in
      Known w c → Makes w s (changed w s c call) c call
  changes_made sitter posts (Decide operation piece) k = unchanged s
  changes_made sitter posts (Grant person role branch) k =
      postings_only s _ (λ x y z. put_in (same_posting person role branch x y z) (s.posted x y z) (same_posting_lem person role branch x y z))
  changes_made sitter posts (Take person role branch) k =
      postings_only s _ (λ x y z. gone_from (same_posting person role branch x y z) (s.posted x y z) (same_posting_lem person role branch x y z))
  changes_made sitter posts (Throughout person role branch) k = postings_only s _ (taken_gone sitter person role branch posts k)
  changes_made sitter posts (Enrol person branch) k =
      enrolments_only s _ (λ x z. put_in (same_enrolment person branch x z) (s.enrolled x z) (same_enrolment_lem person branch x z))
  changes_made sitter posts (Strike person branch) k =
      enrolments_only s _ (λ x z. gone_from (same_enrolment person branch x z) (s.enrolled x z) (same_enrolment_lem person branch x z))
  changes_made sitter posts (Open branch) k = marks_only s _ (λ z. gone_from (eqb z branch) (s.closed z) (Decides-eqb z branch))
  changes_made sitter posts (Close branch) k = marks_only s _ (λ z. put_in (eqb z branch) (s.closed z) (Decides-eqb z branch))
  changes_made sitter posts (Permit operation kind role) k =
      permits_only s _ (λ x y z. put_in (same_permit operation kind role x y z) (s.permitted x y z) (three_same operation kind role x y z))
  changes_made sitter posts (Forbid operation kind role) k =
      permits_only s _ (λ x y z. gone_from (same_permit operation kind role x y z) (s.permitted x y z) (three_same operation kind role x y z))
  changes_made sitter posts Sit k = unchanged s

pub makes_its_change : MakesItsChange
makes_its_change w law s c e =
    let known : Known w c = ((accepted_when_allowed w law s c).0 e).0 in
    subst (λ s'. Makes w s s' c c.call) (sym (next_changed w s c e)) (changes_made w law s c.person c.posts c.call known)
