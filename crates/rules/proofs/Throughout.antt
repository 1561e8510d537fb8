-- Throughout: what it takes, and that it is accepted where it would take something.
use Rattle.std.proofs.Common.{◌≡◌, ℕ, Bool, true, false, cond, ◌&&◌, List, length, is_some, is_ok, Ok, Err, sym, refl, ◌∙◌}
use Rattle.std.proofs.lemmas.Bool.{and_parts, both_ways}
use Rattle.search.specs.Searches.{any_below}
use Rattle.search.proofs.Searches.{any_some, first_any}
use Rattle.messages.specs.Said.{Said}
use Rattle.messages.specs.declared.call.Call.TheVariants.{Throughout}
use Rattle.messages.specs.declared.post.Post.{Post}
use Rattle.rules.specs.Choices.{finds, governs_met, met_place, take_lines, takes}
use Rattle.rules.specs.Changes.{Taken}
use Rattle.rules.specs.Conditions.{Known}
use Rattle.rules.specs.Numbers.{numbers_checked}
use Rattle.rules.specs.Promises.{Orderly}
use Rattle.rules.specs.Rows.{Check}
use Rattle.rules.specs.Runs.{answer}
use Rattle.rules.specs.Setup.{Setup, State}
use Rattle.rules.specs.Views.{about, about_if, blank, branches_of, over_some, sight, view}
use Rattle.rules.specs.Words.{post_at}
use Rattle.rules.proofs.KnownFacts.{numbers_known}
use Rattle.rules.proofs.Acceptance.{accepted_when_allowed}
use Rattle.rules.proofs.Effects.{takes_served}

-- only a call whose numbers all exist sees a candidate
seen_passed : (w : Setup) (s : State) (c : Said) (o place : ℕ) (numbers : Check) →
    (cond (over_some w (about_if numbers (branches_of w c.posts c.call)) o) (view w s c o) blank).candidate place ≡ true → is_ok numbers ≡ true
unfolding blank
seen_passed w s c o place (Ok passed) h = refl
seen_passed w s c o place (Err fault) h = absurd (both_ways false refl h)

seen_known : (w : Setup) (s : State) (c : Said) (o place : ℕ) → (sight w s c o).candidate place ≡ true → Known w c
unfolding sight about
seen_known w s c o place h = (numbers_known w c).0 (seen_passed w s c o place (numbers_checked w c) h)

-- so only such a call takes a posting
takes_known : (w : Setup) (s : State) (c : Said) (person role branch o q : ℕ) → takes w c (sight w s c) person role branch o q ≡ true → Known w c
unfolding takes met_place
takes_known w s c person role branch o q h =
    let v = sight w s c o in
    let serving : ℕ → Bool = λ place. any_below (take_lines w).count (governs_met w c (take_lines w) q (v.holding person) place) in
    let fits : ℕ → Bool = λ place. v.candidate place && serving place in
    let met = (and_parts (finds w (sight w s c) person role branch o q) (is_some (met_place w c v (take_lines w) person q)) h).1 in
    let some = any_some fits (length c.posts) (sym (first_any fits (length c.posts)) ∙ met) in
    seen_known w s c o some.0 (and_parts (v.candidate some.0) (serving some.0) some.2).0

module _ (w : Setup) (law : Orderly w) (s : State) (sitter person role branch : ℕ) (posts : List Post) (o q : ℕ) where
  abbrev pub clearing : Said
  clearing = record { person = sitter; posts = posts; call = Throughout person role branch }

  -- what it takes is found, and some counting post stands over it with a take line that the person meets
  pub taken_so : takes w clearing (sight w s clearing) person role branch o q ≡ true → Taken w s clearing person role branch person q o
  taken_so h =
      let t = (takes_served w law s sitter person role branch posts (takes_known w s clearing person role branch o q h) o q).0 h in
      record { whose = refl; there = t.1.0; higher = t.0.0; ranking = t.0.1.0; served = t.1.1 }

  -- where it would take something, it is accepted
  pub takes_accepted : takes w clearing (sight w s clearing) person role branch o q ≡ true → is_ok (answer w s clearing) ≡ true
  takes_accepted h =
      let known = takes_known w s clearing person role branch o q h in
      let t = (takes_served w law s sitter person role branch posts known o q).0 h in
      let post = t.1.1.candidate in
      let above = law.branches.transitive (post_at posts t.1.1.place).branch o branch post.higher t.0.0 in
      (accepted_when_allowed w law s clearing).1 (
        known,
        record {
          place = t.1.1.place;
          candidate = record { sits = post.sits; higher = above; counting = post.counting };
          found = record { branch = o; rank = q; higher = t.0.0; ranking = t.0.1.0; posted = t.0.1.1 };
        },
      )
