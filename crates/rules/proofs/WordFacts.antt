-- What the words of the rules decide: open, holds, belongs, counts, candidate, commander, meets.
use Rattle.std.proofs.Common.{◌≡◌, ℕ, ◌<◌, Bool, true, not, ◌&&◌, ◌||◌, eqb, ltb, ◌⊎◌, length, is_some, Decides, inl, inr}
use Rattle.std.proofs.lemmas.Bool.{both_ways, cases_Bool}
use Rattle.std.proofs.lemmas.Bool.Decides.{Decides-and, Decides-eqb, Decides-like, Decides-ltb, Decides-not, Decides-or}
use Rattle.refusals.specs.Checks.{all}
use Rattle.orders.specs.Masks.{has_bit}
use Rattle.plans.specs.declared.line.Line.{Line}
use Rattle.messages.specs.Said.{Said}
use Rattle.messages.specs.declared.post.Post.{Post}
use Rattle.rules.specs.Conditions.{Belongs, Candidate, Commander, Counts, Holds, Meets, Unbarred}
use Rattle.rules.specs.Promises.{Orderly}
use Rattle.rules.specs.Setup.{Setup, State, is_branch, outranks, over, may_stand_at}
use Rattle.rules.specs.Views.{candidate, commander}
use Rattle.rules.specs.Words.{belongs, closed_over, commands, counts, holds, is_open, meets, meets_as, post_at, posted_to, stands_over, strictly_over}
use Rattle.rules.proofs.RowFacts.{decides_all, decides_any, decides_first, decides_implies, decides_self}

-- two tests that both hold
pub decides_both : (x y : Bool) → Decides (x && y) ((x ≡ true) × (y ≡ true))
decides_both x y = Decides-and x y (decides_self x) (decides_self y)

module _ (w : Setup) (law : Orderly w) (s : State) where
  -- open: the search for a closed mark finds none
  pub open_unbarred : (t : ℕ) → Decides (is_open w s t) (Unbarred w s t)
  unfolding closed_over
  open_unbarred t =
      Decides-like (is_open w s t)
      (λ none o h. elim (cases_Bool (s.closed o)) [ inl e ↦ absurd (none (o, (law.branches.inside o t h).0, (h, e))) | inr e ↦ e ])
      (λ each found. both_ways (s.closed found.0) (each found.0 found.2.0) found.2.1)
      (Decides-not (is_some (closed_over w s t))
      (decides_first (λ o. (over w o t ≡ true) × (s.closed o ≡ true)) w.branches.members (λ o. over w o t && s.closed o)
      (λ o h. decides_both (over w o t) (s.closed o))))

  posted_to_lem :
      (person role o : ℕ)
      → Decides (posted_to w s person role o) ((q : ℕ) × (q < w.roles.members) × ((outranks w q role ≡ true) × (s.posted person q o ≡ true)))
  unfolding posted_to
  posted_to_lem person role o =
      decides_any (λ q. (outranks w q role ≡ true) × (s.posted person q o ≡ true)) w.roles.members
      (λ q. outranks w q role && s.posted person q o)
      (λ q h. decides_both (outranks w q role) (s.posted person q o))

  pub holds_posting : (person role t : ℕ) → Decides (holds w s person role t) (Holds w s person role t)
  unfolding holds
  holds_posting person role t =
      Decides-like (holds w s person role t)
      (λ found.
      let there = found.2.1 in
      record { branch = found.0; rank = there.0; higher = found.2.0; ranking = there.2.0; posted = there.2.1 })
      (λ h. (
        h.branch,
        (law.branches.inside h.branch t h.higher).0,
        (h.higher, (h.rank, (law.roles.inside h.rank role h.ranking).0, (h.ranking, h.posted))),
      ))
      (decides_any
      (λ o. (over w o t ≡ true) × ((q : ℕ) × (q < w.roles.members) × ((outranks w q role ≡ true) × (s.posted person q o ≡ true))))
      w.branches.members
      (λ o. over w o t && posted_to w s person role o)
      (λ o h. Decides-and (over w o t) (posted_to w s person role o) (decides_self (over w o t)) (posted_to_lem person role o)))

  pub belongs_enrolment : (person t : ℕ) → Decides (belongs w s person t) (Belongs w s person t)
  unfolding belongs
  belongs_enrolment person t =
      Decides-like (belongs w s person t)
      (λ found. record { branch = found.0; higher = found.2.0; enrolled = found.2.1 })
      (λ b. (b.branch, (law.branches.inside b.branch t b.higher).0, (b.higher, b.enrolled)))
      (decides_any (λ o. (over w o t ≡ true) × (s.enrolled person o ≡ true)) w.branches.members
      (λ o. over w o t && s.enrolled person o)
      (λ o h. decides_both (over w o t) (s.enrolled person o)))

  pub counts_held : (person : ℕ) (post : Post) → Decides (counts w s person post) (Counts w s person post)
  unfolding counts
  counts_held person post =
      let stands = may_stand_at w post.role post.branch in
      let held = holds w s person post.role post.branch in
      Decides-like (counts w s person post)
      (λ x. record { stands = x.0; held = x.1.0; unbarred = x.1.1 })
      (λ x. (x.stands, (x.held, x.unbarred)))
      (Decides-and stands (held && is_open w s post.branch) (decides_self stands)
      (Decides-and held (is_open w s post.branch) (holds_posting person post.role post.branch) (open_unbarred post.branch)))

  -- a candidate for t, where t exists
  pub candidate_counts : (c : Said) (t place : ℕ) → Decides (candidate w s c t place) ((is_branch w t ≡ true) × Candidate w s c t place)
  unfolding candidate
  candidate_counts c t place =
      let post = post_at c.posts place in
      let counting = counts w s c.person post in
      Decides-like (candidate w s c t place)
      (λ x. (x.0, record { sits = x.1.0; higher = x.1.1.0.0; counting = x.1.1.1 }))
      (λ x. (x.0, (x.1.sits, ((x.1.higher, x.1.counting.stands), x.1.counting))))
      (Decides-and (is_branch w t) (ltb place (length c.posts) && (stands_over w post t && counting)) (decides_self (is_branch w t))
      (Decides-and (ltb place (length c.posts)) (stands_over w post t && counting) (Decides-ltb place (length c.posts))
      (Decides-and (stands_over w post t) counting
      (decides_both (over w post.branch t) (may_stand_at w post.role post.branch))
      (counts_held c.person post))))

  strictly_over_lem : (o t : ℕ) → Decides (strictly_over w o t) ((over w o t ≡ true) × (o ≡ t → ⊥))
  strictly_over_lem o t = Decides-and (over w o t) (not (eqb o t)) (decides_self (over w o t)) (Decides-not (eqb o t) (Decides-eqb o t))

  commands_beside :
      (o t : ℕ)
      → Decides (commands w o t)
      (((over w o t ≡ true) × (o ≡ t → ⊥))
      × ((x : ℕ) → x < w.branches.members → strictly_over w x t ≡ true → (over w x o ≡ true) ⊎ (over w o x ≡ true)))
  unfolding commands
  commands_beside o t =
      let beside : ℕ → Bool = λ x. not (strictly_over w x t) || (over w x o || over w o x) in
      Decides-and (strictly_over w o t) (all w.branches.members beside) (strictly_over_lem o t)
      (decides_all (λ x. strictly_over w x t ≡ true → (over w x o ≡ true) ⊎ (over w o x ≡ true)) w.branches.members beside
      (λ x.
      decides_implies (strictly_over w x t) (over w x o || over w o x)
      (Decides-or (over w x o) (over w o x) (decides_self (over w x o)) (decides_self (over w o x)))))

  pub commander_leads : (c : Said) (t place : ℕ) → Decides (commander w s c t place) ((is_branch w t ≡ true) × Commander w s c t place)
  unfolding commander
  commander_leads c t place =
      let o = (post_at c.posts place).branch in
      Decides-like (commander w s c t place)
      (λ x. (
        x.0.0,
        record {
          candidate = x.0.1;
          strict = x.1.0.1;
          beside = λ y h apart. x.1.1 y (law.branches.inside y t h).0 ((strictly_over_lem y t).1 (h, apart));
        },
      ))
      (λ x. (
        (x.0, x.1.candidate),
        ((x.1.candidate.higher, x.1.strict), λ y inside strict. let z = (strictly_over_lem y t).0 strict in x.1.beside y z.0 z.1),
      ))
      (Decides-and (candidate w s c t place) (commands w o t) (candidate_counts c t place) (commands_beside o t))

  -- a line is met as to each role
  pub meets_held : (person t : ℕ) (line : Line) → Decides (meets (λ role. holds w s person role t) line) (Meets w s person line t)
  unfolding meets
  meets_held person t line =
      Decides-like (meets (λ role. holds w s person role t) line)
      (λ each. record { needed = λ role h. (each role h).0; barred = λ role h. (each role h).1 })
      (λ m role h. (m.needed role h, m.barred role h))
      (decides_all
      (λ role.
      (has_bit line.needed role ≡ true → Holds w s person role t) × (has_bit line.barred role ≡ true → Holds w s person role t → ⊥))
      16
      (meets_as (λ role. holds w s person role t) line)
      (λ role.
      let held = holds w s person role t in
      Decides-and (not (has_bit line.needed role) || held) (not (has_bit line.barred role) || not held)
      (decides_implies (has_bit line.needed role) held (holds_posting person role t))
      (decides_implies (has_bit line.barred role) (not held) (Decides-not held (holds_posting person role t)))))
