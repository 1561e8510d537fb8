-- What a part of a roll says: as a loop goes through its records, of how many postings it has, and of a record written and freed.
use Rattle.std.proofs.Common.{◌≡◌, ℕ, zero, suc, ◌+◌, ◌<◌, Bool, true, false, cond, not, ◌&&◌, ◌||◌, eqb, ltb, ◌⊎◌, List, [], ◌∷◌, ◌++◌, length, get_or, set, is_none, is_some, Some, None, Option, sym, refl, ap, ◌∙◌, subst, inl, inr, add-one, arith}
use Rattle.orders.specs.Masks.{has_bit}
use Rattle.registers.proofs.PostingFacts.{count_less, count_raised, count_same, postings_added, postings_none, postings_same}
use Rattle.registers.specs.Meaning.{added, is_posting, postings_at, removed, same_posting}
use Rattle.registers.specs.declared.posting.Posting.{Posting}
use Rattle.roll.specs.Inside.{among_some, posting_is}
use Rattle.roll.specs.Part.{Kept, among, is_other}
use Rattle.search.proofs.Searches.{any_at, any_fails, any_more, any_none, any_same, first_found, first_missed, first_position}
use Rattle.search.proofs.Sums.{sum_more, sum_none}
use Rattle.search.specs.Searches.{count_below, first_below}
use Rattle.std.specs.List.{position}
use Rattle.std.proofs.Math.Bool.{and-or_distrib_left, or_comm, or-false}
use Rattle.std.proofs.lemmas.List.{get_or_append_left, get_or_past, get_or_push, get_or-set_other, get_or-set_same, length_push}
use Rattle.std.proofs.lemmas.Bool.{and_from, and_parts, and_right, both_ways, cases_Bool, cases_eq, cases_lt, eqb-true, lt-ltb, not-true, or_cases, or_left, or_right, true≢false}
use Rattle.std.proofs.lemmas.Bool.Decides.{nat_tests}
use Rattle.std.proofs.lemmas.Option.{none-some}

-- tests that hold together are equal
same_tests : (a b : Bool) → (a ≡ true → b ≡ true) → (b ≡ true → a ≡ true) → a ≡ b
same_tests true b f g = sym (f refl)
same_tests false true f g = g refl
same_tests false false f g = refl

-- one record more
pub among_none : (part : List (Option Posting)) (x y z : ℕ) → among part 0 x y z ≡ false
among_none part x y z = any_none (λ k. is_posting (get_or part k None) x y z)

pub among_more : (part : List (Option Posting)) (n x y z : ℕ) → among part (n + 1) x y z ≡ (among part n x y z || is_posting (get_or part n None) x y z)
among_more part n x y z = any_more (λ k. is_posting (get_or part k None) x y z) n

-- a mask of the roles of a part, with the role of one record more
pub roles_more : (part : List (Option Posting)) (found : Option Posting) (x z before after : ℕ) → ((q : ℕ) → has_bit before q ≡ (ltb q 16 && among part (length part) x q z)) → ((q : ℕ) → has_bit after q ≡ (has_bit before q || (ltb q 16 && is_posting found x q z))) → (q : ℕ) → has_bit after q ≡ (ltb q 16 && among (part ++ (found ∷ [])) (length (part ++ (found ∷ []))) x q z)
roles_more part found x z before after was more q =
    more q
    ∙ ap (λ b. b || (ltb q 16 && is_posting found x q z)) (was q)
    ∙ sym (and-or_distrib_left (ltb q 16) (among part (length part) x q z) (is_posting found x q z))
    ∙ ap (λ b. ltb q 16 && b)
    ((λ i. any_same _ (λ k. is_posting (get_or (part ++ (found ∷ [])) k None) x q z) (length part) (λ k h. ap (λ it. is_posting it x q z) (sym (get_or_append_left part (found ∷ []) None k h))) i || is_posting (last i) x q z)
    ∙ sym (among_more (part ++ (found ∷ [])) (length part) x q z)
    ∙ ap (λ n. among (part ++ (found ∷ [])) n x q z) (sym (length_push part found)))
  where
    last : found ≡ get_or (part ++ (found ∷ [])) (length part) None
    last = sym (get_or_push part found None (length part) refl)

-- what is in two records that are the same
inner : (it also : Posting) → ◌≡◌ {A = Option Posting} (Some it) (Some also) → it ≡ also
inner it also e = cc

-- a posting that is among the records is one of them
is_itself : (x y z : ℕ) → is_posting (Some (record { person = x; role = y; branch = z })) x y z ≡ true
is_itself x y z = grind (arith, nat_tests)

pub among_at : (part : List (Option Posting)) (n k x y z : ℕ) → k < n → get_or part k None ≡ Some (record { person = x; role = y; branch = z }) → among part n x y z ≡ true
among_at part n k x y z h e = any_at (λ j. is_posting (get_or part j None) x y z) n k h (ap (λ found. is_posting found x y z) e ∙ is_itself x y z)

-- a record that is not free is one of the part's
pub within : (part : List (Option Posting)) (k : ℕ) (it : Posting) → get_or part k None ≡ Some it → k < length part
within part k it e =
    elim (cases_lt k (length part)) [
      | inl h ↦ h
      | inr past ↦ absurd (none-some it (sym (get_or_past part k None past) ∙ e))
    ]

-- the record that a search for a posting finds
pub posting_found : (part : List (Option Posting)) (it : Posting) (i : ℕ) → first_below (length part) (λ k. is_posting (get_or part k None) it.person it.role it.branch) ≡ Some i → (i < length part) × (get_or part i None ≡ Some it)
posting_found part it i e =
    let found = first_found (λ k. is_posting (get_or part k None) it.person it.role it.branch) (length part) i e in
    (found.0, posting_is (get_or part i None) it.person it.role it.branch found.1)

-- the free record that a search finds
pub free_found : (part : List (Option Posting)) (i : ℕ) → position is_none part ≡ Some i → (i < length part) × (get_or part i None ≡ None)
free_found part i e =
    let found = first_found (λ k. is_none (get_or part k None)) (length part) i (sym (first_position is_none part None) ∙ e) in
    (found.0, free (get_or part i None) found.1)
  where
    free : (record' : Option Posting) → is_none record' ≡ true → record' ≡ None
    free None e = refl
    free (Some it) e = absurd (true≢false (sym e))

-- what fits each number, as many times as there are
count_all : (fits : ℕ → Bool) (n : ℕ) → ((k : ℕ) → k < n → fits k ≡ true) → count_below n fits ≡ n
count_all fits zero every = sum_none (λ k. cond (fits k) 1 0)
count_all fits (suc n) every =
    let one : ◌≡◌ {A = ℕ} (cond (fits n) 1 0) 1 = ap (λ b. cond b 1 0) (every n (omega arith)) in
    omega (arith, one, count_all fits n (λ k h. every k (omega arith)), rw add-one at (sum_more (λ k. cond (fits k) 1 0) n))

-- a part whose records are postings at its branch, none twice
module _ (part : List (Option Posting)) (branch : ℕ) (kept : Kept part branch) where
  -- what a record says, none before it says
  first_time : (k : ℕ) (it : Posting) → get_or part k None ≡ Some it → among part k it.person it.role branch ≡ false
  first_time k it here =
      elim (cases_Bool (among part k it.person it.role branch)) [
        | inl said ↦
            let before = among_some part k it.person it.role branch said in
            let same : get_or part before.0 None ≡ Some it = before.2 ∙ ap (λ b. Some (record { person = it.person; role = it.role; branch = b })) (sym (kept.own k it here).2) in
            absurd (omega (arith, before.1, kept.once before.0 k it same here))
        | inr none ↦ none
      ]

  -- its roles are all of the sixteen
  pub own_role : (x y : ℕ) → (ltb y 16 && among part (length part) x y branch) ≡ among part (length part) x y branch
  own_role x y =
      same_tests _ _ (λ e. (and_parts (ltb y 16) _ e).1)
      (λ e.
      let found = among_some part (length part) x y branch e in
      and_from (ltb y 16) _ (lt-ltb y 16 (kept.own found.0 _ found.2).1) e)

  -- one record more: a posting more, unless it is free
  more_free : (k x y : ℕ) → get_or part k None ≡ None → among part (k + 1) x y branch ≡ among part k x y branch
  more_free k x y here = among_more part k x y branch ∙ ap (λ found. among part k x y branch || is_posting found x y branch) here ∙ or-false (among part k x y branch)

  more_one : (k x y : ℕ) (it : Posting) → get_or part k None ≡ Some it → among part (k + 1) x y branch ≡ added (among part k) it.person it.role branch x y branch
  more_one k x y it here =
      among_more part k x y branch
      ∙ ap (λ found. among part k x y branch || is_posting found x y branch) here
      ∙ or_comm (among part k x y branch) (same_posting it.person it.role it.branch x y branch)
      ∙ ap (λ b. same_posting it.person it.role b x y branch || among part k x y branch) (kept.own k it here).2

  -- there are as many postings as records that are not free
  counted : (n : ℕ) → postings_at (among part n) branch ≡ count_below n (λ k. is_some (get_or part k None))
  counted zero = postings_none (among part 0) branch (λ x y h k. among_none part x y branch) ∙ sym (sum_none (λ k. cond (is_some (get_or part k None)) 1 0))
  counted (suc n) = at (get_or part n None) refl (counted n)
    where
      at : (found : Option Posting) → get_or part n None ≡ found → postings_at (among part n) branch ≡ count_below n (λ k. is_some (get_or part k None)) → postings_at (among part (suc n)) branch ≡ count_below (suc n) (λ k. is_some (get_or part k None))
      at None here before =
          let same = rw add-one at (postings_same (among part (n + 1)) (among part n) branch (λ x y h k. more_free n x y here)) in
          let none : ◌≡◌ {A = ℕ} (cond (is_some (get_or part n None)) 1 0) 0 = ap (λ found. cond (is_some found) 1 0) here in
          omega (arith, same, none, before, rw add-one at (sum_more (λ k. cond (is_some (get_or part k None)) 1 0) n))
      at (Some it) here before =
          let own = kept.own n it here in
          let more = rw add-one at (postings_added (among part n) (among part (n + 1)) it.person it.role branch own.0 own.1 (first_time n it here) (λ x y h k. more_one n x y it here)) in
          let one : ◌≡◌ {A = ℕ} (cond (is_some (get_or part n None)) 1 0) 1 = ap (λ found. cond (is_some found) 1 0) here in
          omega (arith, more, one, before, rw add-one at (sum_more (λ k. cond (is_some (get_or part k None)) 1 0) n))

  -- as many as there are records where none is free, and fewer where one is
  pub none_free : position is_none part ≡ None → postings_at (among part (length part)) branch ≡ length part
  none_free none =
      counted (length part)
      ∙ count_all _ (length part) (λ k h. used (get_or part k None) (first_missed (λ j. is_none (get_or part j None)) (length part) (sym (first_position is_none part None) ∙ none) k h))
    where
      used : (found : Option Posting) → is_none found ≡ false → is_some found ≡ true
      used None e = absurd (true≢false e)
      used (Some it) e = refl

  pub one_free : (k : ℕ) → k < length part → get_or part k None ≡ None → postings_at (among part (length part)) branch < length part
  one_free k h free = omega (arith, counted (length part), count_less (λ j. is_some (get_or part j None)) (length part) k h (ap is_some free))

  -- the others in a role, of whom the first n records tell
  abbrev others : ℕ → ℕ → ℕ → ℕ → Bool
  others n person role x = not (eqb x person) && among part n x role branch

  -- as the records go on: one more with each record that posts another
  pub others_more : (k person role : ℕ) → count_below 64 (others (k + 1) person role) ≡ count_below 64 (others k person role) + cond (is_other (get_or part k None) person role) 1 0
  others_more k person role = at (get_or part k None) refl
    where
      unsaid : (it : Posting) (x : ℕ) (before : Bool) → is_other (Some it) person role ≡ false → (not (eqb x person) && (same_posting it.person it.role branch x role branch || before)) ≡ (not (eqb x person) && before)
      unsaid it x before e = grind (arith, nat_tests)

      apart : (it : Posting) (x : ℕ) (before : Bool) → (x ≡ it.person → ⊥) → (same_posting it.person it.role branch x role branch || before) ≡ before
      apart it x before e = grind (arith, nat_tests)

      themselves : (it : Posting) (before : Bool) → is_other (Some it) person role ≡ true → (not (eqb it.person person) && (same_posting it.person it.role branch it.person role branch || before)) ≡ true
      themselves it before e = grind (arith, nat_tests)

      none-more : is_other (get_or part k None) person role ≡ false → ((x : ℕ) → others (k + 1) person role x ≡ others k person role x) → count_below 64 (others (k + 1) person role) ≡ count_below 64 (others k person role) + cond (is_other (get_or part k None) person role) 1 0
      none-more not-other same =
          let none : ◌≡◌ {A = ℕ} (cond (is_other (get_or part k None) person role) 1 0) 0 = ap (λ b. cond b 1 0) not-other in
          omega (arith, none, count_same (others (k + 1) person role) (others k person role) 64 (λ x h. same x))

      at : (found : Option Posting) → get_or part k None ≡ found → count_below 64 (others (k + 1) person role) ≡ count_below 64 (others k person role) + cond (is_other (get_or part k None) person role) 1 0
      at None here = none-more (ap (λ found. is_other found person role) here) (λ x. ap (λ b. not (eqb x person) && b) (more_free k x role here))
      at (Some it) here =
          let is = ap (λ found. is_other found person role) here in
          elim (cases_Bool (is_other (Some it) person role)) [
            | inl other ↦
                let one : ◌≡◌ {A = ℕ} (cond (is_other (get_or part k None) person role) 1 0) 1 = ap (λ b. cond b 1 0) (is ∙ other) in
                let new : among part k it.person role branch ≡ false = subst (λ r. among part k it.person r branch ≡ false) (eqb-true it.role role (and_parts (eqb it.role role) _ other).0) (first_time k it here) in
                omega (
                  arith,
                  one,
                  count_raised (others k person role) (others (k + 1) person role) 64 it.person (kept.own k it here).0
                      (λ x h ne. ap (λ b. not (eqb x person) && b) (more_one k x role it here ∙ apart it x (among part k x role branch) ne))
                      (and_right (not (eqb it.person person)) _ new)
                      (ap (λ b. not (eqb it.person person) && b) (more_one k it.person role it here) ∙ themselves it (among part k it.person role branch) other),
                )
            | inr not-other ↦ none-more (is ∙ not-other) (λ x. ap (λ b. not (eqb x person) && b) (more_one k x role it here) ∙ unsaid it x (among part k x role branch) not-other)
          ]

-- a posting written into a free record
module _ (part : List (Option Posting)) (at : ℕ) (new : Posting) (free : get_or part at None ≡ None) (inside : at < length part) where
  -- the part with the posting
  abbrev now' : List (Option Posting)
  now' = set part at (Some new)

  -- a record that is not free is the one that is written, or was there
  which : (k : ℕ) (it : Posting) → get_or now' k None ≡ Some it → ((k ≡ at) × (new ≡ it)) ⊎ (get_or part k None ≡ Some it)
  which k it e =
      elim (cases_eq k at) [
        | inl same ↦ inl (same, inner new it (sym (ap (λ j. get_or now' j None) same ∙ get_or-set_same part at (Some new) None inside) ∙ e))
        | inr other ↦ inr (sym (get_or-set_other part at k (Some new) None other) ∙ e)
      ]

  -- and one that was there is as it was
  stays : (k : ℕ) (it : Posting) → get_or part k None ≡ Some it → get_or now' k None ≡ Some it
  stays k it e = get_or-set_other part at k (Some new) None (λ same. none-some it (sym free ∙ ap (λ j. get_or part j None) (sym same) ∙ e)) ∙ e

  pub written : (x y z : ℕ) → among now' (length part) x y z ≡ added (among part (length part)) new.person new.role new.branch x y z
  written x y z =
      same_tests _ _
      (λ e.
      let found = among_some now' (length part) x y z e in
      elim (which found.0 _ found.2) [
        | inl here ↦ or_left (same_posting new.person new.role new.branch x y z) _ (ap (λ it. is_posting (Some it) x y z) here.1 ∙ is_itself x y z)
        | inr was ↦ or_right (same_posting new.person new.role new.branch x y z) _ (among_at part (length part) found.0 x y z found.1 was)
      ])
      (λ e.
      elim (or_cases (same_posting new.person new.role new.branch x y z) (among part (length part) x y z) e) [
        | inl same ↦ among_at now' (length part) at x y z inside (get_or-set_same part at (Some new) None inside ∙ posting_is (Some new) x y z same)
        | inr there ↦ let found = among_some part (length part) x y z there in among_at now' (length part) found.0 x y z found.1 (stays found.0 _ found.2)
      ])

  -- no record is this posting but the one that is written
  here_alone : among part (length part) new.person new.role new.branch ≡ false → (j : ℕ) → get_or part j None ≡ Some new → ⊥
  here_alone absent j e = both_ways (among part (length part) new.person new.role new.branch) absent (among_at part (length part) j new.person new.role new.branch (within part j new e) e)

  pub written_kept : Kept part new.branch → new.person < 64 → new.role < 16 → among part (length part) new.person new.role new.branch ≡ false → Kept now' new.branch
  written_kept kept own-person own-role absent = record { own = own; once = once }
    where
      own : (k : ℕ) (it : Posting) → get_or now' k None ≡ Some it → (it.person < 64) × (it.role < 16) × (it.branch ≡ new.branch)
      own k it e =
          elim (which k it e) [
            | inl here ↦ subst (λ it'. (it'.person < 64) × (it'.role < 16) × (it'.branch ≡ new.branch)) here.1 (own-person, own-role, refl)
            | inr was ↦ kept.own k it was
          ]

      once : (j k : ℕ) (it : Posting) → get_or now' j None ≡ Some it → get_or now' k None ≡ Some it → j ≡ k
      once j k it f e =
          elim (which j it f) [
            | inl there ↦
                elim (which k it e) [
                  | inl here ↦ there.0 ∙ sym here.0
                  | inr was ↦ absurd (here_alone absent k (was ∙ ap (λ it'. Some it') (sym there.1)))
                ]
            | inr before ↦
                elim (which k it e) [
                  | inl here ↦ absurd (here_alone absent j (before ∙ ap (λ it'. Some it') (sym here.1)))
                  | inr was ↦ kept.once j k it before was
                ]
          ]

-- the record of a posting freed
module _ (part : List (Option Posting)) (at : ℕ) (it : Posting) (here : get_or part at None ≡ Some it) (branch : ℕ) (kept : Kept part branch) where
  abbrev rest : List (Option Posting)
  rest = set part at None

  -- what is not free then was there, at another place
  as_before : (k : ℕ) (also : Posting) → get_or rest k None ≡ Some also → (k ≡ at → ⊥) × (get_or part k None ≡ Some also)
  as_before k also e =
      let other : k ≡ at → ⊥ = λ same. none-some also (sym (get_or-set_same part at None None (within part at it here)) ∙ ap (λ j. get_or rest j None) (sym same) ∙ e) in
      (other, sym (get_or-set_other part at k None None other) ∙ e)

  pub freed : (x y z : ℕ) → among rest (length part) x y z ≡ removed (among part (length part)) it.person it.role it.branch x y z
  freed x y z =
      same_tests _ _
      (λ e.
      let found = among_some rest (length part) x y z e in
      let before = as_before found.0 _ found.2 in
      and_from (not (same_posting it.person it.role it.branch x y z)) _
      (elim (cases_Bool (same_posting it.person it.role it.branch x y z)) [
        | inl same ↦ absurd (before.0 (kept.once found.0 at it (before.1 ∙ sym (posting_is (Some it) x y z same)) here))
        | inr other ↦ ap not other
      ])
      (among_at part (length part) found.0 x y z found.1 before.1))
      (λ e.
      let both = and_parts (not (same_posting it.person it.role it.branch x y z)) _ e in
      let found = among_some part (length part) x y z both.1 in
      let other : found.0 ≡ at → ⊥ =
      λ same. both_ways (same_posting it.person it.role it.branch x y z) (not-true _ both.0)
      (ap (λ o. is_posting o x y z) (sym here ∙ ap (λ j. get_or part j None) (sym same) ∙ found.2) ∙ is_itself x y z) in
      among_at rest (length part) found.0 x y z found.1 (get_or-set_other part at found.0 None None other ∙ found.2))

  pub freed_kept : Kept rest branch
  freed_kept = record {
    own = λ k also e. kept.own k also (as_before k also e).1;
    once = λ j k also f e. kept.once j k also (as_before j also f).1 (as_before k also e).1;
  }

-- a part of free records has no posting
pub none_among : (part : List (Option Posting)) (n x y z : ℕ) → ((k : ℕ) → get_or part k None ≡ None) → among part n x y z ≡ false
none_among part n x y z free = any_fails _ n (λ k h. ap (λ it. is_posting it x y z) (free k))

pub none_kept : (part : List (Option Posting)) (branch : ℕ) → ((k : ℕ) → get_or part k None ≡ None) → Kept part branch
none_kept part branch free = record { own = λ k it e. absurd (none-some it (sym (free k) ∙ e)); once = λ j k it f e. absurd (none-some it (sym (free k) ∙ e)) }
