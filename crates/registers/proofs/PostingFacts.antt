-- What sets of postings say: how many a branch has, with one more too, and what a put answers.
use Rattle.std.proofs.Common.{◌≡◌, ℕ, ◌+◌, ◌<◌, ◌≤◌, Bool, true, false, cond, not, ◌&&◌, ◌||◌, eqb, ltb, is_err, IfOk, Ok, Err, Result, sym, ap, ◌∙◌, subst, inl, inr, arith}
use Rattle.refusals.proofs.Rows.{must_of, passed_all}
use Rattle.refusals.specs.Checks.{in_order, must, then}
use Rattle.registers.specs.Meaning.{Inside, Postings, added, number_steps, others_at, postings_at, put_checked, same_posting}
use Rattle.registers.specs.declared.fault.RegisterFault.{RegisterFault}
use Rattle.registers.specs.declared.fault.RegisterFault.TheVariants.{NoPerson, NoRole, NoBranch, Posted, Full}
use Rattle.search.proofs.Sums.{sum_less, sum_most, sum_raised, sum_same}
use Rattle.search.specs.Searches.{count_below}
use Rattle.std.proofs.lemmas.Bool.{and_right, cases_Bool, cases_lt, cond-false, cond-true, le-ltb, lt-ltb, true≢false}
use Rattle.std.proofs.lemmas.Bool.Decides.{nat_tests}

one_at_most : (b : Bool) → cond b 1 0 ≤ 1
one_at_most true = omega arith
one_at_most false = omega arith

-- a count is at most its bound
pub count_most : (fits : ℕ → Bool) (n : ℕ) → count_below n fits ≤ n
count_most fits n = omega (arith, sum_most (λ k. cond (fits k) 1 0) 1 n (λ k h. one_at_most (fits k)))

pub count_less : (fits : ℕ → Bool) (n k : ℕ) → k < n → fits k ≡ false → count_below n fits < n
count_less fits n k h e =
    let less : cond (fits k) 1 0 < 1 = subst (λ b. cond b 1 0 < 1) (sym e) (omega arith) in
    omega (arith, sum_less (λ j. cond (fits j) 1 0) 1 n k (λ j i. one_at_most (fits j)) h less)

-- tests that agree count the same
pub count_same : (fits also : ℕ → Bool) (n : ℕ) → ((k : ℕ) → k < n → fits k ≡ also k) → count_below n fits ≡ count_below n also
count_same fits also n same = sum_same _ _ n (λ k h. ap (λ b. cond b 1 0) (same k h))

-- nothing fits
pub count_zero : (fits : ℕ → Bool) (n : ℕ) → ((k : ℕ) → k < n → fits k ≡ false) → count_below n fits ≡ 0
count_zero fits n none = omega (arith, sum_most (λ k. cond (fits k) 1 0) 0 n (λ k h. subst (λ b. cond b 1 0 ≤ 0) (sym (none k h)) (omega arith)))

-- one number more fits
pub count_raised : (fits now' : ℕ → Bool) (n k : ℕ) → k < n → ((j : ℕ) → j < n → (j ≡ k → ⊥) → now' j ≡ fits j) → fits k ≡ false → now' k ≡ true → count_below n now' ≡ count_below n fits + 1
count_raised fits now' n k h others was is =
    sum_raised (λ j. cond (fits j) 1 0) (λ j. cond (now' j) 1 0) n k 1 h (λ j i ne. ap (λ b. cond b 1 0) (others j i ne))
    (ap (λ b. cond b 1 0) is ∙ sym (ap (λ b. cond b 1 0 + 1) was))

-- two sets that agree at a branch have as many postings there
pub postings_same : (posted also : Postings) (branch : ℕ) → ((x y : ℕ) → x < 64 → y < 16 → posted x y branch ≡ also x y branch) → postings_at posted branch ≡ postings_at also branch
postings_same posted also branch same = sum_same _ _ 64 (λ x h. count_same _ _ 16 (λ y k. same x y h k))

-- a branch that lacks a posting has fewer than all
pub postings_less : (posted : Postings) (person role branch : ℕ) → person < 64 → role < 16 → posted person role branch ≡ false → postings_at posted branch < 1024
postings_less posted person role branch h k e =
    sum_less (λ x. count_below 16 (λ y. posted x y branch)) 16 64 person (λ x i. count_most (λ y. posted x y branch) 16) h
    (count_less (λ y. posted person y branch) 16 role k e)

-- a set in which nobody is posted at a branch
pub postings_none : (posted : Postings) (branch : ℕ) → ((x y : ℕ) → x < 64 → y < 16 → posted x y branch ≡ false) → postings_at posted branch ≡ 0
postings_none posted branch none =
    omega (arith, sum_most (λ x. count_below 16 (λ y. posted x y branch)) 0 64 (λ x h. omega (arith, count_zero (λ y. posted x y branch) 16 (λ y k. none x y h k))))

-- a posting is the same as itself
pub same_itself : (person role branch : ℕ) → same_posting person role branch person role branch ≡ true
same_itself person role branch = grind (arith, nat_tests)

-- a set with one posting more, that it lacked, has one more at its branch
pub postings_added : (posted also : Postings) (person role branch : ℕ) → person < 64 → role < 16 → posted person role branch ≡ false → ((x y : ℕ) → x < 64 → y < 16 → also x y branch ≡ added posted person role branch x y branch) → postings_at also branch ≡ postings_at posted branch + 1
postings_added posted also person role branch h k e more =
    sum_raised (λ x. count_below 16 (λ y. posted x y branch)) (λ x. count_below 16 (λ y. also x y branch)) 64 person 1 h
    (λ x i ne. count_same _ _ 16 (λ y j. more x y i j ∙ ap (λ b. b || posted x y branch) (apart x y ne)))
    (count_raised (λ y. posted person y branch) (λ y. also person y branch) 16 role k
    (λ y j ne. more person y h j ∙ ap (λ b. b || posted person y branch) (aside y ne)) e
    (more person role h k ∙ ap (λ b. b || posted person role branch) (same_itself person role branch)))
  where
    apart : (x y : ℕ) → (x ≡ person → ⊥) → same_posting person role branch x y branch ≡ false
    apart x y ne = grind (arith, nat_tests)

    aside : (y : ℕ) → (y ≡ role → ⊥) → same_posting person role branch person y branch ≡ false
    aside y ne = grind (arith, nat_tests)

-- a check of the numbers that has not refused
pub own_numbers : (told : Result (Unit {0}) RegisterFault) (Own : Type 0) → is_err told ≡ false → IfOk told (λ _. Own) → Own
own_numbers (Ok tt) Own e own = own
own_numbers (Err fault) Own e own = absurd (true≢false e)

-- where the numbers are refused, there are no others
pub others_none : (posted : Postings) (branches person role branch : ℕ) → Inside posted branches → is_err (in_order (number_steps branches person role branch)) ≡ true → others_at posted person role branch ≡ 0
others_none posted branches person role branch inside refused =
    elim (cases_lt person 64) [
      | inl own-person ↦
          cond-true (ltb person 64) _ 0 (lt-ltb person 64 own-person) ∙ count_zero (λ x. not (eqb x person) && posted x role branch) 64 (λ x h. and_right (not (eqb x person)) (posted x role branch) (nowhere own-person x))
      | inr past ↦ cond-false (ltb person 64) _ 0 (le-ltb person 64 past)
    ]
  where
    passed : person < 64 → role < 16 → branch < branches → in_order (number_steps branches person role branch) ≡ Ok tt
    passed p q b =
        passed_all (number_steps branches person role branch)
        (must_of (ltb person 64) NoPerson (lt-ltb person 64 p), (must_of (ltb role 16) NoRole (lt-ltb role 16 q), (must_of (ltb branch branches) NoBranch (lt-ltb branch branches b), tt)))

    nowhere : person < 64 → (x : ℕ) → posted x role branch ≡ false
    nowhere p x =
        elim (cases_Bool (posted x role branch)) [
          | inl there ↦
              let own = inside x role branch there in
              absurd (true≢false (sym refused ∙ ap is_err (passed p own.1 own.2)))
          | inr none ↦ none
        ]

-- what a put answers of a person, a role and a branch that the register has
module _ (posted : Postings) (branches : ℕ) (share : ℕ → ℕ) (person role branch : ℕ) (own-person : person < 64) (own-role : role < 16) (own-branch : branch < branches) where
  numbers : in_order (number_steps branches person role branch) ≡ Ok tt
  numbers =
      passed_all (number_steps branches person role branch)
      (must_of (ltb person 64) NoPerson (lt-ltb person 64 own-person), (must_of (ltb role 16) NoRole (lt-ltb role 16 own-role), (must_of (ltb branch branches) NoBranch (lt-ltb branch branches own-branch), tt)))

  -- putting, past the numbers, and past the test whether it is there
  past_numbers : put_checked posted branches share person role branch ≡ then (must (not (posted person role branch)) (Posted branch)) (then (must (ltb (postings_at posted branch) (share branch)) (Full branch)) (Ok tt))
  past_numbers = ap (λ n. then n (then (must (not (posted person role branch)) (Posted branch)) (then (must (ltb (postings_at posted branch) (share branch)) (Full branch)) (Ok tt)))) numbers

  past_posted : posted person role branch ≡ false → put_checked posted branches share person role branch ≡ then (must (ltb (postings_at posted branch) (share branch)) (Full branch)) (Ok tt)
  past_posted absent = past_numbers ∙ ap (λ b. then (must (not b) (Posted branch)) (then (must (ltb (postings_at posted branch) (share branch)) (Full branch)) (Ok tt))) absent

  -- a put that is done
  pub put_passes : posted person role branch ≡ false → postings_at posted branch < share branch → put_checked posted branches share person role branch ≡ Ok tt
  put_passes absent room = past_posted absent ∙ ap (λ b. then (must b (Full branch)) (Ok tt)) (lt-ltb (postings_at posted branch) (share branch) room)
