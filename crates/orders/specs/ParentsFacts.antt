-- What holds of parents that have passed the check: they make an order, and member 0 is its top.
use Rattle.std.specs.Prelude.{◌≡◌, ℕ, zero, suc, ◌<◌, ◌≤◌, Bool, true, false, ◌&&◌, ◌||◌, List, is_ok, ◌==◌, nat_lt, slice_index, slice_index_or, refl}
use Rattle.std.proofs.Common.{inl, inr, sym, ap, ◌∙◌, subst, arith}
use Rattle.std.proofs.lemmas.Bool.{and_from, and_parts, eq-eqb, eqb-true, lt-ltb, ltb-true, ne_eqb, or_cases, or_left, or_right}
use Rattle.refusals.proofs.Rows.{every_at, must_true}
use Rattle.refusals.specs.Checks.{every}
use Rattle.orders.specs.Parents.{Lower, climbs, parent_check, parents_checked, stands_lower, tree_above}
use Rattle.orders.specs.declared.parents.ParentsFault.TheVariants.{TooMany, NotLower}
use Rattle.orders.specs.Limits.{limit_passed}

-- parents that passed the check are not too many, and are lower than their members
pub parents_few : (parents : List ℕ) (n : ℕ) → is_ok (parents_checked parents n) ≡ true → n ≤ 64
parents_few parents n sound = (limit_passed n 64 TooMany (every n (parent_check parents)) sound).0

pub parents_lower : (parents : List ℕ) (n : ℕ) → is_ok (parents_checked parents n) ≡ true → Lower parents n
parents_lower parents n sound m h k =
    let passed = (limit_passed n 64 TooMany (every n (parent_check parents)) sound).1 in
    let stands = must_true (stands_lower m (slice_index parents m)) (NotLower m) (every_at (parent_check parents) n m h passed) in
    elim (or_cases (m == 0) (nat_lt (slice_index parents m) m) stands) [
      | inl none ↦ absurd (omega (arith, eqb-true m 0 none))
      | inr lower ↦ ltb-true (slice_index parents m) m lower
    ]

or_none : (a : Bool) → (a || false) ≡ a
or_none true = refl
or_none false = refl

-- the way up begins at the member itself
pub climbs_self : (steps : ℕ) (parents : List ℕ) (a : ℕ) → climbs steps parents a a ≡ true
climbs_self zero parents a = eq-eqb a a refl
climbs_self (suc steps) parents a = or_left (a == a) (nat_lt 0 a && climbs steps parents a (slice_index parents a)) (eq-eqb a a refl)

-- from member 0 there is no way on
at_top : (steps : ℕ) (parents : List ℕ) (a : ℕ) → climbs steps parents a 0 ≡ (0 == a)
at_top zero parents a = refl
at_top (suc steps) parents a = or_none (0 == a)

-- from another member the way goes on at its parent
onward : (steps : ℕ) (parents : List ℕ) (a b : ℕ) → 0 < b → climbs (suc steps) parents a b ≡ (b == a || climbs steps parents a (slice_index parents b))
onward steps parents a b h = ap (λ t. (b == a) || (t && climbs steps parents a (slice_index parents b))) (lt-ltb 0 b h)

-- only members stand in the order
pub tree_inside : (parents : List ℕ) (n a b : ℕ) → tree_above parents n a b ≡ true → (a < n) × (b < n)
tree_inside parents n a b h =
    let both = and_parts (nat_lt a n) (nat_lt b n && climbs b parents a b) h in
    (ltb-true a n both.0, ltb-true b n (and_parts (nat_lt b n) (climbs b parents a b) both.1).0)

pub tree_climbs : (parents : List ℕ) (n a b : ℕ) → tree_above parents n a b ≡ true → climbs b parents a b ≡ true
tree_climbs parents n a b h = (and_parts (nat_lt b n) (climbs b parents a b) (and_parts (nat_lt a n) (nat_lt b n && climbs b parents a b) h).1).1

pub climbs_tree : (parents : List ℕ) (n a b : ℕ) → a < n → b < n → climbs b parents a b ≡ true → tree_above parents n a b ≡ true
climbs_tree parents n a b h k c =
    and_from (nat_lt a n) (nat_lt b n && climbs b parents a b) (lt-ltb a n h) (and_from (nat_lt b n) (climbs b parents a b) (lt-ltb b n k) c)

module _ (parents : List ℕ) (n : ℕ) (lower : Lower parents n) where
  -- as many steps as the member's number are enough, and more add nothing
  enough : (more steps b a : ℕ) → b ≤ more → b ≤ steps → b < n → climbs more parents a b ≡ climbs steps parents a b
  enough more steps zero a h k l = at_top more parents a ∙ sym (at_top steps parents a)
  enough zero steps (suc b) a h k l = absurd (omega arith)
  enough (suc more) zero (suc b) a h k l = absurd (omega arith)
  enough (suc more) (suc steps) (suc b) a h k l =
      let p : slice_index_or parents (suc b) 0 < suc b = lower (suc b) l (omega arith) in
      ap (λ t. (suc b == a) || (nat_lt 0 (suc b) && t)) (enough more steps (slice_index parents (suc b)) a (omega arith) (omega arith) (omega arith))

  -- no member stands above one with a lower number
  climbs_down : (steps a b : ℕ) → b < n → climbs steps parents a b ≡ true → a ≤ b
  climbs_down zero a b l h = omega (arith, eqb-true b a h)
  climbs_down (suc steps) a b l h =
      elim (or_cases (b == a) (nat_lt 0 b && climbs steps parents a (slice_index parents b)) h) [
        | inl here ↦ omega (arith, eqb-true b a here)
        | inr higher ↦
            let both = and_parts (nat_lt 0 b) (climbs steps parents a (slice_index parents b)) higher in
            let p : slice_index_or parents b 0 < b = lower b l (ltb-true 0 b both.0) in
            let least = climbs_down steps a (slice_index parents b) (omega arith) both.1 in
            omega arith
      ]

  -- above a member but itself: at or above its parent
  pub climbs_parent : (a b : ℕ) → a < b → b < n → climbs b parents a b ≡ climbs (slice_index parents b) parents a (slice_index parents b)
  climbs_parent a zero h l = absurd (omega arith)
  climbs_parent a (suc b) h l =
      let p : slice_index_or parents (suc b) 0 < suc b = lower (suc b) l (omega arith) in
      onward b parents a (suc b) (omega arith)
      ∙ ap (λ t. t || climbs b parents a (slice_index parents (suc b))) (ne_eqb (suc b) a (λ e. omega arith))
      ∙ enough b (slice_index parents (suc b)) (slice_index parents (suc b)) a (omega arith) (omega arith) (omega arith)

  -- at or above a member with no greater number: the member itself
  pub climbs_end : (a b : ℕ) → b ≤ a → b < n → climbs b parents a b ≡ (b == a)
  climbs_end a b h l = found (climbs b parents a b) (b == a) refl refl
    where
      found : (t s : Bool) → climbs b parents a b ≡ t → (b == a) ≡ s → t ≡ s
      found true true e f = refl
      found false false e f = refl
      found true false e f = let k = climbs_down b a b l e in sym (eq-eqb b a (omega arith)) ∙ f
      found false true e f =
          let same : b ≡ a = eqb-true b a f in
          sym e ∙ subst (λ x. climbs b parents x b ≡ true) same (climbs_self b parents b)

  -- the way up from c to b goes on to all that stand above b
  climbs_over : (steps a b c : ℕ) → c < n → climbs b parents a b ≡ true → climbs steps parents b c ≡ true → climbs c parents a c ≡ true
  climbs_over zero a b c l p q = subst (λ x. climbs x parents a x ≡ true) (sym (eqb-true c b q)) p
  climbs_over (suc steps) a b c l p q =
      elim (or_cases (c == b) (nat_lt 0 c && climbs steps parents b (slice_index parents c)) q) [
        | inl here ↦ subst (λ x. climbs x parents a x ≡ true) (sym (eqb-true c b here)) p
        | inr higher ↦
            let both = and_parts (nat_lt 0 c) (climbs steps parents b (slice_index parents c)) higher in
            let k : 0 < c = ltb-true 0 c both.0 in
            let up : slice_index_or parents c 0 < c = lower c l k in
            let above = climbs_over steps a b (slice_index parents c) (omega arith) p both.1 in
            let least = climbs_down (slice_index parents c) a (slice_index parents c) (omega arith) above in
            climbs_parent a c (omega arith) l ∙ above
      ]

  -- each way up ends at member 0
  climbs_top : (steps b : ℕ) → b ≤ steps → b < n → climbs steps parents 0 b ≡ true
  climbs_top steps zero h l = climbs_self steps parents 0
  climbs_top zero (suc b) h l = absurd (omega arith)
  climbs_top (suc steps) (suc b) h l =
      let p : slice_index_or parents (suc b) 0 < suc b = lower (suc b) l (omega arith) in
      onward steps parents 0 (suc b) (omega arith)
      ∙ or_right (suc b == 0) (climbs steps parents 0 (slice_index parents (suc b))) (climbs_top steps (slice_index parents (suc b)) (omega arith) (omega arith))

  pub tree_reflexive : (a : ℕ) → a < n → tree_above parents n a a ≡ true
  tree_reflexive a h = climbs_tree parents n a a h h (climbs_self a parents a)

  pub tree_transitive : (a b c : ℕ) → tree_above parents n a b ≡ true → tree_above parents n b c ≡ true → tree_above parents n a c ≡ true
  tree_transitive a b c p q =
      let c-inside = (tree_inside parents n b c q).1 in
      climbs_tree parents n a c (tree_inside parents n a b p).0 c-inside (climbs_over c a b c c-inside (tree_climbs parents n a b p) (tree_climbs parents n b c q))

  -- a member has no greater number than those that it is at or above
  pub tree_numbers : (a b : ℕ) → tree_above parents n a b ≡ true → a ≤ b
  tree_numbers a b h = climbs_down b a b (tree_inside parents n a b h).1 (tree_climbs parents n a b h)

  pub tree_antisymmetric : (a b : ℕ) → tree_above parents n a b ≡ true → tree_above parents n b a ≡ true → a ≡ b
  tree_antisymmetric a b p q = omega (arith, tree_numbers a b p, tree_numbers b a q)

  -- member 0 is at or above every member
  pub tree_top : (b : ℕ) → b < n → tree_above parents n 0 b ≡ true
  tree_top b h = climbs_tree parents n 0 b (omega arith) h (climbs_top b b (omega arith) h)
