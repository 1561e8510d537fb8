-- What a roll says: where its parts are, that they are apart, and of a part that is changed.
use Rattle.std.proofs.Common.{◌≡◌, ℕ, zero, suc, ◌+◌, ◌-◌, ◌<◌, ◌≤◌, min, Bool, true, false, not, ◌&&◌, ◌||◌, eqb, leb, ltb, List, [], ◌∷◌, length, get_or, is_none, take, drop, set, replicate, Some, None, Option, Ok, sym, refl, ap, ◌∙◌, subst, inl, inr, arith}
use Rattle.refusals.proofs.Rows.{all_of, all_range, all_same, must_true}
use Rattle.refusals.specs.Checks.{all}
use Rattle.registers.specs.Meaning.{Postings, added, postings_at, removed}
use Rattle.registers.specs.declared.fault.RegisterFault.TheVariants.{Unfit}
use Rattle.roll.proofs.PartFacts.{free_found, freed, freed_kept, none_among, none_free, none_kept, one_free, written, written_kept}
use Rattle.roll.specs.Part.{Kept, among}
use Rattle.roll.specs.Roll.{IsRecord, KeptParts, roll_checked, roll_part, roll_posted, roll_share, roll_start, shares_before, shares_fit}
use Rattle.registers.specs.declared.posting.Posting.{Posting}
use Rattle.search.proofs.Sums.{sum_grows, sum_more}
use Rattle.std.specs.List.{list_all, position}
use Rattle.std.proofs.lemmas.List.{drop-set-add, drop-set-lt, get_or-drop, get_or_past, get_or-replicate, get_or-take, length-drop, length-replicate, length-set, length-take, take-set-le}
use Rattle.std.proofs.lemmas.Bool.{and_left, and_parts, cases_eq, cases_lt, cases_order, cond-false, cond-true, leb-true, le-ltb, lt-ltb, ne_eqb}

-- a part's length: its share is never more than is left
module _ (items : ℕ) (shares : List ℕ) (branches : ℕ) where
  pub share_within : (b : ℕ) → roll_start items shares b + roll_share items shares branches b ≤ items
  share_within b =
      elim (cases_lt b branches) [
        | inl own ↦
            let e : roll_share items shares branches b ≡ min (get_or shares b 0) (items - roll_start items shares b) = cond-true (ltb b branches) _ 0 (lt-ltb b branches own) in
            omega (arith, e)
        | inr past ↦
            let e : roll_share items shares branches b ≡ 0 = cond-false (ltb b branches) _ 0 (le-ltb b branches past) in
            omega (arith, e)
      ]

  share_most : (b : ℕ) → roll_share items shares branches b ≤ get_or shares b 0
  share_most b =
      elim (cases_lt b branches) [
        | inl own ↦
            let e : roll_share items shares branches b ≡ min (get_or shares b 0) (items - roll_start items shares b) = cond-true (ltb b branches) _ 0 (lt-ltb b branches own) in
            omega (arith, e)
        | inr past ↦
            let e : roll_share items shares branches b ≡ 0 = cond-false (ltb b branches) _ 0 (le-ltb b branches past) in
            omega (arith, e)
      ]

  -- a part ends before the next begins
  parts_apart : (a b : ℕ) → a < b → roll_start items shares a + roll_share items shares branches a ≤ roll_start items shares b
  parts_apart a b h =
      let more : shares_before shares (a + 1) ≡ shares_before shares a + get_or shares a 0 = sum_more (λ k. get_or shares k 0) a in
      let grows : shares_before shares (a + 1) ≤ shares_before shares b = sum_grows (λ k. get_or shares k 0) (a + 1) b (omega arith) in
      omega (arith, share_within a, share_most a)

  -- shares that were checked are whole
  pub share_whole : roll_checked items shares branches ≡ Ok tt → (b : ℕ) → b < branches → roll_share items shares branches b ≡ get_or shares b 0
  share_whole passed b own =
      let fit = must_true (shares_fit items shares branches) (Unfit items) passed in
      let enough : shares_before shares branches ≤ items =
      leb-true (shares_before shares branches) items (and_parts (all branches (λ k. leb (get_or shares k 0) 1024)) _ (and_parts (ltb 0 (get_or shares 0 0)) _ (and_parts (eqb (length shares) branches) _ fit).1).1).1 in
      let more : shares_before shares (b + 1) ≡ shares_before shares b + get_or shares b 0 = sum_more (λ k. get_or shares k 0) b in
      let grows : shares_before shares (b + 1) ≤ shares_before shares branches = sum_grows (λ k. get_or shares k 0) (b + 1) branches (omega arith) in
      let e : roll_share items shares branches b ≡ min (get_or shares b 0) (items - roll_start items shares b) = cond-true (ltb b branches) _ 0 (lt-ltb b branches own) in
      omega (arith, e)

module _ (records : List (Option Posting)) (shares : List ℕ) (branches : ℕ) where
  pub part_length : (b : ℕ) → length (roll_part records shares branches b) ≡ roll_share (length records) shares branches b
  part_length b =
      let s = roll_start (length records) shares b in
      let n = roll_share (length records) shares branches b in
      omega (arith, length-take n (drop s records), length-drop s records, share_within (length records) shares branches b)

  -- it has the records from its start on
  pub part_record : (b k : ℕ) → k < length (roll_part records shares branches b) → get_or (roll_part records shares branches b) k None ≡ get_or records (roll_start (length records) shares b + k) None
  part_record b k h =
      let s = roll_start (length records) shares b in
      get_or-take (roll_share (length records) shares branches b) (drop s records) k None (omega (arith, part_length b)) ∙ get_or-drop s records k None

  -- a branch has as many postings as its share where none of its records is free, and fewer where one is
  module _ (kept : KeptParts records shares branches) (b : ℕ) where
    pub roll_full : position is_none (roll_part records shares branches b) ≡ None → false ≡ ltb (postings_at (roll_posted records shares branches) b) (roll_share (length records) shares branches b)
    roll_full none = sym (le-ltb _ _ (omega (arith, part_length b, none_free (roll_part records shares branches b) b (kept b) none)))

    pub roll_room : (k : ℕ) → position is_none (roll_part records shares branches b) ≡ Some k → true ≡ ltb (postings_at (roll_posted records shares branches) b) (roll_share (length records) shares branches b)
    roll_room k found =
        let free = free_found (roll_part records shares branches b) k found in
        sym (lt-ltb _ _ (omega (arith, part_length b, one_free (roll_part records shares branches b) b (kept b) k free.0 free.1)))

  -- a part's record, by its place among all
  pub is_record : (b i start : ℕ) (part : List (Option Posting)) (here : Option Posting) → part ≡ roll_part records shares branches b → start ≡ roll_start (length records) shares b → (i < length part) × (get_or part i None ≡ here) → IsRecord records shares branches b (start + i) here
  is_record b i start part here own starts found =
      let h : i < length (roll_part records shares branches b) = subst (λ (p : List (Option Posting)). i < length p) own found.0 in record {
        from = omega (arith, starts);
        to = omega (arith, starts, h, part_length b);
        is = ap (λ n. get_or records (n + i) None) starts ∙ sym (part_record b i h) ∙ ap (λ (p : List (Option Posting)). get_or p i None) (sym own) ∙ found.1;
      }

  -- of records that are all free, so are those of each part
  module _ (free : (k : ℕ) → get_or records k None ≡ None) where
    part_free : (b k : ℕ) → get_or (roll_part records shares branches b) k None ≡ None
    part_free b k =
        elim (cases_lt k (length (roll_part records shares branches b))) [
          | inl h ↦ part_record b k h ∙ free (roll_start (length records) shares b + k)
          | inr past ↦ get_or_past (roll_part records shares branches b) k None past
        ]

    pub free_posted : (x y z : ℕ) → roll_posted records shares branches x y z ≡ false
    free_posted x y z = none_among (roll_part records shares branches z) (length (roll_part records shares branches z)) x y z (part_free z)

    pub free_kept : KeptParts records shares branches
    free_kept b = none_kept (roll_part records shares branches b) b (part_free b)

-- a front of a list in which one element is written
take_set_in : {X : Type 0} (n : ℕ) (xs : List X) (i : ℕ) (v : X) → take n (set xs i v) ≡ set (take n xs) i v
take_set_in zero xs i v = refl
take_set_in (suc n) [] i v = refl
take_set_in (suc n) (x ∷ xs) zero v = refl
take_set_in (suc n) (x ∷ xs) (suc i) v = ap (λ ys. x ∷ ys) (take_set_in n xs i v)

-- a record of a branch's part, by its place among all records
module _ (records : List (Option Posting)) (shares : List ℕ) (branches b at : ℕ) (here : Option Posting) (is : IsRecord records shares branches b at here) where
  pub inside : at < length records
  inside = omega (arith, is.to, share_within (length records) shares branches b)

  -- its place in the part
  abbrev spot : ℕ
  spot = at - roll_start (length records) shares b

  place : at ≡ roll_start (length records) shares b + spot
  place = omega (arith, is.from)

  spot_inside : spot < length (roll_part records shares branches b)
  spot_inside = omega (arith, is.from, is.to, part_length records shares branches b)

  there : get_or (roll_part records shares branches b) spot None ≡ here
  there = part_record records shares branches b spot spot_inside ∙ ap (λ k. get_or records k None) (sym place) ∙ is.is

  -- the record written
  module _ (v : Option Posting) where
    as_long : (z : ℕ) → roll_part (set records at v) shares branches z ≡ take (roll_share (length records) shares branches z) (drop (roll_start (length records) shares z) (set records at v))
    as_long z = ap (λ n. take (roll_share n shares branches z) (drop (roll_start n shares z) (set records at v))) (length-set records at v)

    set_part : roll_part (set records at v) shares branches b ≡ set (roll_part records shares branches b) spot v
    set_part =
        let s = roll_start (length records) shares b in
        let n = roll_share (length records) shares branches b in
        as_long b ∙ ap (λ k. take n (drop s (set records k v))) place ∙ ap (take n) (drop-set-add s records spot v) ∙ take_set_in n (drop s records) spot v

    set_others : (z : ℕ) → (z ≡ b → ⊥) → roll_part (set records at v) shares branches z ≡ roll_part records shares branches z
    set_others z ne =
        let s = roll_start (length records) shares z in
        let n = roll_share (length records) shares branches z in
        as_long z
        ∙ elim (cases_order z b) [
          | inl same ↦ absurd (ne same)
          | inr (inl before) ↦
              let ends = parts_apart (length records) shares branches z b before in
              let gap : at ≡ s + (at - s) = omega (arith, ends, is.from) in
              ap (λ k. take n (drop s (set records k v))) gap ∙ ap (take n) (drop-set-add s records (at - s) v) ∙ take-set-le n (drop s records) (at - s) v (omega (arith, ends, is.from))
          | inr (inr after) ↦ ap (take n) (drop-set-lt s records at v (omega (arith, is.to, parts_apart (length records) shares branches b z after)))
        ]

    -- it alone changes who is posted, and the records stay kept where those of the part do
    set_posted : (after : Postings) → ((x y : ℕ) → among (set (roll_part records shares branches b) spot v) (length (roll_part records shares branches b)) x y b ≡ after x y b) → ((x y z : ℕ) → (z ≡ b → ⊥) → after x y z ≡ roll_posted records shares branches x y z) → (x y z : ℕ) → roll_posted (set records at v) shares branches x y z ≡ after x y z
    set_posted after own elsewhere x y z =
        elim (cases_eq z b) [
          | inl same ↦
              subst (λ m. roll_posted (set records at v) shares branches x y m ≡ after x y m) (sym same)
              (ap (λ (part : List (Option Posting)). among part (length part) x y b) set_part ∙ ap (λ n. among (set (roll_part records shares branches b) spot v) n x y b) (length-set (roll_part records shares branches b) spot v) ∙ own x y)
          | inr ne ↦ ap (λ (part : List (Option Posting)). among part (length part) x y z) (set_others z ne) ∙ sym (elsewhere x y z ne)
        ]

    set_kept : KeptParts records shares branches → Kept (set (roll_part records shares branches b) spot v) b → KeptParts (set records at v) shares branches
    set_kept kept own z =
        elim (cases_eq z b) [
          | inl same ↦ subst (λ m. Kept (roll_part (set records at v) shares branches m) m) (sym same) (subst (λ part. Kept part b) (sym set_part) own)
          | inr ne ↦ subst (λ part. Kept part z) (sym (set_others z ne)) (kept z)
        ]

-- a posting written into a free record of its branch's part
module _ (records : List (Option Posting)) (shares : List ℕ) (branches at : ℕ) (it : Posting) (is : IsRecord records shares branches it.branch at None) where
  pub roll_added : (x y z : ℕ) → roll_posted (set records at (Some it)) shares branches x y z ≡ added (roll_posted records shares branches) it.person it.role it.branch x y z
  roll_added =
      set_posted records shares branches it.branch at None is (Some it) (added (roll_posted records shares branches) it.person it.role it.branch)
      (λ x y. written (roll_part records shares branches it.branch) _ it (there records shares branches it.branch at None is) (spot_inside records shares branches it.branch at None is) x y it.branch)
      (λ x y z ne. ap (λ t. t || roll_posted records shares branches x y z) (and_left (eqb z it.branch) _ (ne_eqb z it.branch ne)))

  pub added_kept : KeptParts records shares branches → it.person < 64 → it.role < 16 → roll_posted records shares branches it.person it.role it.branch ≡ false → KeptParts (set records at (Some it)) shares branches
  added_kept kept own-person own-role absent =
      set_kept records shares branches it.branch at None is (Some it) kept
      (written_kept (roll_part records shares branches it.branch) _ it (there records shares branches it.branch at None is) (spot_inside records shares branches it.branch at None is) (kept it.branch) own-person own-role absent)

-- the record of a posting freed
module _ (records : List (Option Posting)) (shares : List ℕ) (branches at : ℕ) (it : Posting) (kept : KeptParts records shares branches) (is : IsRecord records shares branches it.branch at (Some it)) where
  pub roll_removed : (x y z : ℕ) → roll_posted (set records at None) shares branches x y z ≡ removed (roll_posted records shares branches) it.person it.role it.branch x y z
  roll_removed =
      set_posted records shares branches it.branch at (Some it) is None (removed (roll_posted records shares branches) it.person it.role it.branch)
      (λ x y. freed (roll_part records shares branches it.branch) _ it (there records shares branches it.branch at (Some it) is) it.branch (kept it.branch) x y it.branch)
      (λ x y z ne. ap (λ t. not t && roll_posted records shares branches x y z) (and_left (eqb z it.branch) _ (ne_eqb z it.branch ne)))

  pub removed_kept : KeptParts (set records at None) shares branches
  removed_kept =
      set_kept records shares branches it.branch at (Some it) is None kept
      (freed_kept (roll_part records shares branches it.branch) _ it (there records shares branches it.branch at (Some it) is) it.branch (kept it.branch))

-- records that are all free
module _ (records : List (Option Posting)) (shares : List ℕ) (branches n : ℕ) (cleared : records ≡ replicate n None) where
  each_free : (k : ℕ) → get_or records k None ≡ None
  each_free k =
      ap (λ (rs : List (Option Posting)). get_or rs k None) cleared
      ∙ elim (cases_lt k n) as (λ _. get_or {A = Option Posting} (replicate n None) k None ≡ None) [
        | inl h ↦ get_or-replicate n k None None h
        | inr past ↦ get_or_past (replicate n None) k None (omega (arith, length-replicate {A = Option Posting} n None))
      ]

  -- post nobody, and are kept
  pub roll_cleared : (x y z : ℕ) → roll_posted records shares branches x y z ≡ false
  roll_cleared = free_posted records shares branches each_free

  pub cleared_kept : KeptParts records shares branches
  cleared_kept = free_kept records shares branches each_free

-- a test of the first shares, of which those that are not there are 0
all_first : (test : ℕ → Bool) (n : ℕ) → all (suc n) test ≡ (test 0 && all n (λ k. test (suc k)))
all_first test n =
    all_same test (λ k. test (0 + k)) (suc n) (λ k h. ap test (omega arith))
    ∙ sym (all_range test 0 (suc n))
    ∙ ap (λ b. test 0 && b) (all_range test 1 n ∙ all_same _ (λ k. test (suc k)) n (λ k h. ap test (omega arith)))

pub all_taken : (test : ℕ → Bool) → test 0 ≡ true → (xs : List ℕ) (n : ℕ) → list_all test (take n xs) ≡ all n (λ k. test (get_or xs k 0))
all_taken test none xs zero = refl
all_taken test none [] (suc n) = sym (all_of _ (suc n) (λ k h. none))
all_taken test none (x ∷ xs) (suc n) = ap (λ b. test x && b) (all_taken test none xs n) ∙ sym (all_first (λ k. test (get_or (x ∷ xs) k 0)) n)
