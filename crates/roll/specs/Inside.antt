-- What holds of a roll that is kept: nobody is posted who is no person, to no role, or at a branch that is not the roll's own.
use Rattle.std.specs.Prelude.{◌≡◌, ℕ, ◌<◌, ◌≤◌, true, List, length, take, drop, Some, None, Option}
use Rattle.std.proofs.Common.{eqb, ltb, get_or, inl, inr, sym, ap, ◌∙◌, arith}
use Rattle.std.proofs.lemmas.Bool.{and_parts, cases_lt, cond-false, eqb-true, le-ltb, true≢false}
use Rattle.registers.specs.Meaning.{Inside, is_posting}
use Rattle.registers.specs.declared.posting.Posting.{Posting}
use Rattle.roll.specs.Part.{among}
use Rattle.roll.specs.Roll.{KeptParts, roll_part, roll_posted, roll_start}
use Rattle.search.proofs.Searches.{any_some}

-- a record that is a posting
pub posting_is : (found : Option Posting) (x y z : ℕ) → is_posting found x y z ≡ true → found ≡ Some (record { person = x; role = y; branch = z })
posting_is None x y z e = absurd (true≢false (sym e))
posting_is (Some it) x y z e =
    let a = and_parts (eqb z it.branch) _ e in
    let b = and_parts (eqb x it.person) (eqb y it.role) a.1 in
    ap (λ n. Some (record { person = n; role = it.role; branch = it.branch })) (sym (eqb-true x it.person b.0))
    ∙ ap (λ n. Some (record { person = x; role = n; branch = it.branch })) (sym (eqb-true y it.role b.1))
    ∙ ap (λ n. Some (record { person = x; role = y; branch = n })) (sym (eqb-true z it.branch a.0))

-- a posting that is among the records is one of them
pub among_some : (part : List (Option Posting)) (n x y z : ℕ) → among part n x y z ≡ true → (k : ℕ) × (k < n) × (get_or part k None ≡ Some (record { person = x; role = y; branch = z }))
among_some part n x y z e =
    let found = any_some (λ k. is_posting (get_or part k None) x y z) n e in
    (found.0, found.1, posting_is (get_or part found.0 None) x y z found.2)

-- a branch that is not the roll's own has no records
foreign : (records : List (Option Posting)) (shares : List ℕ) (branches b : ℕ) → branches ≤ b → length (roll_part records shares branches b) ≡ 0
foreign records shares branches b past =
    ap (λ n. length (take n (drop (roll_start (length records) shares b) records))) (cond-false (ltb b branches) _ 0 (le-ltb b branches past))

pub roll_inside : (records : List (Option Posting)) (shares : List ℕ) (branches : ℕ) → KeptParts records shares branches → Inside (roll_posted records shares branches) branches
roll_inside records shares branches kept x y b there =
    let found = among_some (roll_part records shares branches b) (length (roll_part records shares branches b)) x y b there in
    let own = (kept b).own found.0 _ found.2 in (
      own.0,
      own.1,
      elim (cases_lt b branches) [
        | inl h ↦ h
        | inr past ↦ absurd (omega (arith, found.1, foreign records shares branches b past))
      ],
    )
