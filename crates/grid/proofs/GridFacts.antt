-- What a grid says: of a cell's bits, of a branch's row, and of a put.
use Rattle.std.proofs.Common.{◌≡◌, ℕ, ◌+◌, ◌*◌, ◌<◌, true, false, not, ◌&&◌, eqb, ltb, List, length, get_or, take, drop, Ok, sym, ap, ◌∙◌, subst, inl, inr, arith}
use Rattle.grid.specs.Grid.{grid_branches, grid_posted, grid_share}
use Rattle.orders.specs.RowsFacts.{bit_past}
use Rattle.orders.specs.Masks.{has_bit}
use Rattle.registers.proofs.PostingFacts.{count_same, postings_less, put_passes}
use Rattle.registers.specs.Meaning.{others_at, postings_at, put_checked}
use Rattle.search.specs.Searches.{count_below}
use Rattle.std.proofs.lemmas.List.{get_or-drop, get_or-take, length-drop, length-take}
use Rattle.std.proofs.lemmas.Bool.{cases_lt, cond-true, le-ltb, lt-ltb}

module _ (cells : List ℕ) (branches : ℕ) where
  -- of a person and a branch that it has, the cell's bits decide
  pub grid_cell : (person role branch : ℕ) → person < 64 → branch < grid_branches cells branches → grid_posted cells branches person role branch ≡ (ltb role 16 && has_bit (get_or cells (branch * 64 + person) 0) role)
  grid_cell person role branch h k =
      let p : ltb person 64 ≡ true = lt-ltb person 64 h in
      let b : ltb branch (grid_branches cells branches) ≡ true = lt-ltb branch (grid_branches cells branches) k in
      ap (λ t. t && (ltb role 16 && (ltb branch (grid_branches cells branches) && has_bit (get_or cells (branch * 64 + person) 0) role))) p
      ∙ ap (λ t. ltb role 16 && (t && has_bit (get_or cells (branch * 64 + person) 0) role)) b

  -- and of a role that it has, one bit does
  pub grid_bit : (person role branch : ℕ) → person < 64 → role < 16 → branch < grid_branches cells branches → grid_posted cells branches person role branch ≡ has_bit (get_or cells (branch * 64 + person) 0) role
  grid_bit person role branch h r k = grid_cell person role branch h k ∙ ap (λ t. t && has_bit (get_or cells (branch * 64 + person) 0) role) (lt-ltb role 16 r)

  -- a cell's mask is the set of roles
  pub grid_mask : (person role branch : ℕ) → person < 64 → branch < grid_branches cells branches → get_or cells (branch * 64 + person) 0 < 65536 → has_bit (get_or cells (branch * 64 + person) 0) role ≡ grid_posted cells branches person role branch
  grid_mask person role branch h k fits =
      elim (cases_lt role 16) [
        | inl r ↦ sym (grid_bit person role branch h r k)
        | inr past ↦
            bit_past 16 (get_or cells (branch * 64 + person) 0) role fits past
            ∙ sym (grid_cell person role branch h k ∙ ap (λ t. t && has_bit (get_or cells (branch * 64 + person) 0) role) (le-ltb role 16 past))
      ]

  -- a branch's row of cells has one for each person
  pub row_length : (branch : ℕ) → branch < grid_branches cells branches → length (take 64 (drop (branch * 64) cells)) ≡ 64
  row_length branch own = omega (arith, length-take 64 (drop (branch * 64) cells), length-drop (branch * 64) cells)

  row_cell : (person branch : ℕ) → person < 64 → get_or (take 64 (drop (branch * 64) cells)) person 0 ≡ get_or cells (branch * 64 + person) 0
  row_cell person branch h = get_or-take 64 (drop (branch * 64) cells) person 0 h ∙ get_or-drop (branch * 64) cells person 0

  -- the others of a row are the others posted
  pub row_others : (person role branch : ℕ) → person < 64 → role < 16 → branch < grid_branches cells branches → count_below (length (take 64 (drop (branch * 64) cells))) (λ x. not (eqb x person) && has_bit (get_or (take 64 (drop (branch * 64) cells)) x 0) role) ≡ others_at (grid_posted cells branches) person role branch
  row_others person role branch h r own =
      ap (λ n. count_below n (λ x. not (eqb x person) && has_bit (get_or (take 64 (drop (branch * 64) cells)) x 0) role)) (row_length branch own)
      ∙ count_same _ _ 64 (λ x k. ap (λ b. not (eqb x person) && b) (ap (λ c. has_bit c role) (row_cell x branch k) ∙ sym (grid_bit x role branch k r own)))
      ∙ sym (cond-true (ltb person 64) _ 0 (lt-ltb person 64 h))

  -- a put of what is absent is never refused: 1024 postings are all that there can be
  pub grid_put : (person role branch : ℕ) → person < 64 → role < 16 → branch < grid_branches cells branches → has_bit (get_or cells (branch * 64 + person) 0) role ≡ false → put_checked (grid_posted cells branches) (grid_branches cells branches) (grid_share cells branches) person role branch ≡ Ok tt
  grid_put person role branch h r own absent =
      let none : grid_posted cells branches person role branch ≡ false = grid_bit person role branch h r own ∙ absent in
      let all : grid_share cells branches branch ≡ 1024 = cond-true (ltb branch (grid_branches cells branches)) 1024 0 (lt-ltb branch (grid_branches cells branches) own) in
      put_passes (grid_posted cells branches) (grid_branches cells branches) (grid_share cells branches) person role branch h r own none
      (subst (λ n. postings_at (grid_posted cells branches) branch < n) (sym all) (postings_less (grid_posted cells branches) person role branch h r none))
