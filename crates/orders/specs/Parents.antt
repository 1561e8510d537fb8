-- Orders by parents: each member but 0 has a parent with a lower number.
use Rattle.std.specs.Prelude.{ℕ, zero, suc, ◌<◌, Bool, ◌&&◌, ◌||◌, List, Result, ◌==◌, nat_le, nat_lt, slice_index}
use Rattle.orders.specs.declared.parents.ParentsFault.{ParentsFault}
use Rattle.orders.specs.declared.parents.ParentsFault.TheVariants.{TooMany, NotLower}
use Rattle.refusals.specs.Checks.{every, must, then}

-- the member may have this parent: it is lower, or the member is 0, which has none
abbrev pub stands_lower : ℕ → ℕ → Bool
stands_lower member parent = member == 0 || nat_lt parent member

-- the member's parent is lower, or the member is refused
abbrev pub parent_check : List ℕ → ℕ → Result (Unit {0}) ParentsFault
parent_check parents m = must (stands_lower m (slice_index parents m)) (NotLower m)

-- at most 64 members, and then the lowest member whose parent is not lower is refused
abbrev pub parents_checked : List ℕ → ℕ → Result (Unit {0}) ParentsFault
parents_checked parents n = then (must (nat_le n 64) TooMany) (every n (parent_check parents))

-- each of n members but 0 has a parent with a lower number
abbrev pub Lower : List ℕ → ℕ → Type 0
Lower parents n = (m : ℕ) → m < n → 0 < m → slice_index parents m < m

-- going up from b by at most so many parents, and never past member 0, one comes to a
abbrev pub climbs : ℕ → List ℕ → ℕ → ℕ → Bool
climbs zero parents a b = b == a
climbs (suc steps) parents a b = b == a || (nat_lt 0 b && climbs steps parents a (slice_index parents b))

-- of n members, a is b or stands above it; as each parent is lower, b steps lead all the way up from b
abbrev pub tree_above : List ℕ → ℕ → ℕ → ℕ → Bool
tree_above parents n a b = nat_lt a n && (nat_lt b n && climbs b parents a b)
