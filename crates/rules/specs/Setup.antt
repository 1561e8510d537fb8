-- What a headset is sold with and never changes, and what its calls may change.
use Rattle.std.specs.Prelude.{◌≡◌, ℕ, ◌<◌, Bool, true, false, ◌&&◌, is_ok, nat_lt, slice_index_or}
use Rattle.plans.specs.Branch.{no_branch}
use Rattle.plans.specs.Piece.{no_piece}
use Rattle.plans.specs.Role.{may_stand, no_role}
use Rattle.plans.specs.declared.piece.Piece.{Piece}
use Rattle.plans.specs.declared.plan.Plan.{Plan}
use Rattle.registers.specs.Meaning.{Postings, added, nobody, put_checked}

-- what an order means: how many members it has, and which member is at or above which
pub record Hierarchy : Type 0 where
  pub members : ℕ
  pub above : ℕ → ℕ → Bool

-- the laws of an order
pub record Lawful (h : Hierarchy) : Type 0 where
  pub inside : (a b : ℕ) → h.above a b ≡ true → (a < h.members) × (b < h.members)
  pub reflexive : (a : ℕ) → a < h.members → h.above a a ≡ true
  pub transitive : (a b c : ℕ) → h.above a b ≡ true → h.above b c ≡ true → h.above a c ≡ true
  pub antisymmetric : (a b : ℕ) → h.above a b ≡ true → h.above b a ≡ true → a ≡ b

-- what never changes: the plan, the orders of branches and of roles, how many branches the register has, and its shares
pub record Setup : Type 0 where
  pub plan : Plan
  pub branches : Hierarchy
  pub roles : Hierarchy
  pub register_branches : ℕ
  pub share : ℕ → ℕ

-- what calls may change: who is posted to which role at which branch, who is enrolled at which branch, which branches have
-- their mark closed, and which permits there are for an operation, a piece kind and a role
pub record State : Type 0 where
  pub posted : Postings
  pub enrolled : ℕ → ℕ → Bool
  pub closed : ℕ → Bool
  pub permitted : ℕ → ℕ → ℕ → Bool

-- branch o is branch t or stands above it
abbrev pub over : Setup → ℕ → ℕ → Bool
over w o t = w.branches.above o t

-- role q is role r or stands above it
abbrev pub outranks : Setup → ℕ → ℕ → Bool
outranks w q r = w.roles.above q r

-- a person exists: one of 64
abbrev pub is_person : ℕ → Bool
is_person person = nat_lt person 64

-- a role exists: one of 16, in the plan and in the order
abbrev pub is_role : Setup → ℕ → Bool
is_role w role = nat_lt role 16 && (nat_lt role w.plan.role_count && nat_lt role w.roles.members)

-- a branch exists: one of 64, in the plan, in the order and in the register
abbrev pub is_branch : Setup → ℕ → Bool
is_branch w branch =
    nat_lt branch 64 && (nat_lt branch w.plan.branch_count && (nat_lt branch w.branches.members && nat_lt branch w.register_branches))

-- a piece exists: one of 1,024, in the plan
abbrev pub is_piece : Setup → ℕ → Bool
is_piece w piece = nat_lt piece 1024 && nat_lt piece w.plan.piece_count

-- an operation exists: one of 8
abbrev pub is_operation : ℕ → Bool
is_operation operation = nat_lt operation 8

-- a piece kind exists: one of 16
abbrev pub is_kind : ℕ → Bool
is_kind kind = nat_lt kind 16

-- the piece with a number
abbrev pub piece_of : Setup → ℕ → Piece
piece_of w piece = slice_index_or w.plan.pieces piece no_piece

-- the home of a piece: the branch that it belongs to
abbrev pub home_of : Setup → ℕ → ℕ
home_of w piece = (piece_of w piece).home

-- the role may stand at the branch: its mask has the branch's kind
abbrev pub may_stand_at : Setup → ℕ → ℕ → Bool
may_stand_at w role branch = may_stand (slice_index_or w.plan.roles role no_role) (slice_index_or w.plan.branches branch no_branch)

-- the register takes the founding posting: person 0 to the principal role at branch 0
abbrev pub founded : Setup → Bool
founded w = is_ok (put_checked nobody w.register_branches w.share 0 w.plan.principal 0)

-- a new state: the founding posting and no other, nobody enrolled, every mark open, no permits
unfoldable pub new : Setup → State
new w =
    record {
      posted = λ person role branch. founded w && added nobody 0 w.plan.principal 0 person role branch;
      enrolled = λ person branch. false;
      closed = λ branch. false;
      permitted = λ operation kind role. false;
    }
