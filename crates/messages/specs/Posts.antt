-- Posts: as they stand in bytes, and two of them beside each other.
use Rattle.std.specs.Prelude.{◌≡◌, ℕ, ◌+◌, ◌<◌, Bool, false, ◌&&◌, List, [], ◌∷◌, Result, ◌==◌, slice_index_or}
use Rattle.refusals.specs.Checks.{in_order}
use Rattle.fields.specs.Bytes.{byte_at}
use Rattle.fields.specs.declared.fault.FieldFault.{FieldFault}
use Rattle.messages.specs.declared.post.Post.{Post}
use Rattle.messages.specs.Numbers.{role_checked, branch_checked}

-- what stands in the places behind the last post of a sitting
abbrev pub no_post : Post
no_post = record { role = 0; branch = 0 }

-- the bytes of a post
abbrev pub post_bytes : Post → List ℕ
post_bytes post = post.role ∷ post.branch ∷ []

-- the post that stands at an offset
abbrev pub post_at : List ℕ → ℕ → Post
post_at bytes at = record { role = byte_at bytes at; branch = byte_at bytes (at + 1) }

-- a role and then a branch stand at an offset
abbrev pub post_checked : List ℕ → ℕ → Result (Unit {0}) FieldFault
post_checked bytes at = in_order (role_checked bytes at ∷ branch_checked bytes (at + 1) ∷ [])

-- two posts are the same
abbrev pub same_post : Post → Post → Bool
same_post x y = x.role == y.role && x.branch == y.branch

-- no two of the first posts are the same
abbrev pub Apart : List Post → ℕ → Type 0
Apart posts count = (i j : ℕ) → (i < j) × (j < count) → same_post (slice_index_or posts i no_post) (slice_index_or posts j no_post) ≡ false
