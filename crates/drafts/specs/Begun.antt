-- A draft that was begun and added to, and what can still be wrong with its message.
use Rattle.std.specs.Prelude.{◌≡◌, ℕ, ◌+◌, ◌<◌, List, [], ◌∷◌, length, take, Ok, Result, nat_lt, slice_index_or}
use Rattle.refusals.specs.Checks.{must, in_order, every}
use Rattle.fields.specs.declared.fault.FieldFault.TheVariants.{Value}
use Rattle.messages.specs.Posts.{no_post}
use Rattle.messages.specs.declared.call.Call.{Call}
use Rattle.messages.specs.declared.call.Call.TheVariants.{Decide, Grant, Take, Throughout, Enrol, Strike, Open, Close, Permit, Forbid, Sit}
use Rattle.messages.specs.declared.fault.MessageFault.{MessageFault}
use Rattle.messages.specs.declared.fault.MessageFault.TheVariants.{Field}
use Rattle.messages.specs.declared.post.Post.{Post}
use Rattle.drafts.specs.Posts.{add_result}
use Rattle.drafts.specs.Steps.{begin_result}
use Rattle.drafts.specs.declared.draft.Draft.{Draft}

-- the post with a place may be added behind those before it
abbrev pub added_at : List Post → ℕ → Result (Unit {0}) MessageFault
added_at posts k = add_result (take k posts) (slice_index_or posts k no_post)

-- the draft was begun, and each of these posts was added behind those before it
pub record Grown {S : Type 0} (draft : Draft S) (posts : List Post) : Type 0 where
  pub begun : begin_result (length draft.memory.now) draft.person ≡ Ok tt
  pub added : every (length posts) (added_at posts) ≡ Ok tt

-- the draft was begun, and its posts were added so, one at least
pub record Begun (draft : Draft (List Post)) : Type 0 where
  pub grown : Grown draft draft.state
  pub some : 0 < length draft.state

-- a number at an offset is below its limit
abbrev pub below : ℕ → ℕ → ℕ → Result (Unit {0}) MessageFault
below n limit at = must (nat_lt n limit) (Field (Value at))

-- each argument of a call is below its fixed limit; the first stands at an offset
abbrev pub arguments_result : Call → ℕ → Result (Unit {0}) MessageFault
arguments_result (Decide operation piece) at = in_order (below operation 8 at ∷ below piece 1024 (at + 1) ∷ [])
arguments_result (Grant person role branch) at = in_order (below person 64 at ∷ below role 16 (at + 1) ∷ below branch 64 (at + 2) ∷ [])
arguments_result (Take person role branch) at = in_order (below person 64 at ∷ below role 16 (at + 1) ∷ below branch 64 (at + 2) ∷ [])
arguments_result (Throughout person role branch) at = in_order (below person 64 at ∷ below role 16 (at + 1) ∷ below branch 64 (at + 2) ∷ [])
arguments_result (Enrol person branch) at = in_order (below person 64 at ∷ below branch 64 (at + 1) ∷ [])
arguments_result (Strike person branch) at = in_order (below person 64 at ∷ below branch 64 (at + 1) ∷ [])
arguments_result (Open branch) at = below branch 64 at
arguments_result (Close branch) at = below branch 64 at
arguments_result (Permit operation kind role) at = in_order (below operation 8 at ∷ below kind 16 (at + 1) ∷ below role 16 (at + 2) ∷ [])
arguments_result (Forbid operation kind role) at = in_order (below operation 8 at ∷ below kind 16 (at + 1) ∷ below role 16 (at + 2) ∷ [])
arguments_result Sit at = Ok tt
