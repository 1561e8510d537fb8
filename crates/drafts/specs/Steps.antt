-- What each step of a draft says.
use Rattle.std.specs.Prelude.{ℕ, List, [], ◌∷◌, Ok, Err, Result, nat_le, nat_lt}
use Rattle.refusals.specs.Checks.{must, then, in_order, verdict}
use Rattle.fields.specs.declared.fault.FieldFault.TheVariants.{Length, Value}
use Rattle.messages.specs.Numbers.{within}
use Rattle.messages.specs.Said.{Said}
use Rattle.messages.specs.Writing.{write_result}
use Rattle.messages.specs.declared.fault.MessageFault.{MessageFault}
use Rattle.messages.specs.declared.fault.MessageFault.TheVariants.{Field}
use Rattle.messages.specs.declared.post.Post.{Post}
use Rattle.messages.specs.Apart.{apart_posts}

-- what a step says, whatever it hands on or gives back
abbrev pub outcome : {A B F : Type 0} → Result A (B × F) → Result (Unit {0}) F
outcome (Ok next) = Ok tt
outcome (Err back) = Err back.1

-- the memory has room for every message, and the person is below the limit
abbrev pub begin_result : ℕ → ℕ → Result (Unit {0}) MessageFault
begin_result size person = in_order (must (nat_le 17 size) (Field (Length size)) ∷ must (nat_lt person 64) (Field (Value 4)) ∷ [])

-- one to four posts, no two of them the same
abbrev pub seat_result : ℕ → List Post → Result (Unit {0}) MessageFault
seat_result count posts = in_order (must (within 1 count 4) (Field (Value 5)) ∷ apart_posts posts ∷ [])

-- the posts make a sitting, the memory has room, and the reader accepts the message's bytes
abbrev pub finish_result : ℕ → ℕ → Said → Result (Unit {0}) MessageFault
finish_result size count s = then (seat_result count s.posts) (verdict (write_result s size))
