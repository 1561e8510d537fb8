-- The checks of a message, in the order of its fields, and what is read from the bytes that pass.
use Rattle.std.specs.Prelude.{◌≡◌, ℕ, ◌+◌, ◌*◌, not, List, [], ◌∷◌, Ok, Err, Result}
use Rattle.refusals.specs.Checks.{must, in_order, every}
use Rattle.fields.specs.Bytes.{byte_at}
use Rattle.fields.specs.Fields.{header_checked, field_checked, end_checked}
use Rattle.fields.specs.Records.{filled}
use Rattle.fields.specs.declared.fault.FieldFault.{FieldFault}
use Rattle.messages.specs.Calls.{kind_number}
use Rattle.messages.specs.declared.kind.CallKind.{CallKind}
use Rattle.messages.specs.Arguments.{arguments_checked, arguments_width, call_at}
use Rattle.messages.specs.Numbers.{within, person_checked}
use Rattle.messages.specs.Posts.{no_post, post_checked, same_post}
use Rattle.messages.specs.Said.{post_in}
use Rattle.messages.specs.declared.fault.MessageFault.{MessageFault}
use Rattle.messages.specs.declared.fault.MessageFault.TheVariants.{Field, Twice}
use Rattle.messages.specs.declared.message.Message.{Message}

-- the kind of call that the bytes name, in the field of the call
abbrev pub IsCallOf : List ℕ → CallKind → Type 0
IsCallOf bytes kind = kind_number kind ≡ byte_at bytes 3

-- header, call, person, number of posts, posts, arguments, and nothing behind them
abbrev pub field_steps : List ℕ → ℕ → ℕ → List (Result (Unit {0}) FieldFault)
field_steps bytes number count =
    header_checked bytes 14
    ∷ field_checked bytes 3 1 (within 1 number 11)
    ∷ person_checked bytes 4
    ∷ field_checked bytes 5 1 (within 1 count 4)
    ∷ every count (λ k. post_checked bytes (6 + 2 * k))
    ∷ arguments_checked bytes number (6 + 2 * count)
    ∷ end_checked bytes (6 + 2 * count + arguments_width number)
    ∷ []

-- a check of fields as a check of the message
abbrev pub lifted : Result (Unit {0}) FieldFault → Result (Unit {0}) MessageFault
lifted (Ok passed) = Ok tt
lifted (Err fault) = Err (Field fault)

-- the post with a place in the sitting repeats none before it
abbrev pub new_checked : List ℕ → ℕ → Result (Unit {0}) MessageFault
new_checked bytes k = every k (λ j. must (not (same_post (post_in bytes j) (post_in bytes k))) (Twice k))

-- no post repeats another
abbrev pub apart_checked : List ℕ → ℕ → Result (Unit {0}) MessageFault
apart_checked bytes count = every count (new_checked bytes)

-- the fields one by one, and then the posts beside each other
abbrev pub message_steps : List ℕ → ℕ → ℕ → List (Result (Unit {0}) MessageFault)
message_steps bytes number count = lifted (in_order (field_steps bytes number count)) ∷ apart_checked bytes count ∷ []

-- the first thing that is wrong with a message
unfoldable pub message_result : List ℕ → Result (Unit {0}) MessageFault
message_result bytes = in_order (message_steps bytes (byte_at bytes 3) (byte_at bytes 5))

-- the message holds what the bytes say, and the empty post behind the last
pub record Reads (bytes : List ℕ) (message : Message) : Type 0 where
  pub person : message.sitting.person ≡ byte_at bytes 4
  pub count : message.sitting.count ≡ byte_at bytes 5
  pub posts : message.sitting.posts ≡ filled 4 (byte_at bytes 5) no_post (post_in bytes)
  pub call : message.call ≡ call_at bytes (byte_at bytes 3) (6 + 2 * byte_at bytes 5)
