-- What a message says, and the bytes that say it.
use Rattle.std.specs.Prelude.{ℕ, ◌+◌, ◌*◌, List, ◌∷◌, ◌++◌, map, length, take}
use Rattle.std.specs.List.{range_with_len, flat_map}
use Rattle.fields.specs.Bytes.{byte_at}
use Rattle.messages.specs.Arguments.{arguments_of, call_at, two_bytes}
use Rattle.messages.specs.Calls.{number_of}
use Rattle.messages.specs.Posts.{post_at, post_bytes}
use Rattle.messages.specs.declared.call.Call.{Call}
use Rattle.messages.specs.declared.message.Message.{Message}
use Rattle.messages.specs.declared.post.Post.{Post}

-- a person, the posts of the sitting, and the call
pub record Said : Type 0 where
  pub person : ℕ
  pub posts : List Post
  pub call : Call

-- what a message says
abbrev pub said : Message → Said
said message =
    record { person = message.sitting.person; posts = take message.sitting.count message.sitting.posts; call = message.call }

-- the post with a place in the sitting that bytes say
abbrev pub post_in : List ℕ → ℕ → Post
post_in bytes k = post_at bytes (6 + 2 * k)

-- what bytes say
unfoldable pub said_in : List ℕ → Said
said_in bytes =
    record { person = byte_at bytes 4; posts = map (post_in bytes) (range_with_len 0 (byte_at bytes 5)); call = call_at bytes (byte_at bytes 3) (6 + 2 * byte_at bytes 5) }

-- the body of a message: call, person, posts and arguments
unfoldable pub body_of : Said → List ℕ
body_of s =
    number_of s.call ∷ s.person ∷ length s.posts ∷ flat_map post_bytes s.posts ++ arguments_of s.call

-- the bytes of a message: version 1, the length of the body, and the body
unfoldable pub written : Said → List ℕ
written s = 1 ∷ two_bytes (length (body_of s)) ++ body_of s
