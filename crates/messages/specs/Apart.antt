-- Posts beside each other, as they stand in a list.
use Rattle.std.specs.Prelude.{ℕ, not, List, length, take, Result, slice_index_or}
use Rattle.refusals.specs.Checks.{must, every}
use Rattle.messages.specs.Posts.{no_post, same_post}
use Rattle.messages.specs.declared.fault.MessageFault.{MessageFault}
use Rattle.messages.specs.declared.fault.MessageFault.TheVariants.{Twice}
use Rattle.messages.specs.declared.post.Post.{Post}

-- a post is not the one with a place before it
abbrev pub differs : List Post → Post → ℕ → Result (Unit {0}) MessageFault
differs before post j = must (not (same_post (slice_index_or before j no_post) post)) (Twice (length before))

-- a post repeats none of those before it
abbrev pub new_post : List Post → Post → Result (Unit {0}) MessageFault
new_post before post = every (length before) (differs before post)

-- the post with a place repeats none before it
abbrev pub new_at : List Post → ℕ → Result (Unit {0}) MessageFault
new_at posts k = new_post (take k posts) (slice_index_or posts k no_post)

-- no post repeats another
abbrev pub apart_posts : List Post → Result (Unit {0}) MessageFault
apart_posts posts = every (length posts) (new_at posts)
