-- The posts passed so far stand behind the bytes before them.
use Rattle.std.proofs.Common.{◌≡◌, ◌++◌, take}
use Rattle.std.specs.List.{flat_map}
use Rattle.messages.specs.Posts.{post_bytes}
use Rattle.messages.proofs.writer.add_posts.Given as goal

abbrev pub invariant-loop-post : goal.invariant-loop-post
invariant-loop-post l = l.bytes.items ≡ l.initial.bytes.items ++ flat_map post_bytes (take l.post-index l.post-items)
