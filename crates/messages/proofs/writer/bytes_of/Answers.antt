-- The head, the posts and the arguments make the message.
use Rattle.std.proofs.Common.{◌≡◌, ◌+◌, ◌*◌, ◌≤◌, [], ◌∷◌, ◌++◌, length, sym, ap, ◌∙◌, arith, rules, length-append}
use Rattle.std.specs.List.{flat_map}
use Rattle.messages.specs.Arguments.{arguments_of, arguments_width}
use Rattle.messages.specs.Calls.{number_of}
use Rattle.messages.specs.Posts.{post_bytes}
use Rattle.messages.specs.Said.{said}
use Rattle.messages.proofs.Written.{length_posts, written_parts}
use Rattle.messages.proofs.writer.bytes_of.Goals as goal

pub add_arguments-requires : goal.add_arguments-requires
add_arguments-requires c =
    let s = said c.args.message.now in
    let head : length c.try_extend_from_slice.new.self.items ≡ 6 = search rules in
    let few : length s.posts ≤ 4 = search rules in
    omega (arith, simp length-append at (ap length c.add_posts.ensures), length_posts s.posts)

pub returns : goal.returns
returns c =
    let m = c.args.message.now in
    let s = said m in
    let count = m.sitting.count in
    let few : count ≤ 4 = search rules in
    let all : length s.posts ≡ count = search rules in
    let head : c.try_extend_from_slice.new.self.items ≡ 1 ∷ 0 ∷ (3 + 2 * count + arguments_width (number_of s.call)) ∷ number_of s.call ∷ s.person ∷ count ∷ [] = search rules in
    c.add_arguments.ensures
    ∙ ap (λ xs. xs ++ arguments_of s.call) (c.add_posts.ensures ∙ ap (λ xs. xs ++ flat_map post_bytes s.posts) head)
    ∙ sym (written_parts s count all few)
