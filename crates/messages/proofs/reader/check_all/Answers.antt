-- The checks of the fields, and then of the posts beside each other.
use Rattle.std.proofs.Common.{◌≡◌, Ok, sym, ap, ◌∙◌, rules}
use Rattle.fields.specs.Records.{filled}
use Rattle.messages.specs.Posts.{no_post}
use Rattle.messages.specs.Said.{post_in}
use Rattle.messages.specs.Reading.{message_result}
use Rattle.messages.proofs.Apart.{posts_decide}
use Rattle.messages.proofs.reader.check_all.Goals as goal

pub returns-in_err-kind-clause-answer : goal.returns-in_err-kind-clause-answer
unfolding message_result
returns-in_err-kind-clause-answer c = search rules

pub returns-in_err-check_apart-clause-answer : goal.returns-in_err-check_apart-clause-answer
returns-in_err-check_apart-clause-answer c =
    let decide = posts_decide c.args.bytes.now c.byte-count.result c.byte-count.ensures (search rules) in
    search rules

pub returns-clause-answer : goal.returns-clause-answer
returns-clause-answer c =
    let passed : message_result c.args.bytes.now ≡ Ok tt = posts_decide c.args.bytes.now c.byte-count.result c.byte-count.ensures (search rules) ∙ search rules in
    sym passed

pub returns-clause-posts : goal.returns-clause-posts
returns-clause-posts c = c.read_list-posts.ensures ∙ ap (λ count. filled 4 count no_post (post_in c.args.bytes.now)) c.byte-count.ensures
