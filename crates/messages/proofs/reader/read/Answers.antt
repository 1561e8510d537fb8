-- Accepted bytes have one to four posts, no two of them the same, and are written back.
use Rattle.std.proofs.Common.{◌≡◌, ◌+◌, ◌*◌, Ok, sym, ap, ◌∙◌, subst, arith, rules}
use Rattle.fields.specs.Bytes.{byte_at}
use Rattle.fields.specs.Records.{filled}
use Rattle.messages.specs.Arguments.{call_at}
use Rattle.messages.specs.Posts.{no_post, Apart}
use Rattle.messages.specs.Reading.{message_result}
use Rattle.messages.specs.Said.{post_in, written}
use Rattle.messages.proofs.Accepted.{count_bounds, posts_apart}
use Rattle.messages.proofs.WrittenBack.{parts_read, written_back}
use Rattle.messages.proofs.reader.read.Goals as goal

pub invariant_of-into : goal.invariant_of-into
invariant_of-into c =
    let bytes = c.args.bytes.now in
    let count = c.byte-count.result in
    let passed : message_result bytes ≡ Ok tt = search rules in
    let posts : c.in_ok-kind.posts ≡ filled 4 (byte_at bytes 5) no_post (post_in bytes) = search rules in
    let bounds = count_bounds bytes passed in
    record {
      some = omega arith;
      few = omega arith;
      apart = subst (λ posts. Apart posts count) (sym (posts ∙ ap (λ count. filled 4 count no_post (post_in bytes)) (sym c.byte-count.ensures))) (posts_apart bytes count passed c.byte-count.ensures);
    }

pub returns-clause-written_back : goal.returns-clause-written_back
returns-clause-written_back c =
    let bytes = c.args.bytes.now in
    let passed : message_result bytes ≡ Ok tt = search rules in
    let posts : c.in_ok-kind.posts ≡ filled 4 (byte_at bytes 5) no_post (post_in bytes) = search rules in
    let call : c.read_call.result ≡ call_at bytes (byte_at bytes 3) (6 + 2 * byte_at bytes 5) = search rules in
    ap written (parts_read bytes c.byte.ensures c.byte-count.ensures posts call (count_bounds bytes passed).1) ∙ written_back bytes (λ k. omega (arith, c.type_inv.bytes k)) passed
