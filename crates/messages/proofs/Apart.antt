-- Posts beside each other: a look at all earlier ones at once, and posts that were read from bytes.
use Rattle.std.proofs.Common.{◌≡◌, ℕ, ◌<◌, not, List, length, get_or, [], ◌∷◌, take, map, Ok, sym, ap, ◌∙◌, subst, arith}
use Rattle.std.specs.List.{list_any, range_with_len}
use Rattle.std.proofs.lemmas.List.FromFn.{get_or-map-range_with_len, length-map-range_with_len}
use Rattle.std.proofs.lemmas.List.{get_or-take, length-take-le, take_all}
use Rattle.refusals.specs.Checks.{must, in_order, every}
use Rattle.refusals.proofs.Rows.{every_same, every_none}
use Rattle.fields.specs.Bytes.{byte_at}
use Rattle.fields.specs.Records.{filled}
use Rattle.messages.specs.Apart.{differs, new_post, new_at, apart_posts}
use Rattle.messages.specs.Posts.{no_post, same_post}
use Rattle.messages.specs.Reading.{field_steps, lifted, new_checked, apart_checked, message_result}
use Rattle.messages.specs.Said.{post_in}
use Rattle.messages.specs.declared.fault.MessageFault.TheVariants.{Twice}
use Rattle.messages.specs.declared.post.Post.{Post}
use Rattle.messages.proofs.Accepted.{last_says, fields_few}
use Rattle.messages.proofs.WrittenBack.{filled_front}

-- a post is new where none of those before it is the same
pub new_post_is : (before : List Post) (post : Post) → new_post before post ≡ must (not (list_any (λ earlier. same_post earlier post) before)) (Twice (length before))
new_post_is before post =
    every_none (λ earlier. same_post earlier post) before no_post (Twice (length before)) (length before) (omega arith)
    ∙ ap (λ xs. must (not (list_any (λ earlier. same_post earlier post) xs)) (Twice (length before))) (take_all (length before) before (omega arith))

-- the post with a place is new where none of those before it is the same
pub looks_back : (posts : List Post) (n : ℕ) → n < length posts → new_at posts n ≡ must (not (list_any (λ earlier. same_post earlier (get_or posts n no_post)) (take n posts))) (Twice n)
looks_back posts n h =
    new_post_is (take n posts) (get_or posts n no_post)
    ∙ ap (λ k. must (not (list_any (λ earlier. same_post earlier (get_or posts n no_post)) (take n posts))) (Twice k)) (length-take-le n posts (omega arith))

-- posts that were read from bytes are looked at as the bytes are
pub apart_read : (b : List ℕ) (count : ℕ) → apart_posts (map (post_in b) (range_with_len 0 count)) ≡ apart_checked b count
apart_read b count =
    let posts = map (post_in b) (range_with_len 0 count) in
    let size = length-map-range_with_len (post_in b) 0 count in
    let at : (k : ℕ) → k < count → get_or posts k no_post ≡ post_in b k = λ k h. get_or-map-range_with_len (post_in b) 0 count k k no_post h (omega arith) in
    ap (λ n. every n (new_at posts)) size
    ∙ every_same (new_at posts) (new_checked b) count
    (λ k h.
    let before : length (take k posts) ≡ k = length-take-le k posts (omega arith) in
    ap (λ n. every n (differs (take k posts) (get_or posts k no_post))) before
    ∙ every_same (differs (take k posts) (get_or posts k no_post)) (λ j. must (not (same_post (post_in b j) (post_in b k))) (Twice k)) k
    (λ j l. λ i. must (not (same_post ((get_or-take k posts j no_post l ∙ at j (omega arith)) i) (at k h i))) (Twice (before i))))

-- where the fields have passed, the posts that were read decide
pub posts_decide : (b : List ℕ) (count : ℕ) → count ≡ byte_at b 5 → in_order (field_steps b (byte_at b 3) count) ≡ Ok tt → message_result b ≡ apart_posts (take count (filled 4 count no_post (post_in b)))
unfolding message_result
posts_decide b count is passed =
    let few = fields_few b (byte_at b 3) count passed in
    let steps = field_steps b (byte_at b 3) (byte_at b 5) in
    let fields : lifted (in_order steps) ≡ Ok tt = subst (λ n. lifted (in_order (field_steps b (byte_at b 3) n)) ≡ Ok tt) is (ap lifted {x = in_order (field_steps b (byte_at b 3) count)} passed) in
    last_says (lifted (in_order steps) ∷ []) (apart_checked b (byte_at b 5)) (fields, tt)
    ∙ ap (apart_checked b) (sym is)
    ∙ sym (ap apart_posts (filled_front 4 count no_post (post_in b) few.1) ∙ apart_read b count)
