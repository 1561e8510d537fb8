-- What is written is read back: the bytes of a message say what the message says.
use Rattle.std.proofs.Common.{◌≡◌, ℕ, zero, suc, ◌+◌, ◌*◌, ◌/◌, ◌%◌, ◌<◌, List, [], ◌∷◌, ◌++◌, map, length, get_or, sym, refl, ap, ◌∙◌, arith}
use Rattle.std.specs.List.{range_with_len, flat_map}
use Rattle.std.proofs.lemmas.List.FromFn.{fill_by_all}
use Rattle.std.proofs.lemmas.List.{get_or_at, get_or-append-add}
use Rattle.fields.specs.Bytes.{byte_at}
use Rattle.messages.specs.Arguments.{arguments_of, call_at}
use Rattle.messages.specs.Calls.{number_of}
use Rattle.messages.specs.Posts.{no_post, post_at, post_bytes}
use Rattle.messages.specs.Said.{Said, body_of, post_in, said_in, written}
use Rattle.messages.specs.declared.call.Call.{Call}
use Rattle.messages.specs.declared.call.Call.TheVariants.{Decide, Grant, Take, Throughout, Enrol, Strike, Open, Close, Permit, Forbid, Sit}
use Rattle.messages.specs.declared.post.Post.{Post}
use Rattle.messages.proofs.Written.{length_posts}

-- a post behind a front stands where it stands in the rest
behind : (front rest : List ℕ) (at : ℕ) → post_at (front ++ rest) (length front + at) ≡ post_at rest at
behind front rest at =
    let further : length front + at + 1 ≡ length front + (at + 1) = omega arith in
    let branch : byte_at (front ++ rest) (length front + at + 1) ≡ byte_at rest (at + 1) = ap (byte_at (front ++ rest)) further ∙ get_or-append-add front rest (at + 1) 0 in
    λ i. record { role = get_or-append-add front rest at 0 i; branch = branch i }

-- each post stands at its place among the posts' bytes
post_back : (posts : List Post) (rest : List ℕ) (k : ℕ) → k < length posts → get_or posts k no_post ≡ post_at (flat_map post_bytes posts ++ rest) (2 * k)
post_back [] rest k h = absurd (omega arith)
post_back (post ∷ posts) rest zero h = refl
post_back (post ∷ posts) rest (suc k) h =
    let next : 2 + 2 * k ≡ 2 * suc k = omega arith in
    post_back posts rest k (omega arith) ∙ sym (behind (post_bytes post) (flat_map post_bytes posts ++ rest) (2 * k)) ∙ ap (post_at (flat_map post_bytes (post ∷ posts) ++ rest)) next

-- one, two or three arguments behind a front
one_back : (make : ℕ → Call) (front : List ℕ) (x : ℕ) (xs : List ℕ) → make (byte_at (front ++ x ∷ xs) (length front)) ≡ make x
one_back make front x xs = ap make (get_or_at front x xs 0 (length front) refl)

two_back : (make : ℕ → ℕ → Call) (front : List ℕ) (x y : ℕ) (xs : List ℕ) → make (byte_at (front ++ x ∷ y ∷ xs) (length front)) (byte_at (front ++ x ∷ y ∷ xs) (length front + 1)) ≡ make x y
two_back make front x y xs =
    one_back (λ first. make first (byte_at (front ++ x ∷ y ∷ xs) (length front + 1))) front x (y ∷ xs) ∙ ap (make x) (get_or-append-add front (x ∷ y ∷ xs) 1 0)

three_back : (make : ℕ → ℕ → ℕ → Call) (front : List ℕ) (x y z : ℕ) → make (byte_at (front ++ x ∷ y ∷ z ∷ []) (length front)) (byte_at (front ++ x ∷ y ∷ z ∷ []) (length front + 1)) (byte_at (front ++ x ∷ y ∷ z ∷ []) (length front + 2)) ≡ make x y z
three_back make front x y z =
    two_back (λ first second. make first second (byte_at (front ++ x ∷ y ∷ z ∷ []) (length front + 2))) front x y (z ∷ []) ∙ ap (make x y) (get_or-append-add front (x ∷ y ∷ z ∷ []) 2 0)

decide_back : (front : List ℕ) (operation piece : ℕ) → call_at (front ++ arguments_of (Decide operation piece)) 1 (length front) ≡ Decide operation piece
decide_back front operation piece =
    let b = front ++ arguments_of (Decide operation piece) in
    let next : length front + 1 + 1 ≡ length front + 2 = omega arith in
    let halves : 256 * (piece / 256) + piece % 256 ≡ piece = omega arith in
    ap (λ at. Decide (byte_at b (length front)) (256 * byte_at b (length front + 1) + byte_at b at)) next
    ∙ three_back (λ x y z. Decide x (256 * y + z)) front operation (piece / 256) (piece % 256)
    ∙ ap (Decide operation) halves

-- a call's number and the bytes of its arguments say the call
call_back : (front : List ℕ) (call : Call) → call_at (front ++ arguments_of call) (number_of call) (length front) ≡ call
call_back front (Decide operation piece) = decide_back front operation piece
call_back front (Grant person role branch) = three_back Grant front person role branch
call_back front (Take person role branch) = three_back Take front person role branch
call_back front (Throughout person role branch) = three_back Throughout front person role branch
call_back front (Enrol person branch) = two_back Enrol front person branch []
call_back front (Strike person branch) = two_back Strike front person branch []
call_back front (Open branch) = one_back Open front branch []
call_back front (Close branch) = one_back Close front branch []
call_back front (Permit operation kind role) = three_back Permit front operation kind role
call_back front (Forbid operation kind role) = three_back Forbid front operation kind role
call_back front Sit = refl

-- everything that can be said is read back from its bytes
pub read_back : (s : Said) → said_in (written s) ≡ s
unfolding body_of said_in written
read_back s =
    let head : List ℕ = 1 ∷ length (body_of s) / 256 ∷ length (body_of s) % 256 ∷ number_of s.call ∷ s.person ∷ length s.posts ∷ [] in
    let rest = flat_map post_bytes s.posts ++ arguments_of s.call in
    let posts : map (post_in (written s)) (range_with_len 0 (length s.posts)) ≡ s.posts =
    sym (fill_by_all (post_in (written s)) s.posts (length s.posts) no_post refl (λ k h. post_back s.posts (arguments_of s.call) k h ∙ sym (behind head rest (2 * k)))) in
    let before = head ++ flat_map post_bytes s.posts in
    let long : 6 + 2 * length s.posts ≡ length before = omega (arith, length_posts s.posts) in
    let call : call_at (written s) (number_of s.call) (6 + 2 * length s.posts) ≡ s.call = ap (call_at (written s) (number_of s.call)) long ∙ call_back before s.call in
    λ i. record { person = s.person; posts = posts i; call = call i }
