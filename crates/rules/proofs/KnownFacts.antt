-- A call's numbers pass exactly when all that it names exists.
use Rattle.std.proofs.Common.{◌≡◌, ℕ, zero, suc, ◌+◌, ◌*◌, ◌<◌, true, List, [], ◌∷◌, length, is_ok, Ok, Decides, refl, arith}
use Rattle.std.proofs.lemmas.Bool.Decides.{Decides-like}
use Rattle.refusals.specs.Checks.{in_order}
use Rattle.messages.specs.Said.{Said}
use Rattle.messages.specs.declared.call.Call.{Call}
use Rattle.messages.specs.declared.call.Call.TheVariants.{Decide, Grant, Take, Throughout, Enrol, Strike, Open, Close, Permit, Forbid, Sit}
use Rattle.messages.specs.declared.post.Post.{Post}
use Rattle.rules.specs.Conditions.{Known, KnownArguments}
use Rattle.rules.specs.Numbers.{argument_numbers, numbers_checked, post_numbers}
use Rattle.rules.specs.Setup.{Setup, is_branch, is_kind, is_operation, is_person, is_piece, is_role}
use Rattle.rules.specs.Words.{post_at}
use Rattle.rules.proofs.RowFacts.{decides_none, decides_then, one_test, test_first, three_tests, two_tests}

-- each post of a sitting exists
abbrev pub KnownPosts : Setup → List Post → Type 0
KnownPosts w posts =
    (place : ℕ) → place < length posts → (is_role w (post_at posts place).role ≡ true) × (is_branch w (post_at posts place).branch ≡ true)

more_posts :
    (w : Setup) (post : Post) (posts : List Post)
    → (is_role w post.role ≡ true) × ((is_branch w post.branch ≡ true) × KnownPosts w posts) → KnownPosts w (post ∷ posts)
more_posts w post posts x zero h = (x.0, x.1.0)
more_posts w post posts x (suc place) h = x.1.1 place (omega arith)

posts_known : (w : Setup) (at : ℕ) (posts : List Post) → Decides (is_ok (in_order (post_numbers w at posts))) (KnownPosts w posts)
posts_known w at [] = (λ e place h. absurd (omega arith), λ f. refl)
posts_known w at (post ∷ posts) =
    Decides-like (is_ok (in_order (post_numbers w at (post ∷ posts)))) (more_posts w post posts)
    (λ f. let h : 0 < length (post ∷ posts) = omega arith in ((f 0 h).0, ((f 0 h).1, λ place i. f (suc place) (omega arith))))
    (test_first (is_role w post.role) _ _ (test_first (is_branch w post.branch) _ _ (posts_known w (at + 2) posts)))

arguments_known : (w : Setup) (at : ℕ) (call : Call) → Decides (is_ok (in_order (argument_numbers w at call))) (KnownArguments w call)
arguments_known w at (Decide operation piece) = two_tests (is_operation operation) (is_piece w piece) _ _
arguments_known w at (Grant person role branch) = three_tests (is_person person) (is_role w role) (is_branch w branch) _ _ _
arguments_known w at (Take person role branch) = three_tests (is_person person) (is_role w role) (is_branch w branch) _ _ _
arguments_known w at (Throughout person role branch) = three_tests (is_person person) (is_role w role) (is_branch w branch) _ _ _
arguments_known w at (Enrol person branch) = two_tests (is_person person) (is_branch w branch) _ _
arguments_known w at (Strike person branch) = two_tests (is_person person) (is_branch w branch) _ _
arguments_known w at (Open branch) = one_test (is_branch w branch) _
arguments_known w at (Close branch) = one_test (is_branch w branch) _
arguments_known w at (Permit operation kind role) = three_tests (is_operation operation) (is_kind kind) (is_role w role) _ _ _
arguments_known w at (Forbid operation kind role) = three_tests (is_operation operation) (is_kind kind) (is_role w role) _ _ _
arguments_known w at Sit = decides_none

pub numbers_known : (w : Setup) (c : Said) → Decides (is_ok (numbers_checked w c)) (Known w c)
unfolding numbers_checked
numbers_known w c =
    let posts = in_order (post_numbers w 6 c.posts) in
    let arguments = in_order (argument_numbers w (6 + 2 * length c.posts) c.call) in
    Decides-like (is_ok (numbers_checked w c))
    (λ x. record { person = x.0; posts = x.1.0; arguments = x.1.1.0 })
    (λ k. (k.person, (k.posts, (k.arguments, tt))))
    (test_first (is_person c.person) _ _
    (decides_then posts _ (posts_known w 6 c.posts)
    (decides_then arguments (Ok tt) (arguments_known w (6 + 2 * length c.posts) c.call) decides_none)))
