-- The bytes of a message as the writer lays them, part by part.
use Rattle.std.proofs.Common.{◌≡◌, ℕ, ◌+◌, ◌*◌, ◌/◌, ◌%◌, ◌≤◌, List, [], ◌∷◌, ◌++◌, length, refl, ap, ◌∙◌, arith, length-append, rules}
use Rattle.std.specs.List.{flat_map}
use Rattle.messages.specs.Arguments.{arguments_of, arguments_width}
use Rattle.messages.specs.Calls.{number_of}
use Rattle.messages.specs.Posts.{post_bytes}
use Rattle.messages.specs.Said.{Said, body_of, written}
use Rattle.messages.specs.declared.call.Call.{Call}
use Rattle.messages.specs.declared.call.Call.TheVariants.{Decide, Grant, Take, Throughout, Enrol, Strike, Open, Close, Permit, Forbid, Sit}
use Rattle.messages.specs.declared.post.Post.{Post}

-- each post has two bytes
pub length_posts : (posts : List Post) → length (flat_map post_bytes posts) ≡ 2 * length posts
length_posts [] = refl
length_posts (post ∷ posts) = let e = length_posts posts in omega arith

-- the arguments of a call have the width that goes with its number
pub length_arguments : (call : Call) → length (arguments_of call) ≡ arguments_width (number_of call)
length_arguments (Decide operation piece) = refl
length_arguments (Grant person role branch) = refl
length_arguments (Take person role branch) = refl
length_arguments (Throughout person role branch) = refl
length_arguments (Enrol person branch) = refl
length_arguments (Strike person branch) = refl
length_arguments (Open branch) = refl
length_arguments (Close branch) = refl
length_arguments (Permit operation kind role) = refl
length_arguments (Forbid operation kind role) = refl
length_arguments Sit = refl

pub width_few : (number : ℕ) → arguments_width number ≤ 3
width_few number = search rules

pub length_body : (s : Said) → length (body_of s) ≡ 3 + 2 * length s.posts + arguments_width (number_of s.call)
unfolding body_of
length_body s = simp length-append (omega (arith, length_posts s.posts, length_arguments s.call))

-- with few posts the length of the body is one byte, behind a zero
pub written_parts : (s : Said) (count : ℕ) → length s.posts ≡ count → count ≤ 4 → written s ≡ ((1 ∷ 0 ∷ (3 + 2 * count + arguments_width (number_of s.call)) ∷ number_of s.call ∷ s.person ∷ count ∷ []) ++ flat_map post_bytes s.posts) ++ arguments_of s.call
unfolding body_of written
written_parts s count e few =
    let n = 3 + 2 * count + arguments_width (number_of s.call) in
    let w = width_few (number_of s.call) in
    let long : length (body_of s) ≡ n = length_body s ∙ ap (λ c. 3 + 2 * c + arguments_width (number_of s.call)) e in
    let high : n / 256 ≡ 0 = omega arith in
    let low : n % 256 ≡ n = omega arith in
    ap (λ l. 1 ∷ l / 256 ∷ l % 256 ∷ body_of s) long
    ∙ ap (λ h. 1 ∷ h ∷ n % 256 ∷ body_of s) high
    ∙ ap (λ l. 1 ∷ 0 ∷ l ∷ body_of s) low
    ∙ ap (λ c. 1 ∷ 0 ∷ n ∷ number_of s.call ∷ s.person ∷ c ∷ flat_map post_bytes s.posts ++ arguments_of s.call) e

-- a message with few posts has 17 bytes at most
pub written_few : (s : Said) → length s.posts ≤ 4 → length (written s) ≤ 17
unfolding written
written_few s few = omega (arith, length_body s, width_few (number_of s.call))
