-- What is known of bytes that the reader accepts.
use Rattle.std.proofs.Common.{◌≡◌, ℕ, ◌+◌, ◌-◌, ◌*◌, ◌<◌, ◌≤◌, Bool, true, not, ◌&&◌, leb, List, [], ◌∷◌, ◌++◌, length, Ok, Err, Result, refl, arith}
use Rattle.std.proofs.lemmas.Bool.{and_parts, leb-true, ltb-true, not-true}
use Rattle.refusals.specs.Checks.{must, in_order}
use Rattle.refusals.proofs.Rows.{Passed, all_passed, every_at, must_true}
use Rattle.fields.specs.Bytes.{byte_at}
use Rattle.fields.specs.Fields.{field_checked}
use Rattle.fields.specs.Records.{filled}
use Rattle.fields.proofs.Filled.{filled_at}
use Rattle.fields.specs.declared.fault.FieldFault.{FieldFault}
use Rattle.fields.specs.declared.fault.FieldFault.TheVariants.{Misfit, Value}
use Rattle.messages.specs.Numbers.{within, role_checked, branch_checked}
use Rattle.messages.specs.Posts.{no_post, post_checked, same_post, Apart}
use Rattle.messages.specs.Said.{post_in}
use Rattle.messages.specs.Reading.{field_steps, lifted, new_checked, apart_checked, message_steps, message_result}
use Rattle.messages.specs.declared.fault.MessageFault.TheVariants.{Twice}

-- where all checks before the last have passed, a row says what the last says
pub last_says : {F : Type 0} (checks : List (Result (Unit {0}) F)) (last : Result (Unit {0}) F) → Passed checks → in_order (checks ++ last ∷ []) ≡ last
last_says [] (Ok tt) p = refl
last_says [] (Err f) p = refl
last_says (check ∷ checks) last p = rw p.0 (last_says checks last p.1)

lifted_passed : (r : Result (Unit {0}) FieldFault) → lifted r ≡ Ok tt → r ≡ Ok tt
lifted_passed (Ok tt) e = refl
lifted_passed (Err f) e = cc

-- each field has passed
pub fields_passed : (b : List ℕ) → message_result b ≡ Ok tt → Passed (field_steps b (byte_at b 3) (byte_at b 5))
unfolding message_result
fields_passed b e =
    all_passed (field_steps b (byte_at b 3) (byte_at b 5)) (lifted_passed _ (all_passed (message_steps b (byte_at b 3) (byte_at b 5)) e).0)

apart_passed : (b : List ℕ) → message_result b ≡ Ok tt → apart_checked b (byte_at b 5) ≡ Ok tt
unfolding message_result
apart_passed b e = (all_passed (message_steps b (byte_at b 3) (byte_at b 5)) e).1.0

abbrev tests : List ℕ → ℕ → ℕ → Bool → List (Result (Unit {0}) FieldFault)
tests b at size rule = must (leb at (length b) && leb size (length b - at)) (Misfit at) ∷ must rule (Value at) ∷ []

-- a field that has passed fits, and its rule holds
pub field_fits : (b : List ℕ) (at size : ℕ) (rule : Bool) → field_checked b at size rule ≡ Ok tt → at + size ≤ length b
field_fits b at size rule e =
    let p = and_parts (leb at (length b)) (leb size (length b - at)) (must_true _ _ (all_passed (tests b at size rule) e).0) in
    omega (arith, leb-true at (length b) p.0, leb-true size (length b - at) p.1)

pub field_holds : (b : List ℕ) (at size : ℕ) (rule : Bool) → field_checked b at size rule ≡ Ok tt → rule ≡ true
field_holds b at size rule e = must_true _ _ (all_passed (tests b at size rule) e).1.0

pub within_bounds : (lower n upper : ℕ) → within lower n upper ≡ true → (lower ≤ n) × (n ≤ upper)
within_bounds lower n upper e =
    let p = and_parts (leb lower n) (leb n upper) e in
    (leb-true lower n p.0, leb-true n upper p.1)

-- one to four posts
pub fields_few : (b : List ℕ) (number count : ℕ) → in_order (field_steps b number count) ≡ Ok tt → (1 ≤ count) × (count ≤ 4)
fields_few b number count e = within_bounds 1 count 4 (field_holds b 5 1 _ (all_passed (field_steps b number count) e).1.1.1.0)

pub count_bounds : (b : List ℕ) → message_result b ≡ Ok tt → (1 ≤ byte_at b 5) × (byte_at b 5 ≤ 4)
count_bounds b e = within_bounds 1 (byte_at b 5) 4 (field_holds b 5 1 _ (fields_passed b e).1.1.1.0)

-- the person is below the limit, and so are the role and the branch of each post
pub person_below : (b : List ℕ) → message_result b ≡ Ok tt → byte_at b 4 < 64
person_below b e = ltb-true (byte_at b 4) 64 (field_holds b 4 1 _ (fields_passed b e).1.1.0)

pub post_below : (b : List ℕ) (k : ℕ) → message_result b ≡ Ok tt → k < byte_at b 5 → ((post_in b k).role < 16) × ((post_in b k).branch < 64)
post_below b k e h =
    let at = 6 + 2 * k in
    let passed = every_at (λ k. post_checked b (6 + 2 * k)) (byte_at b 5) k h (fields_passed b e).1.1.1.1.0 in
    let both = all_passed (role_checked b at ∷ branch_checked b (at + 1) ∷ []) passed in
    (ltb-true (byte_at b at) 16 (field_holds b at 1 _ both.0), ltb-true (byte_at b (at + 1)) 64 (field_holds b (at + 1) 1 _ both.1.0))

-- no two of the posts that are read are the same
pub posts_apart : (b : List ℕ) (count : ℕ) → message_result b ≡ Ok tt → count ≡ byte_at b 5 → Apart (filled 4 count no_post (post_in b)) count
posts_apart b count e is i j h =
    let few : count ≤ 4 = omega (arith, (count_bounds b e).1) in
    let new = every_at (new_checked b) count j h.1 (rw is (apart_passed b e)) in
    let differ = every_at (λ i. must (not (same_post (post_in b i) (post_in b j))) (Twice j)) j i h.0 new in
    rw (filled_at 4 count no_post (post_in b) i no_post (omega arith) few, filled_at 4 count no_post (post_in b) j no_post h.1 few)
    (not-true _ (must_true _ _ differ))
