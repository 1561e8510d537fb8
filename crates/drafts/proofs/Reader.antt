-- What the reader says of the message of a draft that was begun and added to.
use Rattle.std.proofs.Common.{◌≡◌, ℕ, ◌+◌, ◌-◌, ◌*◌, ◌<◌, ◌≤◌, Bool, true, cond, not, ◌&&◌, eqb, ltb, leb, List, [], ◌∷◌, length, get_or, take, Ok, Err, Result, sym, refl, ap, ◌∙◌, arith}
use Rattle.std.proofs.lemmas.List.FromFn.{get_or-map-range_with_len}
use Rattle.std.proofs.lemmas.List.{get_or-take, length-take-le}
use Rattle.std.proofs.lemmas.Bool.{and_from, eq-eqb, le-leb, le-ltb, leb-true, lt-ltb, ltb-true}
use Rattle.refusals.specs.Checks.{must, then, in_order, every, verdict}
use Rattle.refusals.proofs.Rows.{Passed, all_passed, passed_all, every_at, every_of, must_of, must_true}
use Rattle.fields.specs.Bytes.{byte_at, two_at}
use Rattle.fields.specs.Fields.{header_checked, field_checked, end_checked}
use Rattle.fields.specs.declared.fault.FieldFault.{FieldFault}
use Rattle.fields.specs.declared.fault.FieldFault.TheVariants.{Length, Value, Version}
use Rattle.messages.specs.Apart.{differs, new_at, apart_posts}
use Rattle.messages.specs.Arguments.{arguments_checked, arguments_width, call_at}
use Rattle.messages.specs.Calls.{number_of}
use Rattle.messages.specs.Numbers.{within, person_checked, role_checked, branch_checked}
use Rattle.messages.specs.Posts.{no_post, post_checked, same_post}
use Rattle.messages.specs.Reading.{field_steps, lifted, new_checked, apart_checked, message_steps, message_result}
use Rattle.messages.specs.Said.{Said, body_of, post_in, said, said_in, written}
use Rattle.messages.specs.Writing.{counted, write_result}
use Rattle.messages.specs.declared.call.Call.{Call}
use Rattle.messages.specs.declared.call.Call.TheVariants.{Decide, Grant, Take, Throughout, Enrol, Strike, Open, Close, Permit, Forbid, Sit}
use Rattle.messages.specs.declared.fault.MessageFault.{MessageFault}
use Rattle.messages.specs.declared.fault.MessageFault.TheVariants.{Field, Twice}
use Rattle.messages.specs.declared.post.Post.{Post}
use Rattle.messages.specs.declared.sitting.Sitting.{Sitting}
use Rattle.messages.proofs.Accepted.{last_says}
use Rattle.messages.proofs.ReadBack.{read_back}
use Rattle.messages.proofs.Written.{length_body, width_few}
use Rattle.drafts.specs.Begun.{Begun, added_at, arguments_result}
use Rattle.drafts.specs.Drafts.{said_with}
use Rattle.drafts.specs.Posts.{add_steps}
use Rattle.drafts.specs.Steps.{begin_result, seat_result, finish_result}
use Rattle.drafts.specs.declared.draft.Draft.{Draft}
use Rattle.drafts.proofs.Apart.{seated}
use Rattle.drafts.proofs.Arguments.{then_ok, field_rule, arguments_said}

-- ---- the bytes of what is said

said_length : (s : Said) → length (written s) ≡ 6 + 2 * length s.posts + arguments_width (number_of s.call)
unfolding written
said_length s = omega (arith, length_body s)

number_said : (s : Said) → byte_at (written s) 3 ≡ number_of s.call
unfolding body_of written
number_said s = refl

person_said : (s : Said) → byte_at (written s) 4 ≡ s.person
unfolding body_of written
person_said s = refl

count_said : (s : Said) → byte_at (written s) 5 ≡ length s.posts
unfolding body_of written
count_said s = refl

post_said : (s : Said) (k : ℕ) → k < length s.posts → post_in (written s) k ≡ get_or s.posts k no_post
unfolding body_of said_in written
post_said s k h =
    sym (get_or-map-range_with_len (post_in (written s)) 0 (length s.posts) k k no_post h (omega arith)) ∙ ap (λ t. get_or t.posts k no_post) (read_back s)

call_said : (s : Said) → call_at (written s) (number_of s.call) (6 + 2 * length s.posts) ≡ s.call
unfolding body_of said_in written
call_said s = ap (λ t. t.call) (read_back s)

-- ---- the fields pass

field_passes : (b : List ℕ) (at size : ℕ) (rule : Bool) → at + size ≤ length b → rule ≡ true → field_checked b at size rule ≡ Ok tt
field_passes b at size rule fits holds = field_rule b at size rule fits ∙ must_of rule (Value at) holds

abbrev header_tests : List ℕ → List (Result (Unit {0}) FieldFault)
header_tests b =
    must (leb 3 (length b)) (Length (length b))
    ∷ must (eqb (byte_at b 0) 1) Version
    ∷ must (leb (two_at b 1) 14 && eqb (length b) (3 + two_at b 1)) (Length (length b))
    ∷ []

header_passes : (s : Said) → length s.posts ≤ 4 → header_checked (written s) 14 ≡ Ok tt
unfolding written
header_passes s few =
    let b = written s in
    let size = length_body s in
    let w = width_few (number_of s.call) in
    let long : two_at b 1 ≡ length (body_of s) = omega arith in
    passed_all (header_tests b)
    (must_of _ _ (le-leb 3 (length b) (omega arith)), (refl, (must_of _ _ (and_from _ _ (le-leb (two_at b 1) 14 (omega arith)) (eq-eqb (length b) (3 + two_at b 1) (omega arith))), tt)))

number_within : (call : Call) → within 1 (number_of call) 11 ≡ true
number_within (Decide operation piece) = refl
number_within (Grant person role branch) = refl
number_within (Take person role branch) = refl
number_within (Throughout person role branch) = refl
number_within (Enrol person branch) = refl
number_within (Strike person branch) = refl
number_within (Open branch) = refl
number_within (Close branch) = refl
number_within (Permit operation kind role) = refl
number_within (Forbid operation kind role) = refl
number_within Sit = refl

-- what the checks of an added post say
added_steps : (posts : List Post) → every (length posts) (added_at posts) ≡ Ok tt → (k : ℕ) → k < length posts → Passed (add_steps (take k posts) (get_or posts k no_post))
added_steps posts added k h = all_passed (add_steps (take k posts) (get_or posts k no_post)) (every_at (added_at posts) (length posts) k h added)

role_below : (posts : List Post) → every (length posts) (added_at posts) ≡ Ok tt → (k : ℕ) → k < length posts → ltb (get_or posts k no_post).role 16 ≡ true
role_below posts added k h = must_true _ _ (added_steps posts added k h).1.0

branch_below : (posts : List Post) → every (length posts) (added_at posts) ≡ Ok tt → (k : ℕ) → k < length posts → ltb (get_or posts k no_post).branch 64 ≡ true
branch_below posts added k h = must_true _ _ (added_steps posts added k h).1.1.0

pub added_new : (posts : List Post) → every (length posts) (added_at posts) ≡ Ok tt → (k : ℕ) → k < length posts → new_at posts k ≡ Ok tt
added_new posts added k h = (added_steps posts added k h).1.1.1.0

-- at most four posts were added
added_few : (posts : List Post) → every (length posts) (added_at posts) ≡ Ok tt → 0 < length posts → length posts ≤ 4
added_few posts added some =
    let k = length posts - 1 in
    let room = ltb-true _ _ (must_true _ _ (added_steps posts added k (omega arith)).0) in
    omega (arith, room, length-take-le k posts (omega arith))

post_passes : (s : Said) → every (length s.posts) (added_at s.posts) ≡ Ok tt → (k : ℕ) → k < length s.posts → post_checked (written s) (6 + 2 * k) ≡ Ok tt
post_passes s added k h =
    let b = written s in
    let at = 6 + 2 * k in
    let size = said_length s in
    let post = post_said s k h in
    passed_all (role_checked b at ∷ branch_checked b (at + 1) ∷ []) (
      field_passes b at 1 _ (omega arith) (ap (λ p. ltb p.role 16) post ∙ role_below s.posts added k h),
      (field_passes b (at + 1) 1 _ (omega arith) (ap (λ p. ltb p.branch 64) post ∙ branch_below s.posts added k h), tt),
    )

-- ---- no post repeats another

differ_said : (s : Said) → every (length s.posts) (added_at s.posts) ≡ Ok tt → (k j : ℕ) → k < length s.posts → j < k → must (not (same_post (post_in (written s) j) (post_in (written s) k))) (Twice k) ≡ Ok tt
differ_said s added k j h l =
    let posts = s.posts in
    let size : length (take k posts) ≡ k = length-take-le k posts (omega arith) in
    let earlier = post_said s j (omega arith) ∙ sym (get_or-take k posts j no_post l) in
    let later = post_said s k h in
    let apart = must_true _ _ (every_at (differs (take k posts) (get_or posts k no_post)) (length (take k posts)) j (omega arith) (added_new posts added k h)) in
    must_of _ _ ((λ i. not (same_post (earlier i) (later i))) ∙ apart)

apart_said : (s : Said) → every (length s.posts) (added_at s.posts) ≡ Ok tt → apart_checked (written s) (length s.posts) ≡ Ok tt
apart_said s added = every_of (new_checked (written s)) (length s.posts) (λ k h. every_of _ k (λ j l. differ_said s added k j h l))

-- ---- all but the arguments passes

fields_say : (s : Said) → 0 < length s.posts → s.person < 64 → every (length s.posts) (added_at s.posts) ≡ Ok tt → in_order (field_steps (written s) (number_of s.call) (length s.posts)) ≡ arguments_checked (written s) (number_of s.call) (6 + 2 * length s.posts)
fields_say s some person added =
    let b = written s in
    let n = length s.posts in
    let number = number_of s.call in
    let size = said_length s in
    let few = added_few s.posts added some in
    let call = field_passes b 3 1 (within 1 number 11) (omega arith) (number_within s.call) in
    let from = field_passes b 4 1 (ltb (byte_at b 4) 64) (omega arith) (ap (λ p. ltb p 64) (person_said s) ∙ lt-ltb s.person 64 person) in
    let count = field_passes b 5 1 (within 1 n 4) (omega arith) (and_from _ _ (le-leb 1 n (omega arith)) (le-leb n 4 few)) in
    let posts = every_of (λ k. post_checked b (6 + 2 * k)) n (post_passes s added) in
    let end : end_checked b (6 + 2 * n + arguments_width number) ≡ Ok tt = must_of _ _ (le-leb (length b) (6 + 2 * n + arguments_width number) (omega arith)) in
    ap (λ last. in_order (header_checked b 14 ∷ field_checked b 3 1 (within 1 number 11) ∷ person_checked b 4 ∷ field_checked b 5 1 (within 1 n 4) ∷ every n (λ k. post_checked b (6 + 2 * k)) ∷ arguments_checked b number (6 + 2 * n) ∷ last ∷ [])) end
    ∙ last_says (header_checked b 14 ∷ field_checked b 3 1 (within 1 number 11) ∷ person_checked b 4 ∷ field_checked b 5 1 (within 1 n 4) ∷ every n (λ k. post_checked b (6 + 2 * k)) ∷ []) (arguments_checked b number (6 + 2 * n))
    (header_passes s few, (call, (from, (count, (posts, tt)))))

message_is : (s : Said) → message_result (written s) ≡ in_order (message_steps (written s) (number_of s.call) (length s.posts))
unfolding message_result
message_is s = λ i. in_order (message_steps (written s) (number_said s i) (count_said s i))

reader_says : (s : Said) → 0 < length s.posts → s.person < 64 → every (length s.posts) (added_at s.posts) ≡ Ok tt → message_result (written s) ≡ arguments_result s.call (6 + 2 * length s.posts)
reader_says s some person added =
    let fields = lifted (in_order (field_steps (written s) (number_of s.call) (length s.posts))) in
    message_is s
    ∙ ap (λ apart. then fields (then apart (Ok tt))) (apart_said s added)
    ∙ then_ok fields
    ∙ ap lifted (fields_say s some person added)
    ∙ arguments_said s.call (written s) (6 + 2 * length s.posts) (call_said s) (sym (said_length s))

-- ---- what `finish` says

counted_verdict : (r : Result (Unit {0}) MessageFault) (n : ℕ) → verdict (counted r n) ≡ r
counted_verdict (Ok tt) n = refl
counted_verdict (Err f) n = refl

finish_says : (size : ℕ) (s : Said) → begin_result size s.person ≡ Ok tt → 0 < length s.posts → every (length s.posts) (added_at s.posts) ≡ Ok tt → finish_result size (length s.posts) s ≡ arguments_result s.call (6 + 2 * length s.posts)
finish_says size s begun some added =
    let n = length s.posts in
    let begins = all_passed (must (leb 17 size) (Field (Length size)) ∷ must (ltb s.person 64) (Field (Value 4)) ∷ []) begun in
    let room = leb-true 17 size (must_true _ _ begins.0) in
    let person = ltb-true s.person 64 (must_true _ _ begins.1.0) in
    let few = added_few s.posts added some in
    let seat : seat_result n s.posts ≡ Ok tt =
    passed_all (must (within 1 n 4) (Field (Value 5)) ∷ apart_posts s.posts ∷ [])
    (must_of _ _ (and_from _ _ (le-leb 1 n (omega arith)) (le-leb n 4 few)), (every_of (new_at s.posts) n (added_new s.posts added), tt)) in
    ap (λ a. then a (verdict (write_result s size))) seat
    ∙ ap (λ small. verdict (cond small (Err (Field (Length size))) (counted (message_result (written s)) (length (written s))))) (le-ltb size 17 room)
    ∙ counted_verdict (message_result (written s)) (length (written s))
    ∙ reader_says s some person added

-- only an argument can be wrong with a draft that was begun and added to
pub begun_says : (draft : Draft (List Post)) (call : Call) → Begun draft → finish_result (length draft.memory.now) (length draft.state) (said_with draft call) ≡ arguments_result call (6 + 2 * length draft.state)
begun_says draft call b = finish_says (length draft.memory.now) (said_with draft call) b.grown.begun b.some b.grown.added

-- where the posts are seated, a finish says what the writer says of the message
pub finish_is : (draft : Draft (List Post)) (call : Call) (sitting : Sitting) → length sitting.posts ≡ 4 → sitting.person ≡ draft.person → take sitting.count sitting.posts ≡ draft.state → finish_result (length draft.memory.now) (length draft.state) (said_with draft call) ≡ verdict (write_result (said record { sitting = sitting; call = call }) (length draft.memory.now))
finish_is draft call sitting all person posts =
    let size = length draft.memory.now in
    let seat : seat_result (length draft.state) draft.state ≡ Ok tt = rw posts at (seated sitting.posts sitting.count sitting.some sitting.few (omega (arith, all, sitting.few)) sitting.apart) in
    ap (λ s. then s (verdict (write_result (said_with draft call) size))) seat
    ∙ (λ i. verdict (write_result record { person = sym person i; posts = sym posts i; call = call } size))
