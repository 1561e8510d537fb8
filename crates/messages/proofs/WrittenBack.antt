-- What is read is written back: the bytes that the reader accepts are the bytes of what they say.
use Rattle.std.proofs.Common.{◌≡◌, ℕ, zero, suc, ◌+◌, ◌-◌, ◌*◌, ◌/◌, ◌%◌, ◌<◌, ◌≤◌, Bool, cond, ◌&&◌, eqb, ltb, leb, List, [], ◌∷◌, ◌++◌, map, length, take, drop, Ok, Result, sym, refl, ap, ◌∙◌, append_assoc, add-one, arith, length-drop}
use Rattle.std.specs.List.{range_with_len, flat_map}
use Rattle.std.proofs.lemmas.List.FromFn.{map-range_with_len_more, length-map-range_with_len, fill_by_all}
use Rattle.std.proofs.lemmas.List.{drop_more, drop_all, flat_map_more, length-take-le, get_or-take}
use Rattle.std.proofs.lemmas.Bool.{and_parts, leb-true, eqb-true}
use Rattle.refusals.specs.Checks.{must, in_order}
use Rattle.refusals.proofs.Rows.{all_passed, every_at, must_true}
use Rattle.fields.specs.Bytes.{byte_at, two_at}
use Rattle.fields.specs.Fields.{header_checked, field_checked}
use Rattle.fields.specs.Records.{filled}
use Rattle.fields.proofs.Filled.{filled_at}
use Rattle.fields.specs.declared.fault.FieldFault.{FieldFault}
use Rattle.fields.specs.declared.fault.FieldFault.TheVariants.{Version, Length}
use Rattle.messages.specs.Arguments.{arguments_checked, arguments_of, arguments_width, call_at}
use Rattle.messages.specs.Calls.{number_of}
use Rattle.messages.specs.Numbers.{person_checked, role_checked, branch_checked, operation_checked, kind_checked, piece_checked}
use Rattle.messages.specs.Posts.{no_post, post_bytes, post_checked}
use Rattle.messages.specs.Said.{Said, body_of, post_in, said, said_in, written}
use Rattle.messages.specs.Reading.{message_result, Reads}
use Rattle.messages.specs.declared.call.Call.{Call}
use Rattle.messages.specs.declared.message.Message.{Message}
use Rattle.messages.specs.declared.post.Post.{Post}
use Rattle.messages.proofs.Accepted.{fields_passed, field_fits, field_holds, within_bounds, count_bounds}

-- what holds of each call's number holds of every number of a call
by_call : (P : ℕ → Type 0) → P 1 → P 2 → P 3 → P 4 → P 5 → P 6 → P 7 → P 8 → P 9 → P 10 → P 11 → (n : ℕ) → 1 ≤ n → n ≤ 11 → P n
by_call P a b c d e f g h i j k zero low high = absurd (omega arith)
by_call P a b c d e f g h i j k (suc zero) low high = a
by_call P a b c d e f g h i j k (suc (suc zero)) low high = b
by_call P a b c d e f g h i j k (suc (suc (suc zero))) low high = c
by_call P a b c d e f g h i j k (suc (suc (suc (suc zero)))) low high = d
by_call P a b c d e f g h i j k (suc (suc (suc (suc (suc zero))))) low high = e
by_call P a b c d e f g h i j k (suc (suc (suc (suc (suc (suc zero)))))) low high = f
by_call P a b c d e f g h i j k (suc (suc (suc (suc (suc (suc (suc zero))))))) low high = g
by_call P a b c d e f g h i j k (suc (suc (suc (suc (suc (suc (suc (suc zero)))))))) low high = h
by_call P a b c d e f g h i j k (suc (suc (suc (suc (suc (suc (suc (suc (suc zero))))))))) low high = i
by_call P a b c d e f g h i j k (suc (suc (suc (suc (suc (suc (suc (suc (suc (suc zero)))))))))) low high = j
by_call P a b c d e f g h i j k (suc (suc (suc (suc (suc (suc (suc (suc (suc (suc (suc zero))))))))))) low high = k
by_call P a b c d e f g h i j k (suc (suc (suc (suc (suc (suc (suc (suc (suc (suc (suc (suc n)))))))))))) low high = absurd (omega arith)

-- the call that was read has the number that was read
number_back : (b : List ℕ) (at n : ℕ) → 1 ≤ n → n ≤ 11 → number_of (call_at b n at) ≡ n
number_back b at n low high = by_call (λ n. number_of (call_at b n at) ≡ n) refl refl refl refl refl refl refl refl refl refl refl n low high

module _ (b : List ℕ) (at : ℕ) where
  -- no, one, two or three bytes are left
  none_left : length b ≤ at → drop at b ≡ []
  none_left all = drop_all at b all

  one_left : at + 1 ≤ length b → length b ≤ at + 1 → drop at b ≡ byte_at b at ∷ []
  one_left fits all = drop_more b at 0 (omega arith) ∙ ap (λ xs. byte_at b at ∷ xs) (drop_all (at + 1) b all)

  two_left : at + 1 + 1 ≤ length b → length b ≤ at + 2 → drop at b ≡ byte_at b at ∷ byte_at b (at + 1) ∷ []
  two_left fits all =
      drop_more b at 0 (omega arith) ∙ ap (λ xs. byte_at b at ∷ xs) (drop_more b (at + 1) 0 (omega arith) ∙ ap (λ xs. byte_at b (at + 1) ∷ xs) (drop_all (at + 1 + 1) b (omega arith)))

  three_left : at + 2 + 1 ≤ length b → length b ≤ at + 3 → drop at b ≡ byte_at b at ∷ byte_at b (at + 1) ∷ byte_at b (at + 2) ∷ []
  three_left fits all =
      let next : at + 1 + 1 ≡ at + 2 = omega arith in
      drop_more b at 0 (omega arith)
      ∙ ap (λ xs. byte_at b at ∷ xs)
      (drop_more b (at + 1) 0 (omega arith)
      ∙ ap (λ xs. byte_at b (at + 1) ∷ xs)
      (ap (λ n. drop n b) next ∙ drop_more b (at + 2) 0 (omega arith) ∙ ap (λ xs. byte_at b (at + 2) ∷ xs) (drop_all (at + 2 + 1) b (omega arith))))

  -- the arguments of a call of each shape, where they fit and nothing is left behind them
  abbrev ArgumentsBack : ℕ → Type 0
  ArgumentsBack n = arguments_checked b n at ≡ Ok tt → length b ≤ at + arguments_width n → drop at b ≡ arguments_of (call_at b n at)

  decide_left : ((k : ℕ) → byte_at b k < 256) → ArgumentsBack 1
  decide_left bytes e all =
      let p = all_passed (operation_checked b at ∷ piece_checked b (at + 1) ∷ []) e in
      let fits = field_fits b (at + 1) 2 _ p.1.0 in
      let high = byte_at b (at + 1) in
      let low = byte_at b (at + 1 + 1) in
      let small : low < 256 = bytes (at + 1 + 1) in
      let next : at + 2 ≡ at + 1 + 1 = omega arith in
      let first : high ≡ (256 * high + low) / 256 = omega arith in
      let second : low ≡ (256 * high + low) % 256 = omega arith in
      three_left (omega arith) all
      ∙ ap (λ n. byte_at b at ∷ high ∷ byte_at b n ∷ []) next
      ∙ ap (λ h. byte_at b at ∷ h ∷ low ∷ []) first
      ∙ ap (λ l. byte_at b at ∷ (256 * high + low) / 256 ∷ l ∷ []) second

  three_checked : (x y : Result (Unit {0}) FieldFault) (rule : Bool) → in_order (x ∷ y ∷ field_checked b (at + 2) 1 rule ∷ []) ≡ Ok tt → length b ≤ at + 3 → drop at b ≡ byte_at b at ∷ byte_at b (at + 1) ∷ byte_at b (at + 2) ∷ []
  three_checked x y rule e all = three_left (field_fits b (at + 2) 1 rule (all_passed (x ∷ y ∷ field_checked b (at + 2) 1 rule ∷ []) e).1.1.0) all

  two_checked : (x : Result (Unit {0}) FieldFault) (rule : Bool) → in_order (x ∷ field_checked b (at + 1) 1 rule ∷ []) ≡ Ok tt → length b ≤ at + 2 → drop at b ≡ byte_at b at ∷ byte_at b (at + 1) ∷ []
  two_checked x rule e all = two_left (field_fits b (at + 1) 1 rule (all_passed (x ∷ field_checked b (at + 1) 1 rule ∷ []) e).1.0) all

  one_checked : (rule : Bool) → field_checked b at 1 rule ≡ Ok tt → length b ≤ at + 1 → drop at b ≡ byte_at b at ∷ []
  one_checked rule e all = one_left (field_fits b at 1 rule e) all

  -- what is left behind the posts is the arguments of the call that was read
  arguments_back : ((k : ℕ) → byte_at b k < 256) → (n : ℕ) → 1 ≤ n → n ≤ 11 → ArgumentsBack n
  arguments_back bytes =
      let posting = three_checked (person_checked b at) (role_checked b (at + 1)) (ltb (byte_at b (at + 2)) 64) in
      let member = two_checked (person_checked b at) (ltb (byte_at b (at + 1)) 64) in
      let branch = one_checked (ltb (byte_at b at) 64) in
      let permission = three_checked (operation_checked b at) (kind_checked b (at + 1)) (ltb (byte_at b (at + 2)) 16) in
      by_call ArgumentsBack (decide_left bytes) posting posting posting member member branch branch permission permission (λ e all. none_left (omega arith))

-- the posts that were read, behind the first six bytes
posts_back : (b : List ℕ) (n : ℕ) → 6 + 2 * n ≤ length b → drop 6 b ≡ flat_map post_bytes (map (post_in b) (range_with_len 0 n)) ++ drop (6 + 2 * n) b
posts_back b zero fits = refl
posts_back b (suc n) fits =
    let at = 6 + 2 * n in
    let next : at + 1 + 1 ≡ 6 + 2 * suc n = omega arith in
    let before = map (post_in b) (range_with_len 0 n) in
    let post = post_in b n in
    let more : before ++ post ∷ [] ≡ map (post_in b) (range_with_len 0 (suc n)) = sym (map-range_with_len_more (post_in b) 0 n n (omega arith)) ∙ ap (λ k. map (post_in b) (range_with_len 0 k)) (add-one n) in
    let here : drop at b ≡ post_bytes post ++ drop (6 + 2 * suc n) b =
    drop_more b at 0 (omega arith) ∙ ap (λ xs. byte_at b at ∷ xs) (drop_more b (at + 1) 0 (omega arith) ∙ ap (λ k. byte_at b (at + 1) ∷ drop k b) next) in
    posts_back b n (omega arith)
    ∙ ap (λ xs. flat_map post_bytes before ++ xs) here
    ∙ sym (append_assoc (flat_map post_bytes before) (post_bytes post) (drop (6 + 2 * suc n) b))
    ∙ ap (λ xs. xs ++ drop (6 + 2 * suc n) b) (flat_map_more post_bytes [] before post ∙ ap (flat_map post_bytes) more)

-- what the header says of accepted bytes
header_says : (b : List ℕ) → header_checked b 14 ≡ Ok tt → (byte_at b 0 ≡ 1) × (two_at b 1 ≤ 14) × (length b ≡ 3 + two_at b 1)
header_says b e =
    let p = all_passed (must (leb 3 (length b)) (Length (length b)) ∷ must (eqb (byte_at b 0) 1) Version ∷ must (leb (two_at b 1) 14 && eqb (length b) (3 + two_at b 1)) (Length (length b)) ∷ []) e in
    let q = and_parts (leb (two_at b 1) 14) (eqb (length b) (3 + two_at b 1)) (must_true _ _ p.1.1.0) in
    (eqb-true (byte_at b 0) 1 (must_true _ _ p.1.0), leb-true (two_at b 1) 14 q.0, eqb-true (length b) (3 + two_at b 1) q.1)

-- the posts of accepted bytes fit
posts_fit : (b : List ℕ) → message_result b ≡ Ok tt → 6 + 2 * byte_at b 5 ≤ length b
posts_fit b e =
    let count = byte_at b 5 in
    let some = (count_bounds b e).0 in
    let at = 6 + 2 * (count - 1) in
    let final = every_at (λ k. post_checked b (6 + 2 * k)) count (count - 1) (omega arith) (fields_passed b e).1.1.1.1.0 in
    let fits = field_fits b (at + 1) 1 (ltb (byte_at b (at + 1)) 64) (all_passed (role_checked b at ∷ branch_checked b (at + 1) ∷ []) final).1.0 in
    omega arith

-- the body of what was read is what stands behind the header
body_back : (b : List ℕ) → ((k : ℕ) → byte_at b k < 256) → message_result b ≡ Ok tt → body_of (said_in b) ≡ drop 3 b
unfolding body_of said_in
body_back b bytes e =
    let number = byte_at b 3 in
    let count = byte_at b 5 in
    let at = 6 + 2 * count in
    let passed = fields_passed b e in
    let known = within_bounds 1 number 11 (field_holds b 3 1 _ passed.1.0) in
    let fits = posts_fit b e in
    let call = call_at b number at in
    let read = flat_map post_bytes (map (post_in b) (range_with_len 0 count)) in
    let end : length b ≤ at + arguments_width number = leb-true (length b) (at + arguments_width number) (must_true _ _ passed.1.1.1.1.1.1.0) in
    let rest : read ++ arguments_of call ≡ drop 6 b =
    ap (λ xs. read ++ xs) (sym (arguments_back b at bytes number known.0 known.1 passed.1.1.1.1.1.0 end)) ∙ sym (posts_back b count fits) in
    ap (λ n. n ∷ byte_at b 4 ∷ length (map (post_in b) (range_with_len 0 count)) ∷ read ++ arguments_of call) (number_back b at number known.0 known.1)
    ∙ ap (λ n. number ∷ byte_at b 4 ∷ n ∷ read ++ arguments_of call) (length-map-range_with_len (post_in b) 0 count)
    ∙ ap (λ xs. number ∷ byte_at b 4 ∷ count ∷ xs) rest
    ∙ sym (drop_more b 3 0 (omega arith) ∙ ap (λ xs. number ∷ xs) (drop_more b 4 0 (omega arith) ∙ ap (λ xs. byte_at b 4 ∷ xs) (drop_more b 5 0 (omega arith))))

-- the records of an array are those that it was filled with
pub filled_front : {T : Type 0} (size count : ℕ) (empty : T) (f : ℕ → T) → count ≤ size → take count (filled size count empty f) ≡ map f (range_with_len 0 count)
unfolding filled
filled_front size count empty f few =
    let all = filled size count empty f in
    let long : length all ≡ size = length-map-range_with_len (λ k. cond (ltb k count) (f k) empty) 0 size in
    fill_by_all f (take count all) count empty (length-take-le count all (omega arith)) (λ k h. get_or-take count all k empty h ∙ filled_at size count empty f k empty h few)

-- what is read from bytes, part by part, is what they say
pub parts_read : (b : List ℕ) {person count : ℕ} {posts : List Post} {call : Call} → person ≡ byte_at b 4 → count ≡ byte_at b 5 → posts ≡ filled 4 (byte_at b 5) no_post (post_in b) → call ≡ call_at b (byte_at b 3) (6 + 2 * byte_at b 5) → byte_at b 5 ≤ 4 → ◌≡◌ {A = Said} record { person = person; posts = take count posts; call = call } (said_in b)
unfolding said_in
parts_read b person count posts call few =
    let taken = (λ i. take (count i) (posts i)) ∙ filled_front 4 (byte_at b 5) no_post (post_in b) few in
    λ i. record { person = person i; posts = taken i; call = call i }

-- a message that holds what bytes say says it
pub said_read : (b : List ℕ) (message : Message) → Reads b message → byte_at b 5 ≤ 4 → said message ≡ said_in b
said_read b message reads few = parts_read b reads.person reads.count reads.posts reads.call few

-- accepted bytes are the bytes of what they say
pub written_back : (b : List ℕ) → ((k : ℕ) → byte_at b k < 256) → message_result b ≡ Ok tt → written (said_in b) ≡ b
unfolding written
written_back b bytes e =
    let h = header_says b (fields_passed b e).0 in
    let long : length (drop 3 b) ≡ two_at b 1 = simp length-drop (omega (arith, h.2)) in
    let high : two_at b 1 / 256 ≡ byte_at b 1 = omega (arith, h.1) in
    let low : two_at b 1 % 256 ≡ byte_at b 2 = omega (arith, h.1) in
    ap (λ xs. 1 ∷ length xs / 256 ∷ length xs % 256 ∷ xs) (body_back b bytes e)
    ∙ ap (λ n. 1 ∷ n / 256 ∷ n % 256 ∷ drop 3 b) long
    ∙ ap (λ n. 1 ∷ n ∷ two_at b 1 % 256 ∷ drop 3 b) high
    ∙ ap (λ n. 1 ∷ byte_at b 1 ∷ n ∷ drop 3 b) low
    ∙ ap (λ n. n ∷ byte_at b 1 ∷ byte_at b 2 ∷ drop 3 b) (sym h.0)
    ∙ sym (drop_more b 0 0 (omega (arith, h.2)) ∙ ap (λ xs. byte_at b 0 ∷ xs) (drop_more b 1 0 (omega (arith, posts_fit b e)) ∙ ap (λ xs. byte_at b 1 ∷ xs) (drop_more b 2 0 (omega (arith, posts_fit b e)))))
