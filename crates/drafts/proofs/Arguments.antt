-- The reader's check of a call's arguments says what their limits say.
use Rattle.std.proofs.Common.{◌≡◌, ℕ, ◌+◌, ◌-◌, ◌≤◌, Bool, true, false, ltb, leb, List, [], ◌∷◌, length, Ok, Err, Result, refl, ap, ◌∙◌, arith}
use Rattle.std.proofs.lemmas.Bool.{le-leb, and_from}
use Rattle.refusals.specs.Checks.{must, then, in_order}
use Rattle.fields.specs.Bytes.{byte_at, two_at}
use Rattle.fields.specs.Fields.{field_checked}
use Rattle.fields.specs.declared.fault.FieldFault.{FieldFault}
use Rattle.fields.specs.declared.fault.FieldFault.TheVariants.{Misfit, Value}
use Rattle.messages.specs.Arguments.{arguments_checked, arguments_width, call_at}
use Rattle.messages.specs.Calls.{number_of}
use Rattle.messages.specs.Numbers.{operation_checked, piece_checked}
use Rattle.messages.specs.Reading.{lifted}
use Rattle.messages.specs.declared.call.Call.{Call}
use Rattle.messages.specs.declared.call.Call.TheVariants.{Decide, Grant, Take, Throughout, Enrol, Strike, Open, Close, Permit, Forbid, Sit}
use Rattle.messages.specs.declared.fault.MessageFault.TheVariants.{Field}
use Rattle.drafts.specs.Begun.{below, arguments_result}

pub then_ok : {F : Type 0} (a : Result (Unit {0}) F) → then a (Ok tt) ≡ a
then_ok (Ok tt) = refl
then_ok (Err f) = refl

-- of a field that fits, its rule is left
pub field_rule : (b : List ℕ) (at size : ℕ) (rule : Bool) → at + size ≤ length b → field_checked b at size rule ≡ must rule (Value at)
field_rule b at size rule h =
    ap (λ fits. then (must fits (Misfit at)) (then (must rule (Value at)) (Ok tt)))
    (and_from (leb at (length b)) (leb size (length b - at)) (le-leb at (length b) (omega arith)) (le-leb size (length b - at) (omega arith)))
    ∙ then_ok (must rule (Value at))

lifted_must : (test : Bool) (at : ℕ) → lifted (must test (Value at)) ≡ must test (Field (Value at))
lifted_must true at = refl
lifted_must false at = refl

lifted_then : (a b : Result (Unit {0}) FieldFault) → lifted (then a b) ≡ then (lifted a) (lifted b)
lifted_then (Ok tt) b = refl
lifted_then (Err f) b = refl

-- a number that fits at an offset
number_said : (b : List ℕ) (at size x n limit : ℕ) → at + size ≤ length b → x ≡ n → lifted (field_checked b at size (ltb x limit)) ≡ below n limit at
number_said b at size x n limit h e =
    ap lifted (field_rule b at size (ltb x limit) h) ∙ lifted_must (ltb x limit) at ∙ ap (λ m. below m limit at) e

two_said : (a b : Result (Unit {0}) FieldFault) → lifted (in_order (a ∷ b ∷ [])) ≡ in_order (lifted a ∷ lifted b ∷ [])
two_said a b = lifted_then a (then b (Ok tt)) ∙ ap (then (lifted a)) (lifted_then b (Ok tt))

three_said : (a b c : Result (Unit {0}) FieldFault) → lifted (in_order (a ∷ b ∷ c ∷ [])) ≡ in_order (lifted a ∷ lifted b ∷ lifted c ∷ [])
three_said a b c = lifted_then a (in_order (b ∷ c ∷ [])) ∙ ap (then (lifted a)) (two_said b c)

-- a number in a byte is below its limit
abbrev byte_checked : List ℕ → ℕ → ℕ → Result (Unit {0}) FieldFault
byte_checked b at limit = field_checked b at 1 (ltb (byte_at b at) limit)

-- three numbers of a byte each, two of them, and a number with a piece
three_numbers : (b : List ℕ) (at x y z p q r : ℕ) → at + 3 ≤ length b → byte_at b at ≡ x → byte_at b (at + 1) ≡ y → byte_at b (at + 2) ≡ z → lifted (in_order (byte_checked b at p ∷ byte_checked b (at + 1) q ∷ byte_checked b (at + 2) r ∷ [])) ≡ in_order (below x p at ∷ below y q (at + 1) ∷ below z r (at + 2) ∷ [])
three_numbers b at x y z p q r h e f g =
    let first = number_said b at 1 (byte_at b at) x p (omega arith) e in
    let second = number_said b (at + 1) 1 (byte_at b (at + 1)) y q (omega arith) f in
    let third = number_said b (at + 2) 1 (byte_at b (at + 2)) z r (omega arith) g in
    three_said (byte_checked b at p) (byte_checked b (at + 1) q) (byte_checked b (at + 2) r) ∙ (λ i. in_order (first i ∷ second i ∷ third i ∷ []))

two_numbers : (b : List ℕ) (at x y p q : ℕ) → at + 2 ≤ length b → byte_at b at ≡ x → byte_at b (at + 1) ≡ y → lifted (in_order (byte_checked b at p ∷ byte_checked b (at + 1) q ∷ [])) ≡ in_order (below x p at ∷ below y q (at + 1) ∷ [])
two_numbers b at x y p q h e f =
    let first = number_said b at 1 (byte_at b at) x p (omega arith) e in
    let second = number_said b (at + 1) 1 (byte_at b (at + 1)) y q (omega arith) f in
    two_said (byte_checked b at p) (byte_checked b (at + 1) q) ∙ (λ i. in_order (first i ∷ second i ∷ []))

a_piece : (b : List ℕ) (at operation piece : ℕ) → at + 3 ≤ length b → byte_at b at ≡ operation → two_at b (at + 1) ≡ piece → lifted (in_order (operation_checked b at ∷ piece_checked b (at + 1) ∷ [])) ≡ in_order (below operation 8 at ∷ below piece 1024 (at + 1) ∷ [])
a_piece b at operation piece h e f =
    let first = number_said b at 1 (byte_at b at) operation 8 (omega arith) e in
    let second = number_said b (at + 1) 2 (two_at b (at + 1)) piece 1024 (omega arith) f in
    two_said (operation_checked b at) (piece_checked b (at + 1)) ∙ (λ i. in_order (first i ∷ second i ∷ []))

-- where bytes say a call at an offset, and end behind it
pub arguments_said : (call : Call) (b : List ℕ) (at : ℕ) → call_at b (number_of call) at ≡ call → at + arguments_width (number_of call) ≡ length b → lifted (arguments_checked b (number_of call) at) ≡ arguments_result call at
arguments_said (Decide operation piece) b at e h = a_piece b at operation piece (omega arith) (cc) (cc)
arguments_said (Grant person role branch) b at e h = three_numbers b at person role branch 64 16 64 (omega arith) (cc) (cc) (cc)
arguments_said (Take person role branch) b at e h = three_numbers b at person role branch 64 16 64 (omega arith) (cc) (cc) (cc)
arguments_said (Throughout person role branch) b at e h = three_numbers b at person role branch 64 16 64 (omega arith) (cc) (cc) (cc)
arguments_said (Enrol person branch) b at e h = two_numbers b at person branch 64 64 (omega arith) (cc) (cc)
arguments_said (Strike person branch) b at e h = two_numbers b at person branch 64 64 (omega arith) (cc) (cc)
arguments_said (Open branch) b at e h = number_said b at 1 (byte_at b at) branch 64 (omega arith) (cc)
arguments_said (Close branch) b at e h = number_said b at 1 (byte_at b at) branch 64 (omega arith) (cc)
arguments_said (Permit operation kind role) b at e h = three_numbers b at operation kind role 8 16 16 (omega arith) (cc) (cc) (cc)
arguments_said (Forbid operation kind role) b at e h = three_numbers b at operation kind role 8 16 16 (omega arith) (cc) (cc) (cc)
arguments_said Sit b at e h = refl
