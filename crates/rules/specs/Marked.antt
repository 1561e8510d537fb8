-- One class and two of its evenings: the plan and each message in hexadecimal, and the line that is written for each.
use Rattle.std.specs.Prelude.{◌≡◌, ℕ, ◌+◌, ◌-◌, ◌*◌, ◌<◌, cond, List, [], ◌∷◌, ◌++◌, map, Ok, codes, ◌==◌, nat_lt, slice_index}
use Prim.Native.String.{String}
use Rattle.lines.specs.Line.{line_of}
use Rattle.plans.specs.Layout.{layout_of}
use Rattle.plans.specs.Reader.{plan_made, plan_result}
use Rattle.plans.specs.declared.plan.Plan.{Plan}
use Rattle.messages.specs.Calls.{word_of}
use Rattle.messages.specs.Reading.{message_result}
use Rattle.messages.specs.Said.{Said, said_in}
use Rattle.rules.specs.Answers.{Answer, told_of}
use Rattle.rules.specs.Isolation.{BelowTop, Sound}
use Rattle.rules.specs.Runs.{answers}
use Rattle.rules.specs.Setup.{Setup, new}
use Rattle.rules.specs.Sold.{sold_with}

-- the value of a hexadecimal digit, 0 to 9 or A to F
abbrev pub digit : ℕ → ℕ
digit code = cond (nat_lt code 58) (code - 48) (code - 55)

-- the digits of a text, without its spaces
abbrev pub digits_in : List ℕ → List ℕ
digits_in [] = []
digits_in (code ∷ text) = cond (code == 32) (digits_in text) (digit code ∷ digits_in text)

-- each two digits as a byte
abbrev pub paired : List ℕ → List ℕ
paired [] = []
paired (high ∷ []) = []
paired (high ∷ low ∷ rest) = (16 * high + low) ∷ paired rest

-- the bytes that a hexadecimal text says
abbrev pub bytes_of : String → List ℕ
bytes_of text = paired (digits_in (codes text))

-- the plan file of the class: the publisher, two centres, a class under each; principal, tutor, learner and examiner
unfoldable pub class_bytes : List ℕ
class_bytes =
    bytes_of "01 0051"
    ++ (bytes_of "05 0000 0001 0001 0102 0202"
    ++ (bytes_of "04 00010302 00060601 00040440 00080440"
    ++ (bytes_of "00"
    ++ (bytes_of "05 000000000000 000100000008 000200000000 000300000000 010200000000"
    ++ (bytes_of "01 000100000000"
    ++ (bytes_of "01 000A02"
    ++ bytes_of "0004 0003 0103 0004 0000"))))))

-- the plan that those bytes hold
unfoldable pub class_plan : Plan
class_plan = plan_made class_bytes (layout_of class_bytes)

-- a message, and the line that is written for it
pub record Row : Type 0 where
  pub message : List ℕ
  pub line : List ℕ

-- a row as texts: the message in hexadecimal, and the line without its newline
abbrev row : String → String → Row
row message line = record { message = bytes_of message; line = codes line ++ 10 ∷ [] }

-- person 5 becomes tutor of class 3, may hear its piece and not that of class 4, and cannot be examiner there
unfoldable pub six_rows : List Row
six_rows =
    row "01 0007 05 00 01 0000 0501" "enrol 0 0 0"
    ∷ row "01 0008 02 00 01 0000 050103" "grant 0 0 1"
    ∷ row "01 0008 09 00 01 0000 000002" "permit 0 0 0"
    ∷ row "01 0008 01 05 01 0103 000000" "decide 0 0 2"
    ∷ row "01 0008 01 05 01 0103 000002" "decide 8 3 2"
    ∷ row "01 0008 02 00 01 0000 050303" "grant 14 3 0"
    ∷ []

-- throughout class 3 the tutor loses the posting
unfoldable pub seventh_row : List Row
seventh_row = row "01 0008 04 00 01 0000 050203" "throughout 0 1 0" ∷ []

-- instead: person 6, enrolled at centre 1, cannot be a second tutor of class 3, and is made a learner by its tutor; person 7 becomes
-- principal of centre 1, closes class 3, and may not close centre 1
unfoldable pub other_rows : List Row
other_rows =
    row "01 0007 05 00 01 0000 0601" "enrol 0 0 0"
    ∷ row "01 0008 02 00 01 0000 060103" "grant 15 3 1"
    ∷ row "01 0008 02 05 01 0103 060203" "grant 0 0 4"
    ∷ row "01 0007 05 00 01 0000 0701" "enrol 0 0 0"
    ∷ row "01 0008 02 00 01 0000 070001" "grant 0 0 0"
    ∷ row "01 0006 08 07 01 0001 03" "close 0 0 0"
    ∷ row "01 0006 08 07 01 0001 01" "close 8 3 1"
    ∷ []

-- the marked lines: two evenings
abbrev pub marked : List (List Row)
marked = (six_rows ++ seventh_row) ∷ (six_rows ++ other_rows) ∷ []

-- the line of a call and its answer: the call's word and the three numbers that are told
abbrev pub line_for : Said → Answer → List ℕ
line_for c a = line_of (word_of c.call) (slice_index (told_of a) 0) (slice_index (told_of a) 1) (slice_index (told_of a) 2)

-- the lines of a list of calls and their answers
abbrev pub lines_for : List Said → List Answer → List (List ℕ)
lines_for [] given = []
lines_for (c ∷ cs) [] = []
lines_for (c ∷ cs) (a ∷ given) = line_for c a ∷ lines_for cs given

-- the calls of an evening
abbrev pub calls_of : List Row → List Said
calls_of evening = map (λ entry. said_in entry.message) evening

-- every message of an evening can be read, and from a new state just these lines are written
pub record Told (w : Setup) (evening : List Row) : Type 0 where
  pub readable : map (λ entry. message_result entry.message) evening ≡ map (λ entry. Ok tt) evening
  pub lines : lines_for (calls_of evening) (answers w (new w) (calls_of evening)) ≡ map (λ entry. entry.line) evening

-- so it is with each of these evenings
abbrev pub EachTold : Setup → List (List Row) → Type 0
EachTold w [] = Unit {0}
EachTold w (evening ∷ evenings) = Told w evening × EachTold w evenings

-- the class's plan is read, and with it the marked lines are written
pub record MarkedLines : Type 0 where
  pub plan : plan_result class_bytes ≡ Ok tt
  pub evenings : EachTold (sold_with class_plan) marked

-- the isolation law is not empty: the class meets its conditions, and its centres and classes are below the top
pub record ClassMeetsConditions : Type 0 where
  pub sound : Sound (sold_with class_plan)
  pub below : (B : ℕ) → 0 < B → B < 5 → BelowTop (sold_with class_plan) B
