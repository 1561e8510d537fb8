-- The calls: their numbers and their words.
use Rattle.std.specs.Prelude.{ℕ}
use Rattle.lines.specs.declared.word.Word.{Word}
use Rattle.lines.specs.declared.word.Word.TheVariants as word
use Rattle.messages.specs.declared.kind.CallKind.{CallKind}
use Rattle.messages.specs.declared.kind.CallKind.TheVariants as kind
use Rattle.messages.specs.declared.call.Call.{Call}
use Rattle.messages.specs.declared.call.Call.TheVariants.{Decide, Grant, Take, Throughout, Enrol, Strike, Open, Close, Permit, Forbid, Sit}

-- the number of a kind of call
abbrev pub kind_number : CallKind → ℕ
kind_number kind.Decide = 1
kind_number kind.Grant = 2
kind_number kind.Take = 3
kind_number kind.Throughout = 4
kind_number kind.Enrol = 5
kind_number kind.Strike = 6
kind_number kind.Open = 7
kind_number kind.Close = 8
kind_number kind.Permit = 9
kind_number kind.Forbid = 10
kind_number kind.Sit = 11

-- the number by which a message names the call
abbrev pub number_of : Call → ℕ
number_of (Decide operation piece) = 1
number_of (Grant person role branch) = 2
number_of (Take person role branch) = 3
number_of (Throughout person role branch) = 4
number_of (Enrol person branch) = 5
number_of (Strike person branch) = 6
number_of (Open branch) = 7
number_of (Close branch) = 8
number_of (Permit operation kind role) = 9
number_of (Forbid operation kind role) = 10
number_of Sit = 11

-- the word that the call's line begins with
abbrev pub word_of : Call → Word
word_of (Decide operation piece) = word.Decide
word_of (Grant person role branch) = word.Grant
word_of (Take person role branch) = word.Take
word_of (Throughout person role branch) = word.Throughout
word_of (Enrol person branch) = word.Enrol
word_of (Strike person branch) = word.Strike
word_of (Open branch) = word.Open
word_of (Close branch) = word.Close
word_of (Permit operation kind role) = word.Permit
word_of (Forbid operation kind role) = word.Forbid
word_of Sit = word.Sit
