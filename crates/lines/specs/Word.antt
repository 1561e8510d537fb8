-- The word that stands for each call.
use Rattle.std.specs.Prelude.{ℕ, List, codes}
use Rattle.lines.specs.declared.word.Word.{Word}
use Rattle.lines.specs.declared.word.Word.TheVariants.{Decide, Grant, Take, Throughout, Enrol, Strike, Open, Close, Permit, Forbid, Sit, Unread, Plan}

-- the bytes of the word that a call's line begins with
abbrev pub spelled : Word → List ℕ
spelled Decide = codes "decide"
spelled Grant = codes "grant"
spelled Take = codes "take"
spelled Throughout = codes "throughout"
spelled Enrol = codes "enrol"
spelled Strike = codes "strike"
spelled Open = codes "open"
spelled Close = codes "close"
spelled Permit = codes "permit"
spelled Forbid = codes "forbid"
spelled Sit = codes "sit"
spelled Unread = codes "unread"
spelled Plan = codes "plan"
