-- Calls by where they may change something.
use Rattle.std.proofs.Common.{◌≡◌, ℕ, List, refl}
use Rattle.messages.specs.Said.{Said}
use Rattle.messages.specs.declared.call.Call.{Call}
use Rattle.messages.specs.declared.call.Call.TheVariants.{Decide, Grant, Take, Throughout, Enrol, Strike, Open, Close, Permit, Forbid, Sit}
use Rattle.messages.specs.declared.post.Post.{Post}
use Rattle.rules.specs.Setup.{Setup, home_of}

-- a call with its parts apart
abbrev pub says : ℕ → List Post → Call → Said
says person posts call = record { person = person; posts = posts; call = call }

abbrev pub clears : ℕ → List Post → ℕ → ℕ → ℕ → Said
clears person posts p r b = says person posts (Throughout p r b)

-- each call but sit
abbrev pub OneBranch : Call → Type 0
OneBranch (Decide operation piece) = Unit {0}
OneBranch (Grant person role branch) = Unit {0}
OneBranch (Take person role branch) = Unit {0}
OneBranch (Throughout person role branch) = Unit {0}
OneBranch (Enrol person branch) = Unit {0}
OneBranch (Strike person branch) = Unit {0}
OneBranch (Open branch) = Unit {0}
OneBranch (Close branch) = Unit {0}
OneBranch (Permit operation kind role) = Unit {0}
OneBranch (Forbid operation kind role) = Unit {0}
OneBranch Sit = ⊥

-- the one branch that such a call is about
abbrev pub target : Setup → Call → ℕ
target w (Decide operation piece) = home_of w piece
target w (Grant person role branch) = branch
target w (Take person role branch) = branch
target w (Throughout person role branch) = branch
target w (Enrol person branch) = branch
target w (Strike person branch) = branch
target w (Open branch) = branch
target w (Close branch) = branch
target w (Permit operation kind role) = 0
target w (Forbid operation kind role) = 0
target w Sit = 0

-- the calls that change nothing but at the branch that they are about
abbrev pub Local : Call → Type 0
Local (Decide operation piece) = Unit {0}
Local (Grant person role branch) = Unit {0}
Local (Take person role branch) = Unit {0}
Local (Throughout person role branch) = ⊥
Local (Enrol person branch) = Unit {0}
Local (Strike person branch) = Unit {0}
Local (Open branch) = Unit {0}
Local (Close branch) = Unit {0}
Local (Permit operation kind role) = ⊥
Local (Forbid operation kind role) = ⊥
Local Sit = Unit {0}

-- where a call may change something: at the one branch that it is about, there and above, in the permits of the top, or nowhere
pub data Kind : Call → Type 0 where
  at_branch : (call : Call) → Local call → OneBranch call → Kind call
  at_or_above : (person role branch : ℕ) → Kind (Throughout person role branch)
  at_top : (call : Call) → OneBranch call → ((w : Setup) → target w call ≡ 0) → Kind call
  nowhere : Kind Sit

pub kind_of : (call : Call) → Kind call
kind_of (Decide o p) = at_branch (Decide o p) tt tt
kind_of (Grant p r b) = at_branch (Grant p r b) tt tt
kind_of (Take p r b) = at_branch (Take p r b) tt tt
kind_of (Throughout p r b) = at_or_above p r b
kind_of (Enrol p b) = at_branch (Enrol p b) tt tt
kind_of (Strike p b) = at_branch (Strike p b) tt tt
kind_of (Open b) = at_branch (Open b) tt tt
kind_of (Close b) = at_branch (Close b) tt tt
kind_of (Permit o k r) = at_top (Permit o k r) tt (λ w. refl)
kind_of (Forbid o k r) = at_top (Forbid o k r) tt (λ w. refl)
kind_of Sit = nowhere
