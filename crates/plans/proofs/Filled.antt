-- Arrays that are made from others, and the plan that is put together from them.
use Rattle.std.proofs.Common.{◌≡◌, ℕ, List, map, length, get_or, sym, ◌∙◌, arith}
use Rattle.std.specs.Array.{IsMapOf}
use Rattle.plans.specs.declared.branch.Branch.{Branch}
use Rattle.plans.specs.declared.role.Role.{Role}
use Rattle.plans.specs.declared.line.Line.{Line}
use Rattle.plans.specs.declared.set.Set.{Set}
use Rattle.plans.specs.declared.piece.Piece.{Piece}
use Rattle.plans.specs.declared.plan.Plan.{Plan}
use denote.Param.Members.{Mut, Called}
use Rattle.std.proofs.lemmas.List.{ext_get_or, length-map, get_or-map}

-- an array that the library's `map` makes, by a closure that computes f
pub mapped : {F X : Type 0} (g : Mut F (X × Unit {0}) ℕ) (f : X → ℕ) (state : F) (xs : List X) (ys : List ℕ) (n : ℕ) (d : X)
    → ((p q : F) (x : X) (y : ℕ) → Called g p (x, tt) y q → y ≡ f x)
    → length xs ≡ n
    → IsMapOf g state xs ys n
    → ys ≡ map f xs
mapped g f state xs ys n d computes whole is =
    ext_get_or 0 ys (map f xs) (is.long ∙ sym whole ∙ sym (length-map xs f)) (λ k h.
    let call = is.at k d 0 (omega (arith, is.long)) in
    computes call.0 call.1 (get_or xs k d) (get_or ys k 0) call.2 ∙ sym (get_or-map f xs k d 0 (omega (arith, is.long))))

-- plans with equal parts are equal
pub same_plan : {b b' : List Branch} {bc bc' : ℕ} {r r' : List Role} {rc rc' p p' : ℕ} {g g' : List Line} {gc gc' : ℕ} {t t' : List Line} {tc tc' : ℕ} {s s' : List Set} {sc sc' : ℕ} {q q' : List Piece} {qc qc' : ℕ}
    → b ≡ b' → bc ≡ bc' → r ≡ r' → rc ≡ rc' → p ≡ p' → g ≡ g' → gc ≡ gc' → t ≡ t' → tc ≡ tc' → s ≡ s' → sc ≡ sc' → q ≡ q' → qc ≡ qc'
    → ◌≡◌ {A = Plan}
    record { branches = b; branch_count = bc; roles = r; role_count = rc; principal = p; grants = g; grant_count = gc; takes = t; take_count = tc; sets = s; set_count = sc; pieces = q; piece_count = qc }
    record { branches = b'; branch_count = bc'; roles = r'; role_count = rc'; principal = p'; grants = g'; grant_count = gc'; takes = t'; take_count = tc'; sets = s'; set_count = sc'; pieces = q'; piece_count = qc' }
same_plan e1 e2 e3 e4 e5 e6 e7 e8 e9 e10 e11 e12 e13 = cc
