-- The two numbers of throughout count the found postings that are gone after it, and those that are still there.
use Rattle.std.proofs.Common.{◌≡◌, ℕ, Bool, true, false, not, ◌&&◌, eqb, ltb, is_some, is_ok, Ok, Err, sym, refl, ap, ◌∙◌, subst}
use mathlib.Core.Path.{fun_ext}
use Rattle.std.proofs.lemmas.Bool.{eq-eqb, false≢true}
use Rattle.refusals.specs.Checks.{must}
use Rattle.messages.specs.Said.{Said}
use Rattle.messages.specs.declared.call.Call.TheVariants.{Throughout}
use Rattle.rules.specs.Answers.{Answer}
use Rattle.rules.specs.Calls.{throughout_row}
use Rattle.rules.specs.Choices.{finds, met_place, postings_of, some_place, take_lines, takes}
use Rattle.rules.specs.Conditions.{Known}
use Rattle.rules.specs.Numbers.{numbers_checked}
use Rattle.rules.specs.Promises.{CountedThroughout, found_in}
use Rattle.rules.specs.Rows.{Check, before}
use Rattle.rules.specs.Runs.{answer, changed}
use Rattle.rules.specs.Setup.{Setup, outranks, over}
use Rattle.rules.specs.Views.{View, sight}
use Rattle.rules.specs.declared.answer.Accepted.TheVariants.{Cleared}
use Rattle.rules.specs.declared.fault.EngineFault.TheVariants.{NoCandidate, NothingFound}
use Rattle.rules.proofs.SightFacts.{finds_in}
use Rattle.rules.proofs.Acceptance.{accepted_when_allowed}
use Rattle.rules.proofs.Effects.{next_changed}

-- checks that pass give the answer behind them
passed_before : (check : Check) (a : Answer) → is_ok (before check a) ≡ true → before check a ≡ a
passed_before (Ok passed) a e = refl
passed_before (Err fault) a e = absurd (false≢true e)

both_passed : (x y : Check) (a : Answer) → is_ok (before x (before y a)) ≡ true → before x (before y a) ≡ a
both_passed x y a e =
    let first = passed_before x (before y a) e in
    first ∙ passed_before y a (sym (ap (λ b. is_ok b) first) ∙ e)

cleared_numbers :
    (w : Setup) (c : Said) (look : ℕ → View) (person role branch : ℕ)
    → is_ok (throughout_row w c look person role branch) ≡ true
    → throughout_row w c look person role branch
    ≡ Ok
    (Cleared
    (postings_of w (takes w c look person role branch))
    (postings_of w (λ o q. finds w look person role branch o q && not (takes w c look person role branch o q))))
unfolding throughout_row
cleared_numbers w c look person role branch e =
    both_passed
    (must (some_place c (look branch).candidate) (NoCandidate branch))
    (must (ltb 0 (postings_of w (finds w look person role branch))) (NothingFound branch))
    _ e

-- a found posting is gone exactly where it is taken, and there exactly where it is not: a, b and p say that it is found, g too,
-- and m that it is taken then
gone_taken : (a b p m : Bool) → ((a && (b && p)) && m) ≡ ((a && (b && p)) && not (not (((a && (b && p)) && m) && true) && p))
gone_taken false b p m = refl
gone_taken true false p m = refl
gone_taken true true false m = refl
gone_taken true true true true = refl
gone_taken true true true false = refl

left_there :
    (a b p m : Bool) → ((a && (b && p)) && not ((a && (b && p)) && m)) ≡ ((a && (b && p)) && (not (((a && (b && p)) && m) && true) && p))
left_there false b p m = refl
left_there true false p m = refl
left_there true true false m = refl
left_there true true true true = refl
left_there true true true false = refl

pub counted_throughout : CountedThroughout
unfolding answer takes
counted_throughout w law s sitter person role branch posts e =
    let c : Said = record { person = sitter; posts = posts; call = Throughout person role branch } in
    let k : Known w c = ((accepted_when_allowed w law s c).0 e).0 in
    let look = sight w s c in
    let own : eqb person person ≡ true = eq-eqb person person refl in
    let was : ℕ → ℕ → Bool = found_in w s person role branch in
    let is : ℕ → ℕ → Bool = λ o q. (changed w s c (Throughout person role branch)).posted person q o in
    let gone : (o q : ℕ) → takes w c look person role branch o q ≡ (was o q && not (is o q)) = λ o q.
    rw (finds_in w s sitter person role branch posts k o q, own)
    (gone_taken (over w o branch) (outranks w q role) (s.posted person q o) (is_some (met_place w c (look o) (take_lines w) person q))) in
    let there :
    (o q : ℕ) → (finds w look person role branch o q && not (takes w c look person role branch o q)) ≡ (was o q && is o q) = λ o q.
    rw (finds_in w s sitter person role branch posts k o q, own)
    (left_there (over w o branch) (outranks w q role) (s.posted person q o) (is_some (met_place w c (look o) (take_lines w) person q))) in
    let numbers = passed_before (numbers_checked w c) (throughout_row w c look person role branch) e in
    let row = cleared_numbers w c look person role branch (sym (ap (λ a. is_ok a) numbers) ∙ e) in
    subst
    (λ n.
    answer w s c
    ≡ Ok (Cleared (postings_of w (λ o q. was o q && not (n.posted person q o))) (postings_of w (λ o q. was o q && n.posted person q o))))
    (sym (next_changed w s c e))
    (numbers
    ∙ (row
    ∙ (ap (λ f. Ok (Cleared (postings_of w f) (postings_of w (λ o q. finds w look person role branch o q && not (takes w c look person role branch o q)))))
    (fun_ext (λ o. fun_ext (λ q. gone o q)))
    ∙ ap (λ f. Ok (Cleared (postings_of w (λ o q. was o q && not (is o q))) (postings_of w f))) (fun_ext (λ o. fun_ext (λ q. there o q))))))
