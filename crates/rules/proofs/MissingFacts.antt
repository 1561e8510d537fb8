-- The first number of a call that names nothing is the one that is told.
use Rattle.std.proofs.Common.{◌≡◌, ℕ, zero, suc, ◌+◌, ◌*◌, Bool, true, false, List, [], ◌∷◌, ◌++◌, length, is_ok, Ok, Err, sym, refl, ap, ◌∙◌, subst, inl, inr, arith}
use Rattle.std.proofs.lemmas.Bool.{both_ways, true≢false}
use Rattle.refusals.specs.Checks.{in_order, must, then}
use Rattle.messages.specs.Said.{Said}
use Rattle.messages.specs.declared.call.Call.{Call}
use Rattle.messages.specs.declared.call.Call.TheVariants.{Decide, Grant, Take, Throughout, Enrol, Strike, Open, Close, Permit, Forbid, Sit}
use Rattle.messages.specs.declared.post.Post.{Post}
use Rattle.rules.specs.Answers.{Answer}
use Rattle.rules.specs.Conditions.{Known}
use Rattle.rules.specs.Numbers.{argument_numbers, numbers_checked, post_numbers}
use Rattle.rules.specs.Reasons.{Lowest, Missing, MissingFrom, Refuses, arguments_exist, numbers_exist, passed, posts_exist, refused}
use Rattle.rules.specs.Rows.{Check, before}
use Rattle.rules.specs.Setup.{Setup, is_branch, is_person, is_role}
use Rattle.rules.specs.declared.fault.EngineFault.TheVariants.{NoSuchNumber}
use Rattle.rules.proofs.KnownFacts.{numbers_known}

-- tests from an offset on, one byte for each
abbrev byte_tests : ℕ → List Bool → List Check
byte_tests at [] = []
byte_tests at (exists ∷ tests) = must exists (NoSuchNumber at) ∷ byte_tests (at + 1) tests

two_on : (at : ℕ) (tests : List Bool) → byte_tests (at + 2) tests ≡ byte_tests (at + 1 + 1) tests
two_on at tests = ap (λ n. byte_tests n tests) (omega arith)

-- the checks of the posts and of the arguments are such tests
posts_tested : (w : Setup) (at : ℕ) (posts : List Post) → post_numbers w at posts ≡ byte_tests at (posts_exist w posts)
posts_tested w at [] = refl
posts_tested w at (post ∷ posts) =
    ap (λ rest. must (is_role w post.role) (NoSuchNumber at) ∷ must (is_branch w post.branch) (NoSuchNumber (at + 1)) ∷ rest)
    (posts_tested w (at + 2) posts ∙ two_on at (posts_exist w posts))

third : (at : ℕ) (a b c : Bool)
    → (must a (NoSuchNumber at) ∷ must b (NoSuchNumber (at + 1)) ∷ must c (NoSuchNumber (at + 2)) ∷ []) ≡ byte_tests at (a ∷ b ∷ c ∷ [])
third at a b c = ap (λ rest. must a (NoSuchNumber at) ∷ must b (NoSuchNumber (at + 1)) ∷ rest) (two_on at (c ∷ []))

arguments_tested : (w : Setup) (at : ℕ) (call : Call) → argument_numbers w at call ≡ byte_tests at (arguments_exist w call)
arguments_tested w at (Decide operation piece) = refl
arguments_tested w at (Grant person role branch) = third at _ _ _
arguments_tested w at (Take person role branch) = third at _ _ _
arguments_tested w at (Throughout person role branch) = third at _ _ _
arguments_tested w at (Enrol person branch) = refl
arguments_tested w at (Strike person branch) = refl
arguments_tested w at (Open branch) = refl
arguments_tested w at (Close branch) = refl
arguments_tested w at (Permit operation kind role) = third at _ _ _
arguments_tested w at (Forbid operation kind role) = third at _ _ _
arguments_tested w at Sit = refl

posts_bytes : (w : Setup) (posts : List Post) → length (posts_exist w posts) ≡ 2 * length posts
posts_bytes w [] = refl
posts_bytes w (post ∷ posts) = omega (arith, posts_bytes w posts)

-- tests behind others
tests_behind : (at : ℕ) (xs ys : List Bool) → then (in_order (byte_tests at xs)) (then (in_order (byte_tests (at + length xs) ys)) (Ok tt)) ≡ in_order (byte_tests at (xs ++ ys))
tests_behind at [] ys = ap (λ n. then (in_order (byte_tests n ys)) (Ok tt)) (omega arith) ∙ then_none (in_order (byte_tests at ys))
  where
    then_none : (a : Check) → then a (Ok tt) ≡ a
    then_none (Ok done) = refl
    then_none (Err fault) = refl
tests_behind at (x ∷ xs) ys =
    regrouped (must x (NoSuchNumber at)) _ _
    ∙ ap (λ rest. then (must x (NoSuchNumber at)) rest)
    (ap (λ n. then (in_order (byte_tests (at + 1) xs)) (then (in_order (byte_tests n ys)) (Ok tt))) (omega arith) ∙ tests_behind (at + 1) xs ys)
  where
    regrouped : (a b c : Check) → then (then a b) c ≡ then a (then b c)
    regrouped (Ok done) b c = refl
    regrouped (Err fault) b c = refl

-- the numbers of a call: the person, and then such tests
numbers_tested : (w : Setup) (c : Said)
    → numbers_checked w c ≡ then (must (is_person c.person) (NoSuchNumber 4)) (in_order (byte_tests 6 (numbers_exist w c)))
unfolding numbers_checked
numbers_tested w c =
    let posts = posts_exist w c.posts in
    let arguments = arguments_exist w c.call in
    ap (λ rest. then (must (is_person c.person) (NoSuchNumber 4)) rest)
    (ap (λ checks. then (in_order checks) (then (in_order (argument_numbers w (6 + 2 * length c.posts) c.call)) (Ok tt))) (posts_tested w 6 c.posts)
    ∙ ap (λ checks. then (in_order (byte_tests 6 posts)) (then (in_order checks) (Ok tt)))
    (arguments_tested w (6 + 2 * length c.posts) c.call ∙ ap (λ n. byte_tests n arguments) (omega (arith, posts_bytes w c.posts)))
    ∙ tests_behind 6 posts arguments)

-- nothing is missing where all exists
none_missing : (start : ℕ) (offset : ℕ) → MissingFrom start [] offset → ⊥
none_missing start offset m = true≢false m.2

-- one byte further
one_on : (start : ℕ) (exist : List Bool) (offset : ℕ) → MissingFrom (start + 1) exist offset → MissingFrom start (true ∷ exist) offset
one_on start exist offset m = (suc m.0, omega (arith, m.1), m.2)

one_back : (start : ℕ) (exist : List Bool) (offset : ℕ) → MissingFrom start (true ∷ exist) offset → MissingFrom (start + 1) exist offset
one_back start exist offset (zero, e, lacks) = absurd (true≢false lacks)
one_back start exist offset (suc k, e, lacks) = (k, omega (arith, e), lacks)

-- the first test that fails is told
first_missing :
    {Rest : Answer → Type 0} (start : ℕ) (exist : List Bool) (rest : Answer)
    → (in_order (byte_tests start exist) ≡ Ok tt → Rest rest)
    → Refuses (Lowest (MissingFrom start exist)) NoSuchNumber Rest (before (in_order (byte_tests start exist)) rest)
first_missing start [] rest go = passed (λ offset l. none_missing start offset l.fits) (go refl)
first_missing start (false ∷ exist) rest go =
    refused start
    (record { fits = (0, omega arith, refl); none_lower = λ lower h m. omega (arith, m.1) })
    refl
first_missing {Rest = Rest} start (true ∷ exist) rest go = further (first_missing (start + 1) exist rest go)
  where
    further :
        Refuses (Lowest (MissingFrom (start + 1) exist)) NoSuchNumber Rest (before (in_order (byte_tests (start + 1) exist)) rest)
        → Refuses (Lowest (MissingFrom start (true ∷ exist))) NoSuchNumber Rest (before (in_order (byte_tests (start + 1) exist)) rest)
    further (refused told l is) =
        refused told
        (record { fits = one_on start exist told l.fits; none_lower = λ lower h m. l.none_lower lower h (one_back start exist lower m) })
        is
    further (passed none r) =
        passed
        (λ offset l. none offset (record { fits = one_back start exist offset l.fits; none_lower = λ lower h m. l.none_lower lower h (one_on start exist lower m) }))
        r

-- so is the first number of a call that names nothing; where there is none, all that the call names exists
pub call_missing :
    {Rest : Answer → Type 0} (w : Setup) (c : Said) (rest : Answer)
    → (Known w c → Rest rest)
    → Refuses (Lowest (Missing w c)) NoSuchNumber Rest (before (numbers_checked w c) rest)
call_missing {Rest = Rest} w c rest go =
    subst (λ checked. Refuses (Lowest (Missing w c)) NoSuchNumber Rest (before checked rest)) (sym (numbers_tested w c)) (at (is_person c.person) refl)
  where
    behind :
        is_person c.person ≡ true
        → Refuses (Lowest (MissingFrom 6 (numbers_exist w c))) NoSuchNumber Rest (before (in_order (byte_tests 6 (numbers_exist w c))) rest)
        → Refuses (Lowest (Missing w c)) NoSuchNumber Rest (before (in_order (byte_tests 6 (numbers_exist w c))) rest)
    behind e (refused told l is) =
        refused told
        (record {
          fits = inr l.fits;
          none_lower = λ lower h m. elim m [ inl person ↦ both_ways (is_person c.person) person.1 e | inr later ↦ l.none_lower lower h later ];
        })
        is
    behind e (passed none r) =
        passed
        (λ offset l.
        elim l.fits [
          | inl person ↦ both_ways (is_person c.person) person.1 e
          | inr later ↦ none offset (record { fits = later; none_lower = λ lower h m. l.none_lower lower h (inr m) })
        ])
        r

    at :
        (is : Bool) → is_person c.person ≡ is
        → Refuses (Lowest (Missing w c)) NoSuchNumber Rest (before (then (must is (NoSuchNumber 4)) (in_order (byte_tests 6 (numbers_exist w c)))) rest)
    at true e =
        behind e
        (first_missing 6 (numbers_exist w c) rest
        (λ all. go ((numbers_known w c).0 (ap is_ok (numbers_tested w c ∙ ap (λ b. then (must b (NoSuchNumber 4)) (in_order (byte_tests 6 (numbers_exist w c)))) e ∙ all)))))
    at false e =
        refused 4
        (record {
          fits = inl (refl, e);
          none_lower = λ lower h m. elim m [ inl person ↦ omega (arith, person.0) | inr later ↦ omega (arith, later.1) ];
        })
        refl
