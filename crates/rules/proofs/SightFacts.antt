-- What a call sees: the view at every branch at or above one that it is about, where all that it names exists.
use Rattle.std.proofs.Common.{◌≡◌, ℕ, zero, suc, ◌<◌, true, false, cond, ◌&&◌, ltb, List, [], ◌∷◌, map, length, is_ok, Ok, Err, Result, refl, ap, ◌∙◌, arith}
use Rattle.std.proofs.lemmas.Bool.{and_left, and_parts, cond-true, false≢true, ltb-true, or_left, or_right}
use Rattle.messages.specs.Said.{Said}
use Rattle.messages.specs.declared.call.Call.TheVariants.{Throughout}
use Rattle.messages.specs.declared.post.Post.{Post}
use Rattle.rules.specs.Choices.{finds}
use Rattle.rules.specs.Conditions.{Known}
use Rattle.rules.specs.Numbers.{numbers_checked}
use Rattle.rules.specs.Promises.{Orderly, found_in}
use Rattle.rules.specs.Setup.{Setup, State, is_branch, outranks, over}
use Rattle.rules.specs.Views.{about, about_if, blank, branches_of, candidate, over_some, sight, view}
use Rattle.rules.specs.Words.{post_at}
use Rattle.rules.specs.declared.fault.EngineFault.{EngineFault}
use Rattle.rules.proofs.RowFacts.{guarded}
use Rattle.rules.proofs.KnownFacts.{numbers_known}

-- a branch that exists is a member of the order, and one of the register's
pub branch_parts : (w : Setup) (t : ℕ) → is_branch w t ≡ true → (ltb t w.branches.members ≡ true) × (ltb t w.register_branches ≡ true)
branch_parts w t known =
    let rest = (and_parts (ltb t 64) (ltb t w.plan.branch_count && (ltb t w.branches.members && ltb t w.register_branches)) known).1 in
    let inner = (and_parts (ltb t w.plan.branch_count) (ltb t w.branches.members && ltb t w.register_branches) rest).1 in
    and_parts (ltb t w.branches.members) (ltb t w.register_branches) inner

-- and so at or above itself
pub over_self : (w : Setup) → Orderly w → (t : ℕ) → is_branch w t ≡ true → over w t t ≡ true
over_self w law t known = law.branches.reflexive t (ltb-true t w.branches.members (branch_parts w t known).0)

-- a branch at or above the one that a call is about
pub over_one : (w : Setup) (t o : ℕ) → over w o t ≡ true → over_some w (t ∷ []) o ≡ true
over_one w t o h = or_left (over w o t) false h

-- the branch of each post is among those of the posts
pub over_post :
    (w : Setup) → Orderly w → (posts : List Post) (place : ℕ) → place < length posts → is_branch w (post_at posts place).branch ≡ true
    → over_some w (map (λ post. post.branch) posts) (post_at posts place).branch ≡ true
over_post w law [] place h known = absurd (omega arith)
over_post w law (post ∷ posts) zero h known = or_left (over w post.branch post.branch) _ (over_self w law post.branch known)
over_post w law (post ∷ posts) (suc place) h known =
    or_right (over w (post_at posts place).branch post.branch) _ (over_post w law posts place (omega arith) known)

-- a call whose numbers pass is about its branches
passed_about : (r : Result (Unit {0}) EngineFault) (branches : List ℕ) → is_ok r ≡ true → about_if r branches ≡ branches
passed_about (Ok passed) branches e = refl
passed_about (Err fault) branches e = absurd (false≢true e)

pub known_about : (w : Setup) (c : Said) → Known w c → about w c ≡ branches_of w c.posts c.call
unfolding about
known_about w c k = passed_about (numbers_checked w c) (branches_of w c.posts c.call) ((numbers_known w c).1 k)

-- there it sees the view
pub sight_view :
    (w : Setup) (s : State) (c : Said) (o : ℕ)
    → Known w c
    → over_some w (branches_of w c.posts c.call) o ≡ true
    → sight w s c o ≡ view w s c o
unfolding sight
sight_view w s c o k h = cond-true (over_some w (about w c) o) (view w s c o) blank (ap (λ ts. over_some w ts o) (known_about w c k) ∙ h)

-- no candidate is seen at a branch that does not exist
pub none_seen : (w : Setup) (s : State) (c : Said) (t place : ℕ) → is_branch w t ≡ false → (sight w s c t).candidate place ≡ false
unfolding sight view blank candidate
none_seen w s c t place lacks =
    elim (over_some w (about w c) t) as (λ b. (cond b (view w s c t) blank).candidate place ≡ false) [
      | true ↦ and_left (is_branch w t) _ lacks
      | false ↦ refl
    ]

-- what throughout finds by what it sees is what it finds in the state
pub finds_in :
    (w : Setup) (s : State) (sitter person role branch : ℕ) (posts : List Post)
    → let c : Said = record { person = sitter; posts = posts; call = Throughout person role branch } in
    Known w c → (o q : ℕ) → finds w (sight w s c) person role branch o q ≡ found_in w s person role branch o q
unfolding finds view
finds_in w s sitter person role branch posts k o q =
    let c : Said = record { person = sitter; posts = posts; call = Throughout person role branch } in
    guarded (over w o branch) (outranks w q role && (sight w s c o).posted person q) (outranks w q role && s.posted person q o)
    (λ h. ap (λ v. outranks w q role && v.posted person q) (sight_view w s c o k (over_one w branch o h)))
