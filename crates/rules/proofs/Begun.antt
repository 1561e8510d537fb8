-- A new state has the founding posting, where the register takes it, and nothing else.
use Rattle.std.proofs.Common.{◌≡◌, ℕ, ◌<◌, Bool, true, false, ◌&&◌, ◌||◌, Decides, refl, arith}
use Rattle.std.proofs.lemmas.Bool.Decides.{Decides-and, Decides-like, Decides-ltb}
use Rattle.search.specs.Searches.{sum_below}
use Rattle.registers.specs.Meaning.{added, nobody, postings_at, same_posting}
use Rattle.rules.specs.Promises.{BeginsFounded}
use Rattle.rules.specs.Setup.{Setup, founded, new}
use Rattle.rules.proofs.CallFacts.{put_decided}
use Rattle.rules.proofs.Effects.{same_posting_lem}

-- at the start a branch has no postings
none_yet : (branch : ℕ) → postings_at nobody branch ≡ 0
unfolding sum_below
none_yet branch = refl

-- the register takes the founding posting where it has the role, the branch and the room
founding :
    (w : Setup) → Decides (founded w) ((w.plan.principal < 16) × (0 < w.register_branches) × (0 < w.share 0))
founding w =
    let role = Decides-ltb w.plan.principal 16 in
    let branch = Decides-ltb 0 w.register_branches in
    let none = none_yet 0 in
    Decides-like (founded w)
    (λ x. let more = x.1.1.0 in (role.0 x.0.1, branch.0 x.0.2, omega (arith, none, more)))
    (λ x. let more = x.2 in ((refl, role.1 x.0, branch.1 x.1), (refl, (omega (arith, none, more), tt))))
    (put_decided nobody w.register_branches w.share 0 w.plan.principal 0)

pub begins_founded : BeginsFounded
unfolding new
begins_founded w =
    record {
      posted = λ x y z.
          Decides-like (founded w && added nobody 0 w.plan.principal 0 x y z) (λ e. (e.1, e.0)) (λ e. (e.1, e.0))
          (Decides-and (founded w) (added nobody 0 w.plan.principal 0 x y z) (founding w)
          (Decides-like (added nobody 0 w.plan.principal 0 x y z) (λ e. e) (λ e. e) (alone (same_posting 0 w.plan.principal 0 x y z) (same_posting_lem 0 w.plan.principal 0 x y z))));
      enrolled = λ x z. refl;
      closed = λ z. refl;
      permitted = λ x y z. refl;
    }
  where
    alone : {P : Type 0} (same : Bool) → Decides same P → Decides (same || false) P
    alone true d = d
    alone false d = d
