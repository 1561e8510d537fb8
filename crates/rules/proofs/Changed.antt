-- What the change of a call is to states that are alike outside a reach.
use Rattle.std.proofs.Common.{◌≡◌, ℕ, true, false, not, ◌&&◌, ◌||◌, eqb, is_some, Ok, Err, sym, refl, ap, ◌∙◌, ap₂}
use Rattle.std.proofs.lemmas.Bool.{both_ways, ne_eqb, not-true}
use Rattle.registers.specs.Meaning.{same_posting}
use Rattle.messages.specs.Said.{Said}
use Rattle.messages.specs.declared.call.Call.{Call}
use Rattle.messages.specs.declared.call.Call.TheVariants.{Decide, Grant, Take, Throughout, Enrol, Strike, Open, Close, Permit, Forbid, Sit}
use Rattle.rules.specs.Answers.{Answer}
use Rattle.rules.specs.Choices.{finds, met_place, take_lines, takes}
use Rattle.rules.specs.Isolation.{Alike, outside}
use Rattle.rules.specs.Runs.{after, changed, same_enrolment, same_permit}
use Rattle.rules.specs.Promises.{Orderly}
use Rattle.rules.specs.Setup.{Setup, State, home_of, outranks, over}
use Rattle.rules.specs.Views.{View, sight}
use Rattle.rules.proofs.Locality.{alike_self, sight_same}
use Rattle.rules.proofs.CallKinds.{Local, target}

-- two states differ at one branch alone, and not in permits
record OnlyAt (t : ℕ) (s s' : State) : Type 0 where
  posted : (x y z : ℕ) → eqb z t ≡ false → s.posted x y z ≡ s'.posted x y z
  enrolled : (x z : ℕ) → eqb z t ≡ false → s.enrolled x z ≡ s'.enrolled x z
  closed : (z : ℕ) → eqb z t ≡ false → s.closed z ≡ s'.closed z
  permitted : (x y z : ℕ) → s.permitted x y z ≡ s'.permitted x y z

same_at : (t : ℕ) (s : State) → OnlyAt t s s
same_at t s = record { posted = λ x y z h. refl; enrolled = λ x z h. refl; closed = λ z h. refl; permitted = λ x y z. refl }

only_at : (w : Setup) (s : State) (c : Said) (call : Call) → Local call → OnlyAt (target w call) s (changed w s c call)
only_at w s c (Decide operation piece) l = same_at (home_of w piece) s
only_at w s c (Grant p r b) l =
    record {
      posted = λ x y z h. sym (ap (λ e. (e && (eqb x p && eqb y r)) || s.posted x y z) h);
      enrolled = λ x z h. refl;
      closed = λ z h. refl;
      permitted = λ x y z. refl;
    }
only_at w s c (Take p r b) l =
    record {
      posted = λ x y z h. sym (ap (λ e. not (e && (eqb x p && eqb y r)) && s.posted x y z) h);
      enrolled = λ x z h. refl;
      closed = λ z h. refl;
      permitted = λ x y z. refl;
    }
only_at w s c (Throughout p r b) l = absurd l
only_at w s c (Enrol p b) l =
    record {
      posted = λ x y z h. refl;
      enrolled = λ x z h. sym (ap (λ e. (e && eqb x p) || s.enrolled x z) h);
      closed = λ z h. refl;
      permitted = λ x y z. refl;
    }
only_at w s c (Strike p b) l =
    record {
      posted = λ x y z h. refl;
      enrolled = λ x z h. sym (ap (λ e. not (e && eqb x p) && s.enrolled x z) h);
      closed = λ z h. refl;
      permitted = λ x y z. refl;
    }
only_at w s c (Open b) l =
    record {
      posted = λ x y z h. refl;
      enrolled = λ x z h. refl;
      closed = λ z h. sym (ap (λ e. not e && s.closed z) h);
      permitted = λ x y z. refl;
    }
only_at w s c (Close b) l =
    record {
      posted = λ x y z h. refl;
      enrolled = λ x z h. refl;
      closed = λ z h. sym (ap (λ e. e || s.closed z) h);
      permitted = λ x y z. refl;
    }
only_at w s c (Permit o k r) l = absurd l
only_at w s c (Forbid o k r) l = absurd l
only_at w s c Sit l = same_at 0 s

module _ (w : Setup) (law : Orderly w) (B : ℕ) where
  -- a branch in the reach is not one outside it
  away : (t z : ℕ) → over w B t ≡ true → outside w B z ≡ true → eqb z t ≡ false
  away t z h out = ne_eqb z t (λ e. both_ways (over w B z) (not-true (over w B z) out) (ap (over w B) e ∙ h))

  only_alike : (t : ℕ) (s s' : State) → over w B t ≡ true → OnlyAt t s s' → Alike w B s s'
  only_alike t s s' h only =
      record {
        posted = λ x y z out. only.posted x y z (away t z h out);
        enrolled = λ x z out. only.enrolled x z (away t z h out);
        closed = λ z out. only.closed z (away t z h out);
        permitted = only.permitted;
      }

  -- a change in the reach is not to be seen outside
  pub after_inside : (s : State) (c : Said) (a : Answer) → Local c.call → over w B (target w c.call) ≡ true → Alike w B s (after w s c a)
  after_inside s c (Ok accepted) l h = only_alike (target w c.call) s (changed w s c c.call) h (only_at w s c c.call l)
  after_inside s c (Err fault) l h = alike_self w B s

  -- what throughout takes outside is the same in states that are alike there
  takes_same : (s s' : State) → Alike w B s s' → (c : Said) (p r b o q : ℕ) → outside w B o ≡ true →
      takes w c (sight w s c) p r b o q ≡ takes w c (sight w s' c) p r b o q
  unfolding takes finds
  takes_same s s' A c p r b o q out =
      ap (λ (v : View). (over w o b && (outranks w q r && v.posted p q)) && is_some (met_place w c v (take_lines w) p q)) (sight_same w law.branches B s s' A c o out)

  -- the same change of states that are alike
  pub changed_alike : (s s' : State) → Alike w B s s' → (c : Said) (call : Call) → Alike w B (changed w s c call) (changed w s' c call)
  changed_alike s s' A c (Decide operation piece) = A
  changed_alike s s' A c (Grant p r b) =
      record {
        posted = λ x y z h. ap (λ e. same_posting p r b x y z || e) (A.posted x y z h);
        enrolled = A.enrolled;
        closed = A.closed;
        permitted = A.permitted;
      }
  changed_alike s s' A c (Take p r b) =
      record {
        posted = λ x y z h. ap (λ e. not (same_posting p r b x y z) && e) (A.posted x y z h);
        enrolled = A.enrolled;
        closed = A.closed;
        permitted = A.permitted;
      }
  changed_alike s s' A c (Throughout p r b) =
      record {
        posted = λ x y z h. ap₂ (λ t e. not (t && eqb x p) && e) (takes_same s s' A c p r b z y h) (A.posted x y z h);
        enrolled = A.enrolled;
        closed = A.closed;
        permitted = A.permitted;
      }
  changed_alike s s' A c (Enrol p b) =
      record {
        posted = A.posted;
        enrolled = λ x z h. ap (λ e. same_enrolment p b x z || e) (A.enrolled x z h);
        closed = A.closed;
        permitted = A.permitted;
      }
  changed_alike s s' A c (Strike p b) =
      record {
        posted = A.posted;
        enrolled = λ x z h. ap (λ e. not (same_enrolment p b x z) && e) (A.enrolled x z h);
        closed = A.closed;
        permitted = A.permitted;
      }
  changed_alike s s' A c (Open b) =
      record {
        posted = A.posted;
        enrolled = A.enrolled;
        closed = λ z h. ap (λ e. not (eqb z b) && e) (A.closed z h);
        permitted = A.permitted;
      }
  changed_alike s s' A c (Close b) =
      record {
        posted = A.posted;
        enrolled = A.enrolled;
        closed = λ z h. ap (λ e. eqb z b || e) (A.closed z h);
        permitted = A.permitted;
      }
  changed_alike s s' A c (Permit o k r) =
      record {
        posted = A.posted;
        enrolled = A.enrolled;
        closed = A.closed;
        permitted = λ x y z. ap (λ e. same_permit o k r x y z || e) (A.permitted x y z);
      }
  changed_alike s s' A c (Forbid o k r) =
      record {
        posted = A.posted;
        enrolled = A.enrolled;
        closed = A.closed;
        permitted = λ x y z. ap (λ e. not (same_permit o k r x y z) && e) (A.permitted x y z);
      }
  changed_alike s s' A c Sit = A

  pub after_alike : (s s' : State) → Alike w B s s' → (c : Said) (a : Answer) → Alike w B (after w s c a) (after w s' c a)
  after_alike s s' A c (Ok accepted) = changed_alike s s' A c c.call
  after_alike s s' A c (Err fault) = A
