-- The mask gains the role of each record that posts the person.
use Rattle.std.proofs.Common.{◌≡◌, ℕ, ◌&&◌, ◌||◌, ltb, List, [], length, Option, sym, subst, ◌∙◌, rules}
use Rattle.orders.specs.Masks.{has_bit}
use Rattle.registers.proofs.BitFacts.{no_bit}
use Rattle.registers.specs.Meaning.{is_posting}
use Rattle.registers.specs.declared.posting.Posting.{Posting}
use Rattle.roll.proofs.PartFacts.{among_none, roles_more}
use Rattle.roll.proofs.part.roles_in.Goals as goal
use Rattle.roll.specs.Part.{among}
use Rattle.std.proofs.lemmas.Bool.{and_right}
use Rattle.std.proofs.lemmas.Fn.{fold_over, slice_gives, fronts}

pub returns : goal.returns
returns c =
    let person = c.args.person in
    let branch = c.args.branch in
    subst (λ (part : List (Option Posting)). (q : ℕ) → has_bit c.fold.result q ≡ (ltb q 16 && among part (length part) person q branch)) c.iter.ensures.rest
    (fold_over fronts (λ y. y.now) _ (λ part mask. (q : ℕ) → has_bit mask q ≡ (ltb q 16 && among part (length part) person q branch)) _
    (λ part before x after f' was k.
    let more : (q : ℕ) → has_bit after q ≡ (has_bit before q || (ltb q 16 && is_posting x.now person q branch)) = search rules in
    (roles_more part x.now person branch before after was more, search rules))
    _ _ _ _ (slice_gives c.iter.result) (λ q. no_bit q ∙ sym (and_right (ltb q 16) _ (among_none [] person q branch))) c.fold.ensures.ran)
