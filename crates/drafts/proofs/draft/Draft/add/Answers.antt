-- A draft that was begun and added to stays one with each further post.
use Rattle.std.proofs.Common.{◌≡◌, List, Ok, sym, refl, ap, ◌∙◌}
use Rattle.messages.specs.declared.post.Post.{Post}
use Rattle.drafts.specs.Posts.{add_result}
use Rattle.drafts.specs.declared.draft.Draft.{Draft}
use Rattle.drafts.proofs.Grown.{more_begun}
use Rattle.drafts.proofs.draft.Draft.add.Goals as goal

pub returns-clause-begun : goal.returns-clause-begun
returns-clause-begun g c =
    let draft = c.args.self in
    let post = c.args.post in
    let posts = g.S.TakesPosts.posts draft.state in
    let next : Draft (List Post) = record { memory = draft.memory; person = draft.person; state = c.with.result } in
    let passed : add_result posts post ≡ Ok tt = ap (λ before. add_result before post) (sym c.so_far.ensures) ∙ sym c.check_add.ensures ∙ c.in_default.is in
    more_begun draft next posts post record { person = refl; memory = refl } c.with.ensures passed
