-- The writer's answer is the draft's; of a draft that was begun and added to, only an argument is refused.
use Rattle.std.proofs.Common.{◌≡◌, length, Ok, Err, Result, ◌∙◌, rules}
use Rattle.messages.specs.declared.fault.MessageFault.{MessageFault}
use Rattle.drafts.specs.Drafts.{said_with}
use Rattle.drafts.specs.Steps.{finish_result}
use Rattle.drafts.proofs.Reader.{begun_says, finish_is}
use Rattle.drafts.proofs.draft.steps.Draft+Filled.finish.Goals as goal

pub returns-in-Ok : goal.returns-in-Ok
returns-in-Ok c =
    let draft = c.args.self in
    let says = finish_is draft c.args.call c.message.result.sitting (search rules) c.message.ensures.person c.message.ensures.posts in
    let answer : ◌≡◌ {A = Result (Unit {0}) MessageFault} (Ok tt) (finish_result (length draft.memory.now) (length draft.state) (said_with draft c.args.call)) = search rules in
    record { answer = answer; leaves = search rules; arguments = λ begun. answer ∙ begun_says draft c.args.call begun; read_back = search rules }

pub returns-in-Err : goal.returns-in-Err
returns-in-Err c =
    let draft = c.args.self in
    let says = finish_is draft c.args.call c.message.result.sitting (search rules) c.message.ensures.person c.message.ensures.posts in
    let answer : ◌≡◌ {A = Result (Unit {0}) MessageFault} (Err c.in-Err.fault) (finish_result (length draft.memory.now) (length draft.state) (said_with draft c.args.call)) = search rules in
    record { answer = answer; leaves = search rules; arguments = λ begun. answer ∙ begun_says draft c.args.call begun; read_back = search rules }
