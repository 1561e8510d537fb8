-- What was checked and copied is the message, and it is read back.
use Rattle.std.proofs.Common.{◌≡◌, Ok, rules}
use Rattle.messages.specs.Reading.{message_result}
use Rattle.messages.specs.Said.{said, written}
use Rattle.messages.proofs.ReadBack.{read_back}
use Rattle.messages.proofs.writer.write.Goals as goal

pub returns-clause-read_back : goal.returns-clause-read_back
returns-clause-read_back c =
    let s = said c.args.message.now in
    let passed : message_result (written s) ≡ Ok tt = search rules in
    (passed, read_back s)
