-- The part that the text was copied into is the text.
use Rattle.std.proofs.Common.{◌+◌, ◌-◌, length, refl, arith}
use Rattle.std.proofs.lemmas.Slice.{put_mid-paste}
use Rattle.lines.proofs.line.lay.Goals as goal

pub returns : goal.returns
returns c =
    let at = c.args.at in
    let text = c.args.text.now in
    record {
      ends = refl;
      bytes = put_mid-paste at (at + length text - at) c.args.line.now c.copy_from_slice.new.self text (length text) c.copy_from_slice.ensures.after (omega arith) refl;
    }
