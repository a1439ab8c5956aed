use Rattle.press_asm.proofs.LineStands.{broken_is_written}
use Rattle.press_asm.proofs.written.is_broken_written.Goals as goal

pub returns : goal.returns
returns c =
    broken_is_written c.args.broken.now c.parts-sequence.result.0 c.parts-sequence.result.1.now c.parts-sequence.ensures c.begins_with_bytes.ensures c.are_bytes.ensures
