use Rattle.press_memory.proofs.RoomLemmas.{handed-more}
use Rattle.press_memory.proofs.answer.RombixelaAnswer.hand_more.Goals as goal

pub returns-clause-handed : goal.returns-clause-handed
returns-clause-handed c = λ written before handed.
    handed-more written before c.args.bytes.now c.args.room.now c.copy_from_slice.new.self c.args.self.now c.min-put.result handed c.min-put.ensures
    c.copy_from_slice.ensures.after
