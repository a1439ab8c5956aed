use Rattle.press_asm.proofs.ParamLine.{nothing_begun}
use Rattle.press_asm.proofs.write.write_sequence.Goals as goal

pub returns-in-None-clause-ok : goal.returns-in-None-clause-ok
returns-in-None-clause-ok c = nothing_begun c.args.out.now.items c.args.sequence c.in-None.is
