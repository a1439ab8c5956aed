use Rattle.std.proofs.Common.{arith}
use Rattle.std.proofs.lemmas.Result.{on_ok_weaker}
use Rattle.press_asm.proofs.ParamLine.{nothing_spaced, some_spaced}
use Rattle.press_asm.proofs.write.write_spaced.Goals as goal

pub returns-in-empty-clause-ok : goal.returns-in-empty-clause-ok
returns-in-empty-clause-ok c = nothing_spaced c.args.out.now.items c.args.payload.now c.in-empty.len_below

pub returns-in_default-clause-ok : goal.returns-in_default-clause-ok
returns-in_default-clause-ok c = grind (arith, on_ok_weaker, some_spaced)
