use Rattle.std.proofs.Common.{arith}
use Rattle.press_writer.proofs.LeftLemmas.{skips-white}
use Rattle.press_writer.proofs.picture.first_black.Goals as goal

pub loop-line-preserved : goal.loop-line-preserved
loop-line-preserved c = grind (arith, skips-white)
