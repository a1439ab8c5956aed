use Rattle.std.proofs.Common.{arith}
use Rattle.press_bits.proofs.TakeLemmas.{all_taken}
use Rattle.press_bits.proofs.bitmap.Bitmap.take_lines.Goals as goal

pub returns-clause-ok : goal.returns-clause-ok
returns-clause-ok c = grind (arith, all_taken)
