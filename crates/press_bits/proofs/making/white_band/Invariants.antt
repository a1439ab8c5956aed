use Rattle.std.proofs.Common.{length}
use Rattle.press_bits.proofs.making.white_band.Given as goal

abbrev pub decreases-loop-band : goal.decreases-loop-band
decreases-loop-band l = length l.spare.items
