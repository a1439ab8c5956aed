use Rattle.std.proofs.Common.{◌≡◌, take}
use Rattle.press_bits.proofs.bands.copied.Given as goal

abbrev pub invariant-loop-index : goal.invariant-loop-index
invariant-loop-index l = l.copy.items ≡ take l.index l.bands.items
