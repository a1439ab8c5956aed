use Rattle.std.proofs.Common.{◌*◌}
use Rattle.press_bits.specs.Changes.{Covers}
use Rattle.press_bits.proofs.changes.changed.Given as goal

abbrev pub invariant-loop-band : goal.invariant-loop-band
invariant-loop-band l = Covers l.before.page l.after.page l.region (64 * l.band)
