use Rattle.std.proofs.Common.{◌≡◌, ℕ, ◌≤◌, max, length}
use Rattle.press_bits.specs.Bands.{band_at}
use Rattle.press_bits.proofs.making.grow.Given as goal

abbrev pub invariant-loop-made : goal.invariant-loop-made
invariant-loop-made l = record {
  least : length l.initial.bands.items ≤ length l.bands.items;
  most : length l.bands.items ≤ max (length l.initial.bands.items) l.end;
  long : length l.bands.items ≡ l.made;
  same : (k : ℕ) → band_at l.bands.items k ≡ band_at l.initial.bands.items k;
}
