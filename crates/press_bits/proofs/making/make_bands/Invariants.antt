use Rattle.std.proofs.Common.{◌≤◌, Ok, length, max}
use Rattle.press_bits.specs.Bands.{MakesBands}
use Rattle.press_bits.proofs.making.make_bands.Given as goal

abbrev pub invariant-loop-index : goal.invariant-loop-index
invariant-loop-index l = record {
  room : l.end ≤ length l.bands.items;
  makes : MakesBands l.initial.bands.items l.bands.items l.first l.index l.count (Ok tt);
  most : length l.bands.items ≤ max (length l.initial.bands.items) l.end;
}
