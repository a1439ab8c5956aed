use Rattle.std.proofs.Common.{◌≡◌, ◌≤◌, ◌-◌, ◌⊎◌, max, length, true}
use Rattle.std.specs.Io.KnownBytes.{Keeps}
use Rattle.press_devices.specs.Reading.{most_reads}
use Rattle.press_devices.proofs.reading.read_next.Given as goal

-- nothing was read so far
abbrev pub invariant-loop-count : goal.invariant-loop-count
invariant-loop-count g l =
    record {
      kept : Keeps (g.R.ReadDevice.remaining l.initial.reader) (g.R.ReadDevice.remaining l.reader);
      long : length l.piece ≡ length l.initial.piece;
      more : l.initial.count.reads ≤ l.count.reads;
      few : l.count.reads ≤ max l.initial.count.reads most_reads;
      stays : g.R.ReadDevice.failed l.initial.reader ≡ true → g.R.ReadDevice.failed l.reader ≡ true;
      told : l.initial.count.reads ≤ g.R.ReadDevice.reads l.initial.reader → l.count.reads ≤ g.R.ReadDevice.reads l.reader;
      first : (g.R.ReadDevice.failed l.reader ≡ true) ⊎ (l.count.reads ≡ l.initial.count.reads);
      ended : l.count.ended ≡ l.initial.count.ended;
    }

abbrev pub decreases-loop-count : goal.decreases-loop-count
decreases-loop-count g l = most_reads - l.count.reads
