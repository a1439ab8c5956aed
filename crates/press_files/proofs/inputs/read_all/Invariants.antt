use Rattle.std.proofs.Common.{◌≤◌, ◌-◌}
use Rattle.std.specs.Io.KnownBytes.{Consumes}
use Rattle.press_devices.specs.Reading.{most_reads}
use Rattle.press_files.proofs.inputs.read_all.Given as goal

-- the bytes are those that the reader gave so far, in as many reads as it tells
abbrev pub invariant-loop-all : goal.invariant-loop-all
invariant-loop-all g l =
    record {
      read : Consumes (g.R.ReadDevice.remaining l.initial.reader) (g.R.ReadDevice.remaining l.reader) l.all.items;
      told : l.count.reads ≤ g.R.ReadDevice.reads l.reader;
    }

abbrev pub decreases-loop-all : goal.decreases-loop-all
decreases-loop-all g l = most_reads - l.count.reads
