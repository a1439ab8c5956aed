use Rattle.std.proofs.Common.{◌≡◌, ◌≤◌, ◌-◌, ℕ, List}
use Rattle.std.specs.Io.KnownBytes.{Consumes}
use Rattle.press_devices.specs.Reading.{most_reads}
use Rattle.press_stream.specs.State.{opened, with_piece}
use Rattle.press_debug.proofs.stepper.push_all.Given as goal

-- it holds what was read so far, in as many reads as the reader tells
abbrev pub invariant-loop-length : goal.invariant-loop-length
invariant-loop-length g l =
    record {
      holds : (bytes : List ℕ) × Consumes (g.R.ReadDevice.remaining l.fn.reader) (g.R.ReadDevice.remaining l.reader) bytes × (l.job ≡ with_piece bytes opened);
      told : l.count.reads ≤ g.R.ReadDevice.reads l.reader;
    }

abbrev pub decreases-loop-length : goal.decreases-loop-length
decreases-loop-length g l = most_reads - l.count.reads
