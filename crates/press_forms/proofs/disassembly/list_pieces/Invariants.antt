use Rattle.std.proofs.Common.{◌≤◌, ◌-◌}
use Rattle.press_devices.specs.Reading.{most_reads}
use Rattle.press_forms.specs.Assembly.{ListsSoFar}
use Rattle.press_forms.proofs.disassembly.list_pieces.Given as goal

-- the lines of what was read so far were written, in as many reads as the reader tells
abbrev pub invariant-loop-scanner : goal.invariant-loop-scanner
invariant-loop-scanner g l =
    record {
      lists : ListsSoFar (g.R.ReadDevice.remaining l.fn.reader) (g.R.ReadDevice.remaining l.reader) (g.W.WriteDevice.contents l.fn.out) (g.W.WriteDevice.contents l.out) l.scanner;
      told : l.count.reads ≤ g.R.ReadDevice.reads l.reader;
    }

abbrev pub decreases-loop-scanner : goal.decreases-loop-scanner
decreases-loop-scanner g l = most_reads - l.count.reads
