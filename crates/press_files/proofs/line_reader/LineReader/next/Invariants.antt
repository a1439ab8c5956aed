use Rattle.std.proofs.Common.{◌≤◌}
use Rattle.press_files.specs.LineReading.{held, reads_left, bytes_left}
use Rattle.press_files.proofs.LineLemmas.{IsGathered}
use Rattle.press_files.proofs.line_reader.LineReader.next.Given as goal

-- the line so far
abbrev pub invariant-loop-self : goal.invariant-loop-self
invariant-loop-self g l =
    record {
      line : IsGathered (held l.fn.self) (g.R.ReadDevice.remaining l.fn.reader) (g.R.ReadDevice.remaining l.reader) l.line.items (held l.self);
      few : bytes_left l.self ≤ bytes_left l.fn.self;
      told : l.fn.self.count.reads ≤ g.R.ReadDevice.reads l.fn.reader → l.self.count.reads ≤ g.R.ReadDevice.reads l.reader;
    }

abbrev pub decreases-loop-self : goal.decreases-loop-self
decreases-loop-self g l = reads_left l.self
