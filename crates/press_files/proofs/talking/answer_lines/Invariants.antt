use Rattle.std.proofs.Common.{◌≡◌, ◌≤◌, false}
use Rattle.press_files.specs.LineReading.{held, bytes_left}
use Rattle.press_files.proofs.TalkLemmas.{IsAnswered}
use Rattle.press_files.proofs.talking.answer_lines.Given as goal

-- the lines so far were answered
abbrev pub invariant-loop-line : goal.invariant-loop-line
invariant-loop-line g l = record {
  ready : g.T.Talk.IsReady l.talk;
  answered : IsAnswered g.T.Talk.answers l.fn.talk (g.R.ReadDevice.remaining l.fn.reader) (g.R.ReadDevice.remaining l.reader)
      (g.W.WriteDevice.contents l.fn.out) (held l.lines) l.talk (g.W.WriteDevice.contents l.out);
  told : l.lines.count.reads ≤ g.R.ReadDevice.reads l.reader;
  flushed : g.W.WriteDevice.waiting l.fn.out ≡ false → g.W.WriteDevice.waiting l.out ≡ false;
}

abbrev pub decreases-loop-line : goal.decreases-loop-line
decreases-loop-line g l = bytes_left l.lines
