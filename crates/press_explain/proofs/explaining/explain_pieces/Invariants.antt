use Rattle.std.proofs.Common.{◌≤◌, ◌-◌, ◌*◌}
use Rattle.press_devices.specs.Reading.{most_reads}
use Rattle.press_explain.specs.Standing.{IsSound}
use Rattle.press_explain.proofs.ReadLemmas.{ExplainsRead}
use Rattle.press_explain.proofs.explaining.explain_pieces.Given as goal

-- the commands of what was read so far were explained, in as many reads as the reader tells, each of at most 16,384 bytes
abbrev pub invariant-loop-length : goal.invariant-loop-length
invariant-loop-length g l = record {
  so_far : ExplainsRead (g.R.ReadDevice.remaining l.fn.reader) (g.R.ReadDevice.remaining l.reader) (g.W.WriteDevice.contents l.fn.out) (g.W.WriteDevice.contents l.out) l.explainer;
  sound : IsSound l.explainer;
  counted : l.count.reads ≤ g.R.ReadDevice.reads l.reader;
  most : l.count.reads ≤ most_reads;
  few : l.explainer.length ≤ 16384 * l.count.reads;
}

abbrev pub decreases-loop-length : goal.decreases-loop-length
decreases-loop-length g l = most_reads - l.count.reads
