use Rattle.std.proofs.Common.{◌≡◌, ◌++◌, List, ℕ, length}
use Rattle.std.specs.Io.KnownBytes.{Appends}
use Rattle.press_writer.specs.Left.{HasImages, bytes_left}
use Rattle.press_writer.proofs.writing.write_pieces.Given as goal

-- so much of the job was written, so much is held, and this is left
abbrev pub invariant-loop-held : goal.invariant-loop-held
invariant-loop-held g l = record {
  images : HasImages (length l.images) l.writer;
  done : List ℕ;
  left : bytes_left l.fn.writer l.images ≡ done ++ (l.held.items ++ bytes_left l.writer l.images);
  wrote : Appends (g.W.WriteDevice.contents l.fn.output) (g.W.WriteDevice.contents l.output) done;
}

abbrev pub decreases-loop-held : goal.decreases-loop-held
decreases-loop-held g l = length (bytes_left l.writer l.images)
