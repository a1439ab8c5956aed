use Rattle.std.proofs.Common.{◌≡◌, ◌++◌, ℕ, List, [], length, false}
use Rattle.press_sink.specs.SinkLog.{under}
use Rattle.press_sink.specs.Sending.{Complete, HandsOut}
use Rattle.press_sink.specs.Kept.{deliveries, replied}
use Rattle.press_stream.specs.Meaning.{CarriesOn}
use Rattle.press_stream.specs.State.{opened}
use Rattle.press_writer.specs.Left.{HasImages, bytes_left}
use Rattle.press_theorem.proofs.TicketLemmas.{told_by}
use Rattle.press_theorem.proofs.tickets.print_job.Given as goal

-- so much of the job was given and fed, and this is left
abbrev pub invariant-loop-piece : goal.invariant-loop-piece
invariant-loop-piece l = record {
  images : HasImages (length l.images) l.writer;
  done : List ℕ;
  left : bytes_left l.fn.writer l.images ≡ done ++ bytes_left l.writer l.images;
  held : l.piece.items ≡ [];
  goes : HandsOut Complete (CarriesOn opened done l.job) (under l.tag (told_by [] []) (told_by (deliveries l.sheets) (replied l.replies)));
  going : l.job.held.ended ≡ false;
}

abbrev pub decreases-loop-piece : goal.decreases-loop-piece
decreases-loop-piece l = length (bytes_left l.writer l.images)
