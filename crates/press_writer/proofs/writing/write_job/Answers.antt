use Rattle.std.proofs.Common.{subst}
use Rattle.press_devices.specs.Writing.{Writes}
use Rattle.press_devices.proofs.WritesLemmas.{OnErr-Writes}
use Rattle.press_writer.proofs.PartLemmas.{OnOk-Writes}
use Rattle.press_writer.proofs.writing.write_job.Goals as goal

pub returns-clause-ok : goal.returns-clause-ok
returns-clause-ok g c = OnOk-Writes _ _ _ _ (subst (Writes _ _ _) c.in_ok-writer.ensures.bytes c.write_pieces.ensures.written)

pub returns-clause-err : goal.returns-clause-err
returns-clause-err g c = OnErr-Writes _ _ _ _ (subst (Writes _ _ _) c.in_ok-writer.ensures.bytes c.write_pieces.ensures.written)
