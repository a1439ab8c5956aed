use Rattle.press_pbm.specs.Spelling.{header_of}
use Rattle.press_devices.proofs.WritesLemmas.{Writes-then, Writes-stopped, OnErr-Writes}
use Rattle.press_pbm.proofs.writing.write_pbm.Goals as goal

pub returns-in_err-write_header-clause-fault : goal.returns-in_err-write_header-clause-fault
returns-in_err-write_header-clause-fault g c = OnErr-Writes _ _ _ _ (Writes-stopped _ _ _ (header_of c.args.bitmap.now) _ c.from_residual.ensures.0 c.in_err-write_header.ensures.written)

pub returns-clause-fault : goal.returns-clause-fault
returns-clause-fault g c = OnErr-Writes _ _ _ _ (Writes-then _ _ _ _ (header_of c.args.bitmap.now) _ c.in_ok-write_header.ensures.written c.write_lines.ensures.written)
