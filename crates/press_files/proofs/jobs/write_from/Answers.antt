use Rattle.std.proofs.Common.{arith}
use Rattle.press_units.proofs.ExitLemmas.{exit-is}
use Rattle.press_files.proofs.JobLemmas.{images-cause}
use Rattle.press_files.proofs.jobs.write_from.Goals as goal

pub returns-in_err-images-clause-cause : goal.returns-in_err-images-clause-cause
returns-in_err-images-clause-cause g c = grind (arith, exit-is, images-cause)
