use Rattle.std.proofs.Common.{refl, inr}
use Rattle.press_main.proofs.program.write_help.Goals as goal

pub returns-in_default-clause-refuses : goal.returns-in_default-clause-refuses
returns-in_default-clause-refuses g c = inr (c.report.ensures.status, refl, c.report.ensures.told)
