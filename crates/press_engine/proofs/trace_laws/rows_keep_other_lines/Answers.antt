use Rattle.press_engine.proofs.StepLaws.{rows_keep_other_lines}
use Rattle.press_engine.proofs.trace_laws.rows_keep_other_lines.Goals as goal

pub returns : goal.returns
returns c = rows_keep_other_lines
