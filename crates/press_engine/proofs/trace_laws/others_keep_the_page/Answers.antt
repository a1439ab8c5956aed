use Rattle.press_engine.proofs.StepLaws.{others_keep_the_page}
use Rattle.press_engine.proofs.trace_laws.others_keep_the_page.Goals as goal

pub returns : goal.returns
returns c = others_keep_the_page
