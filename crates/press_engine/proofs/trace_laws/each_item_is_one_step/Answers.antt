use Rattle.press_engine.proofs.StepLaws.{each_item_is_one_step}
use Rattle.press_engine.proofs.trace_laws.each_item_is_one_step.Goals as goal

pub returns : goal.returns
returns c = each_item_is_one_step
