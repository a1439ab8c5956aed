use Rattle.press_stream.proofs.MeaningLaws.{each_has_one_meaning}
use Rattle.press_stream.proofs.call_laws.each_has_one_meaning.Goals as goal

pub returns : goal.returns
returns c = each_has_one_meaning
