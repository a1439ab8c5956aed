use Rattle.press_stream.proofs.LeftLemmas.{left_goes_on}
use Rattle.press_stream.proofs.call_laws.what_is_left.Goals as goal

pub returns : goal.returns
returns c = left_goes_on
