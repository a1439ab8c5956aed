use Rattle.press_cmd.proofs.Splits.{split-append}
use Rattle.press_cmd.proofs.grammar_laws.cutting.Goals as goal

pub returns : goal.returns
returns c = split-append
