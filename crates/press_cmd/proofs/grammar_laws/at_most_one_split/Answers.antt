use Rattle.press_cmd.proofs.Splits.{one_split}
use Rattle.press_cmd.proofs.grammar_laws.at_most_one_split.Goals as goal

pub returns : goal.returns
returns c = one_split
