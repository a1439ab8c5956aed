use Rattle.press_cmd.proofs.Splits.{some_split}
use Rattle.press_cmd.proofs.grammar_laws.at_least_one_split.Goals as goal

pub returns : goal.returns
returns c = λ from bytes. let found = some_split from bytes in (found.commands, found.mode, found.rest, found.split)
