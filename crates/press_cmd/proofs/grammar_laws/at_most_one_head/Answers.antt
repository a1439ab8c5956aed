use Rattle.press_cmd.proofs.Heads.{one_head}
use Rattle.press_cmd.proofs.grammar_laws.at_most_one_head.Goals as goal

pub returns : goal.returns
returns c = one_head
