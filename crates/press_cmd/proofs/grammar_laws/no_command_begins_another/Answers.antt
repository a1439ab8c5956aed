use Rattle.press_cmd.proofs.Heads.{one_whole}
use Rattle.press_cmd.proofs.grammar_laws.no_command_begins_another.Goals as goal

pub returns : goal.returns
returns c = one_whole
