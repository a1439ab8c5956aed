use Rattle.press_cmd.proofs.Sound.{sound}
use Rattle.press_cmd.proofs.grammar_laws.every_command_is_sound.Goals as goal

pub returns : goal.returns
returns c = sound c.args.command.now
