use Rattle.press_cmd.proofs.StreamsOf.{of_some_stream}
use Rattle.press_cmd.proofs.grammar_laws.comes_from_a_stream.Goals as goal

pub returns : goal.returns
returns c = of_some_stream c.args.command.now
