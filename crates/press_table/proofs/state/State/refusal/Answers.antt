use Rattle.std.proofs.Common.{arith}
use Rattle.press_cmd.specs.View.{token}
use Rattle.press_table.proofs.RefusalLaws.{refused_nothing}
use Rattle.press_table.proofs.state.State.refusal.Goals as goal

pub returns-clause-nothing : goal.returns-clause-nothing
returns-clause-nothing c = refused_nothing c.refusal.result c.args.source (token c.args.command.now) c.args.self.now (grind arith)
