use Rattle.press_cmd.proofs.ReadBack.{read_back}
use Rattle.press_cmd.proofs.command.write_command.Goals as goal

pub returns-then-is_err-clause-read_back : goal.returns-then-is_err-clause-read_back
returns-then-is_err-clause-read_back c = read_back c.args.command.now

pub returns-else-is_err-clause-read_back : goal.returns-else-is_err-clause-read_back
returns-else-is_err-clause-read_back c = read_back c.args.command.now
