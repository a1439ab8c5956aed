use Rattle.std.proofs.Common.{◌≤◌, sym, subst}
use Rattle.press_cmd.specs.Stored.{longest_command}
use Rattle.press_cmd.specs.View.{token}
use Rattle.press_cmd.proofs.Sound.{sound}
use Rattle.press_cmd.specs.CommandLengths.{sound-fits}
use Rattle.press_cmd.proofs.storing.bytes_count.Goals as goal

pub returns-clause-bound : goal.returns-clause-bound
returns-clause-bound c =
    subst (λ bytes. bytes ≤ longest_command) (sym c.count.ensures) (sound-fits (token c.args.command.now) (sound c.args.command.now))
