use Rattle.std.proofs.Common.{◌≡◌, drop}
use Rattle.clap.specs.Words.{app_of}
use Rattle.press_words.specs.Words.{press_app, subcommands, with_subcommands}
use Rattle.press_words.proofs.words.command.Given as goal

-- with those that are left it is the whole command line
abbrev pub invariant-loop-subcommand : goal.invariant-loop-subcommand
invariant-loop-subcommand l = with_subcommands (app_of l.command) (drop l.subcommand-index subcommands) ≡ press_app
