use Rattle.std.proofs.Common.{◌∙◌, ◌+◌, refl, sym, ap, drop}
use Rattle.std.proofs.lemmas.List.{at_drop_more}
use Rattle.clap.specs.Words.{app_of}
use Rattle.press_words.specs.Words.{subcommands, with_subcommands}
use Rattle.press_words.specs.declared.subcommands.Subcommand.TheVariants.{Print}
use Rattle.press_words.proofs.WordsLemmas.{subcommand_added}
use Rattle.press_words.proofs.words.command.Goals as goal

pub loop-subcommand-preserved : goal.loop-subcommand-preserved
loop-subcommand-preserved c =
    let left = drop (c.loop-subcommand.subcommand-index + 1) subcommands in
    ap (λ app. with_subcommands app left) (subcommand_added _ _ _ _ _ c.in_ok-command.ensures c.in_ok-command_of.ensures.local refl c.in_ok-command_of.ensures.app)
    ∙ sym (at_drop_more (with_subcommands (app_of c.loop-subcommand.command)) subcommands c.loop-subcommand.subcommand-index Print c.loop-subcommand-test.true)
    ∙ c.loop-subcommand.invariant
