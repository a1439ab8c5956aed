use Rattle.std.proofs.Common.{subst, rules}
use Rattle.std.specs.List.{AllByRecursion}
use Rattle.press_cmd.specs.Stored.{IsSound}
use Rattle.press_cmd.specs.RecordsOnce.{the-commands}
use Rattle.press_cmd.proofs.body.Body.of.Goals as goal

pub returns : goal.returns
returns c = search (the-commands, rules, subst (AllByRecursion IsSound) c.deref.ensures c.are_sound.ensures)
