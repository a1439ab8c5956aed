use Rattle.std.proofs.Common.{rules}
use Rattle.press_cmd.specs.RecordsOnce.{the-commands}
use Rattle.press_cmd.proofs.records.Records.new.Goals as goal

pub returns : goal.returns
returns c = search (the-commands, rules, c.new.ensures.items)
