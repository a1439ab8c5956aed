use Rattle.std.proofs.Common.{◌∙◌, rules}
use Rattle.press_cmd.specs.RecordsOnce.{the-commands}
use Rattle.press_cmd.proofs.records.Records.copy.Goals as goal

pub returns : goal.returns
returns c =
    let spelled = c.in_ok-bytes.ensures.items ∙ c.as_slice.ensures.value ∙ c.self.inside.records.spelled in
    search (the-commands, rules, spelled, c.self.inside.records.sound) ∙ c.self.view_is
