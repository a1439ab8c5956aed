use Rattle.std.proofs.Common.{◌∙◌, ap, drop, rules}
use Rattle.press_cmd.specs.Records.{encoded}
use Rattle.press_cmd.specs.RecordsOnce.{the-commands}
use Rattle.press_cmd.proofs.body.Body.copy.Goals as goal

pub returns : goal.returns
returns c =
    let left = c.self.inside.left in
    let spelled = ap (λ all. drop c.self.inside.place (encoded all)) c.in_ok-clone.ensures.cases ∙ left.spelled in
    search (the-commands, rules, spelled, left.sound) ∙ c.self.view_is
