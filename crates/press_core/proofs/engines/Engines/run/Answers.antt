use Rattle.std.proofs.Common.{Some, ap, ◌∙◌}
use Rattle.std.specs.Prelude.{slice_set}
use Rattle.press_core.proofs.EngineLemmas.{take-slice_set}
use Rattle.press_core.proofs.engines.Engines.run.Goals as goal

pub returns : goal.returns
returns c =
    take-slice_set c.self.inside.count c.args.engine c.self.inside.running (Some c.args.number)
    ∙ ap (λ es. slice_set es c.args.engine (Some c.args.number)) c.self.view_is
