use Rattle.std.proofs.Common.{◌∙◌, sym, ap}
use Rattle.press_stream.specs.State.{JobState, is_exited}
use Rattle.press_stream.proofs.LeftLemmas.{tells_left, tells_before, not_exited}
use Rattle.press_stream.proofs.job.Job.ended.Goals as goal

pub returns-in-Exited-clause-left : goal.returns-in-Exited-clause-left
returns-in-Exited-clause-left c = λ bytes items left.
    tells_left c.args.self.now c.is_idle.result bytes items c.is_idle.ensures.none c.is_idle.ensures.ready
    (ap (λ (job : JobState). job.exited) (sym c.self.view_is) ∙ ap is_exited c.in-Exited.is) left

pub returns-in_default-clause-left : goal.returns-in_default-clause-left
returns-in_default-clause-left c = λ bytes items left.
    tells_before c.args.self.now bytes items (ap (λ (job : JobState). job.exited) (sym c.self.view_is) ∙ not_exited c.self.inside.phase c.in_default.not-Exited) left
