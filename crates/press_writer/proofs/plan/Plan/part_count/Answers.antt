use Rattle.std.proofs.Common.{◌+◌, ◌*◌, ap, ◌∙◌, sym}
use Rattle.press_writer.specs.Plan.{plan_runs}
use Rattle.press_writer.proofs.PlanLemmas.{length-parts}
use Rattle.press_writer.proofs.plan.Plan.part_count.Goals as goal

pub returns : goal.returns
returns c = ap (λ n. 2 * n + 2) c.run_count.ensures.count ∙ sym (length-parts (plan_runs c.args.self.now))
