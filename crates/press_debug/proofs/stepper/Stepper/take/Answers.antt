use Rattle.press_debug.proofs.Taking.{IsSound-ran, takes_one, takes_none, outside_none}
use Rattle.press_debug.proofs.stepper.Stepper.take.Goals as goal

pub invariant_of-self : goal.invariant_of-self
invariant_of-self c =
    rw c.reuse.ensures (IsSound-ran c.self.inside.job c.take_step.new.self c.in-Ok-Ran.field-0 c.in-Ok-Ran.step c.self.inside.recent c.push_back.new.self c.self.inside.failed c.self.invariant
    c.in-Ok-Ran.field-0-is c.in-Ok-Ran.ensures.takes c.push_back.ensures.items)

pub returns-in-Ok-Ran-clause-takes : goal.returns-in-Ok-Ran-clause-takes
returns-in-Ok-Ran-clause-takes c =
    rw c.reuse.ensures (takes_one c.what_is_left.ensures c.self.inside.job c.take_step.new.self c.in-Ok-Ran.field-0 c.in-Ok-Ran.step c.self.inside.recent c.push_back.new.self c.args.self.now
    c.self.view_is c.self.invariant.capacity c.in-Ok-Ran.field-0-is c.in-Ok-Ran.ensures.takes c.push_back.ensures.items)

pub returns-in-Ok-Ended-clause-none : goal.returns-in-Ok-Ended-clause-none
returns-in-Ok-Ended-clause-none c = λ _.
    takes_none c.self.inside.job c.take_step.new.self c.in-Ok-Ended.field-0 c.self.inside.recent c.args.self.now c.self.view_is c.self.invariant.few
    c.in-Ok-Ended.field-0-is c.in-Ok-Ended.ensures.takes

pub returns-in-Ok-Ended-clause-outside : goal.returns-in-Ok-Ended-clause-outside
returns-in-Ok-Ended-clause-outside c = λ _.
    outside_none c.what_is_left.ensures c.self.inside.job c.take_step.new.self c.in-Ok-Ended.field-0 c.self.invariant.outside
    c.in-Ok-Ended.field-0-is c.in-Ok-Ended.ensures.takes
