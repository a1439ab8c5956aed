use Rattle.press_core.proofs.PressLemmas.{IsPress-commanded, IsPress-refused}
use Rattle.press_core.proofs.press.Press.command_entry.Goals as goal

pub invariant_of-self : goal.invariant_of-self
invariant_of-self c =
    IsPress-refused c.args.command c.args.number c.self.inside.queue c.command.new.self c.self.inside.works.entries c.self.inside.engines _
    c.in_err-command.ensures.row c.self.invariant

pub invariant_of-self-2 : goal.invariant_of-self-2
invariant_of-self-2 c =
    rw (c.follow.ensures.works, c.follow.ensures.engines)
    (IsPress-commanded c.args.command c.args.number c.self.inside.queue c.command.new.self c.self.inside.works.entries c.self.inside.engines
    c.command.ensures.bounds.distinct c.in_ok-command.ensures.row c.self.invariant)
