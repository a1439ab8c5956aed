-- What is true of every queue is true after it.
use Rattle.std.proofs.Common.{ap, sym, ◌∙◌}
use Rattle.press_queue.specs.Inside.{queue_state}
use Rattle.press_queue.specs.Rows.{next_to_run}
use Rattle.press_queue.specs.State.{QueueState}
use Rattle.press_queue.proofs.RowLemmas.{begun-keeps}
use Rattle.press_queue.proofs.queue.Queue.begin.Goals as goal

pub invariant_of-self : goal.invariant_of-self
invariant_of-self c =
    rw c.replace.ensures
    (begun-keeps (c.in_ok-number.number, c.in_ok-number.entry) (queue_state c.self.inside)
    (sym (c.in_ok-number.ensures ∙ ap (λ (queue : QueueState). next_to_run queue.entries) (sym c.self.view_is))) c.self.invariant)
