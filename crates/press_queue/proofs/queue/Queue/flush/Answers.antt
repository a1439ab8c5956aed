-- What is true of every queue is true after it.
use Rattle.press_queue.specs.Inside.{queue_state}
use Rattle.press_queue.proofs.RowLemmas.{flush-keeps}
use Rattle.press_queue.proofs.queue.Queue.flush.Goals as goal

pub invariant_of-self : goal.invariant_of-self
invariant_of-self c = rw c.keep_running.ensures (flush-keeps (queue_state c.self.inside) c.self.invariant)
