-- The next number is free, and what is true of every queue is true after it.
use Rattle.std.proofs.Common.{◌<◌, ◌+◌, arith, length, subst, sym}
use Rattle.press_queue.specs.Inside.{queue_state}
use Rattle.press_queue.specs.Rows.{most_entries}
use Rattle.press_queue.specs.State.{QueueState}
use Rattle.press_queue.proofs.NumberLemmas.{absent_above}
use Rattle.press_queue.proofs.RowLemmas.{submitted-keeps}
use Rattle.press_queue.proofs.queue.Queue.submit.Goals as goal

pub put-requires : goal.put-requires
put-requires c = absent_above c.self.inside.last (c.self.inside.last + 1) c.self.inside.entries.entries (omega arith) c.self.invariant.given

pub invariant_of-self-2 : goal.invariant_of-self-2
invariant_of-self-2 c =
    rw (c.in_ok-put.ensures.ok, c.waiting.ensures) (submitted-keeps c.in_ok-priority.priority (queue_state c.self.inside)
    (subst (λ (queue : QueueState). length queue.entries < most_entries) (sym c.self.view_is) c.in_ok-priority.ensures.room)
    c.self.invariant)

pub returns-clause-fresh : goal.returns-clause-fresh
returns-clause-fresh c =
    rw (← c.self.view_is) (absent_above c.self.inside.last (c.self.inside.last + 1) c.self.inside.entries.entries (omega arith) c.self.invariant.given)
