-- The law of queues, as a statement: what is true of every queue stays true.
use Rattle.std.specs.Prelude.{ℕ, ℤ}
use Rattle.press_queue.specs.declared.command.EntryCommand.{EntryCommand}
use Rattle.press_queue.specs.declared.status.End.{End}
use Rattle.press_queue.specs.EveryQueue.{IsQueue}
use Rattle.press_queue.specs.Rows as rows
use Rattle.press_queue.specs.State.{QueueState, empty_queue}

-- it stays true
abbrev pub Keeps : (QueueState → QueueState) → Type 0
Keeps row = (queue : QueueState) → IsQueue queue → IsQueue (row queue)

-- It is true of a new queue, and each row keeps it.
pub record EachRowKeepsTheQueue : Type 0 where
  pub new : IsQueue empty_queue
  pub submit : (priority : ℤ) → Keeps (λ queue. (rows.submit priority queue).0)
  pub command : (command : EntryCommand) (number : ℕ) → Keeps (λ queue. (rows.commanded command number queue).0)
  pub hold : (number : ℕ) → Keeps (λ queue. (rows.hold number queue).0)
  pub resume : (number : ℕ) → Keeps (λ queue. (rows.resume number queue).0)
  pub suspend : (number : ℕ) → Keeps (λ queue. (rows.suspend number queue).0)
  pub abort : (number : ℕ) → Keeps (λ queue. (rows.abort number queue).0)
  pub remove : (number : ℕ) → Keeps (λ queue. (rows.remove number queue).0)
  pub set_priority : (number : ℕ) (priority : ℤ) → Keeps (λ queue. (rows.set_priority number priority queue).0)
  pub set_position : (number : ℕ) (position : ℤ) → Keeps (λ queue. (rows.set_position number position queue).0)
  pub hold_queue : Keeps rows.hold_queue
  pub resume_queue : Keeps rows.resume_queue
  pub open_queue : Keeps rows.open_queue
  pub close_queue : Keeps rows.close_queue
  pub flush : Keeps rows.flush
  pub begin : Keeps (λ queue. (rows.begin queue).0)
  pub finish : (number : ℕ) (end : End) → Keeps (rows.finish_entry number end)
