-- What a queue holds.
use Rattle.press_queue.specs.declared.queue.Queue.TheInside.{Inside}
use Rattle.press_queue.specs.State.{QueueState}

abbrev pub queue_state : Inside → QueueState
queue_state q = record { entries = q.entries.entries; held = q.held; closed = q.closed; last = q.last }
