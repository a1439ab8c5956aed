-- What a view of a queue shows.
use Rattle.press_queue.specs.State.{QueueState}
use Rattle.press_queue.specs.declared.view.QueueView.{QueueView}

abbrev pub shown : QueueView → QueueState
shown view = record { entries = view.entries.now.entries; held = view.held; closed = view.closed; last = view.last }
