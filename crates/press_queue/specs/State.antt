-- The state of the queue.
use Rattle.std.specs.Prelude.{ℕ, Bool, false, List, []}
use Rattle.press_queue.specs.declared.entry.Entry.{Entry}

-- Its entries under their numbers, in order; whether no entry begins; whether it takes no new entries; and the last number
-- that it gave, 0 if none.
pub record QueueState : Type 0 where
  pub entries : List (ℕ × Entry)
  pub held : Bool
  pub closed : Bool
  pub last : ℕ

-- a new queue
abbrev pub empty_queue : QueueState
empty_queue = record { entries = []; held = false; closed = false; last = 0 }
