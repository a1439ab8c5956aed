-- A command to one entry that was carried out, and one that was refused.
use Rattle.std.proofs.Common.{◌≡◌, ℕ, true, Some, Ok, Err, arith}
use Rattle.press_queue.specs.declared.command.EntryChange.{EntryChange}
use Rattle.press_queue.specs.declared.command.EntryCommand.{EntryCommand}
use Rattle.press_queue.specs.declared.entry.Entry.{Entry}
use Rattle.press_queue.specs.Entries.{changed, entry_numbered}
use Rattle.press_queue.specs.Legal.{is_legal}
use Rattle.press_queue.specs.Rows as rows
use Rattle.press_queue.specs.State.{QueueState}

-- The entry that it names, at which it is legal, and what it made of that.
pub record IsCarriedOut (command : EntryCommand) (number : ℕ) (queue new : QueueState) : Type 0 where
  pub entry : Entry
  pub there : entry_numbered number queue.entries ≡ Some entry
  pub legal : is_legal command entry.status ≡ true
  pub change : EntryChange
  pub makes : rows.change_of command queue ≡ Ok change
  pub is : new ≡ rows.with_entries (changed change number entry queue.entries) queue

-- by what a command answers
abbrev pub Commanded : EntryCommand → ℕ → QueueState → rows.QueueAnswer (Unit {0}) → Type 0
Commanded command number queue (new, Ok done) = IsCarriedOut command number queue new
Commanded command number queue (new, Err refusal) = new ≡ queue

pub commanded_is : (command : EntryCommand) (number : ℕ) (queue : QueueState) → Commanded command number queue (rows.commanded command number queue)
commanded_is command number queue = grind arith
