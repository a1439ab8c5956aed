-- A command to one entry: what stands under its number then, and what is left of the press.
use Rattle.std.proofs.Common.{◌≡◌, ◌⊎◌, ℕ, nat_eq, cond, true, false, List, arith}
use Rattle.std.proofs.Common.{Option, Some, None, Result, Ok, Err, is_some, sym, ap, ◌∙◌}
use Rattle.std.specs.List.{IsDistinct}
use Rattle.std.specs.Map.{keys_of}
use Rattle.press_queue.specs.declared.command.EntryChange.{EntryChange}
use Rattle.press_queue.specs.declared.command.EntryChange.TheVariants as changes
use Rattle.press_queue.specs.declared.command.EntryCommand.{EntryCommand}
use Rattle.press_queue.specs.declared.entry.Entry.{Entry}
use Rattle.press_queue.specs.declared.refusal.Refusal.{Refusal}
use Rattle.press_queue.specs.Entries.{entry_numbered}
use Rattle.press_queue.specs.Legal.{is_legal}
use Rattle.press_queue.specs.Rows as rows
use Rattle.press_queue.specs.State.{QueueState}
use Rattle.press_queue.specs.Status.{has_ended, is_running}
use Rattle.press_queue.proofs.CommandLemmas.{IsCarriedOut}
use Rattle.press_core.specs.Engines.{RunsOnEngines}
use Rattle.press_core.specs.Inside.{IsSound}
use Rattle.press_core.specs.Work.{Work}
use Rattle.press_core.specs.World.{Consequence, NothingElse, OffEngine, GivenUp, Forgotten, consequence, engines_after, works_after}
use Rattle.press_core.proofs.AbortLemmas.{aborted_entry}
use Rattle.press_core.proofs.EngineLemmas.{on_engines-left, on_engines-stays, runs_in}
use Rattle.press_core.proofs.EntryLemmas.{SetsOne, moved_lookup, removed_lookup, set_lookup}
use Rattle.press_core.proofs.SoundLemmas.{IsSound-gone}
use Rattle.press_core.proofs.WorkLemmas.{StandsFor, changed_entry, ended_entry}

-- ---- what a command makes of an entry

-- what stands under its number; none where it leaves the list
abbrev pub entry_after : EntryChange → Entry → Option Entry
entry_after (changes.Status status) entry = Some (record entry { status = status })
entry_after (changes.Priority priority) entry = Some (record entry { priority = priority })
entry_after (changes.Index index) entry = Some entry
entry_after changes.Removal entry = None

-- Another entry stands for one. Neither has ended, it does not run, and it has begun where that had.
pub record Stands (old new : Entry) : Type 0 where
  pub was : has_ended old.status ≡ false
  pub is : has_ended new.status ≡ false
  pub still : is_running new.status ≡ false
  pub begun : new.begun ≡ old.begun

-- What an entry was, and what it is, where this follows: it did not run where nothing else follows, or where it is forgotten.
abbrev pub Follows : Consequence → Entry → Option Entry → Type 0
Follows NothingElse old (Some new) = Stands old new × (is_running old.status ≡ false)
Follows OffEngine old (Some new) = Stands old new
Follows GivenUp old (Some new) = (new ≡ aborted_entry old) × (has_ended old.status ≡ false)
Follows Forgotten old None = is_running old.status ≡ false
Follows other old now = ⊥

abbrev FollowsMaking : Consequence → Entry → Result EntryChange Refusal → Type 0
FollowsMaking follows entry (Ok change) = Follows follows entry (entry_after change entry)
FollowsMaking follows entry (Err refusal) = Unit {0}

-- so it is of each command
follows : (command : EntryCommand) (queue : QueueState) (entry : Entry) → is_legal command entry.status ≡ true
    → FollowsMaking (consequence command) entry (rows.change_of command queue)
follows command queue entry legal = grind arith

-- ---- a command that was carried out

pub record Became (command : EntryCommand) (number : ℕ) (queue new : QueueState) : Type 0 where
  pub entry : Entry
  pub there : entry_numbered number queue.entries ≡ Some entry
  pub now : Option Entry
  pub set : SetsOne number now queue.entries new.entries
  pub last : new.last ≡ queue.last
  pub follows : Follows (consequence command) entry now

pub became : (command : EntryCommand) (number : ℕ) (queue new : QueueState) → IsDistinct nat_eq (keys_of queue.entries) → IsCarriedOut command number queue new
    → Became command number queue new
became command number queue new distinct it = grind (arith, follows, set_lookup, is_some, moved_lookup, removed_lookup)

-- what stands under another number is what stood there; under this one it may be none
pub fewer : (number n : ℕ) (o p : Option Entry) → p ≡ cond (nat_eq number n) None o → (p ≡ None) ⊎ (p ≡ o)
fewer number n o p is = grind arith

-- ---- what is left of the press

stands_for : (old new : Entry) → Stands old new → StandsFor old new
stands_for old new stands = grind arith

-- entries and their works go together
pub IsSound-commanded : (command : EntryCommand) (number : ℕ) (queue new : QueueState) (works : List (ℕ × Work)) → Became command number queue new → IsSound queue works
    → IsSound new (works_after (consequence command) number new works)
IsSound-commanded command number queue new works it sound = by (consequence command) it.now it.follows it.set
  where
    by : (what : Consequence) (now : Option Entry) → Follows what it.entry now → SetsOne number now queue.entries new.entries
        → IsSound new (works_after what number new works)
    by NothingElse (Some is) f set = changed_entry number it.entry is queue new works it.there (stands_for it.entry is f.0) set sound
    by OffEngine (Some is) f set = changed_entry number it.entry is queue new works it.there (stands_for it.entry is f) set sound
    by GivenUp (Some is) f set = grind (arith, ended_entry number it.entry is queue new works)
    by Forgotten None f set = IsSound-gone queue new works (λ n. fewer number n _ _ (set n)) sound
    by NothingElse None f set = absurd f
    by OffEngine None f set = absurd f
    by GivenUp None f set = absurd f
    by Forgotten (Some is) f set = absurd f

-- those that run are on engines
pub engines-commanded : (command : EntryCommand) (number : ℕ) (queue new : QueueState) (engines : List (Option ℕ)) → Became command number queue new → RunsOnEngines queue engines
    → RunsOnEngines new (engines_after (consequence command) number engines)
engines-commanded command number queue new engines it on = by (consequence command) it.now it.follows it.set
  where
    by : (what : Consequence) (now : Option Entry) → Follows what it.entry now → SetsOne number now queue.entries new.entries
        → RunsOnEngines new (engines_after what number engines)
    by NothingElse (Some is) f set = on_engines-stays number (Some is) queue new engines set (f.0.still ∙ sym (ap runs_in it.there ∙ f.1)) on
    by OffEngine (Some is) f set = on_engines-left number (Some is) queue new engines set f.still on
    by GivenUp (Some is) f set = on_engines-left number (Some is) queue new engines set (ap (λ x. is_running x.status) f.0) on
    by Forgotten None f set = on_engines-stays number None queue new engines set (sym (ap runs_in it.there ∙ f)) on
    by NothingElse None f set = absurd f
    by OffEngine None f set = absurd f
    by GivenUp None f set = absurd f
    by Forgotten (Some is) f set = absurd f
