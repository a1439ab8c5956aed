-- How a session ends, as a relation of the edges before and after, with the status.
use Rattle.std.specs.Prelude.{◌≡◌, ℕ, List, None, true}
use Rattle.press_devices.specs.Telling.{Ended}
use Rattle.press_files.specs.Change.{change}
use Rattle.press_files.specs.Edge.{Edge, Inputs, MakesNothing, fails_of}
use Rattle.press_sessions.specs.Faults.{told_of_session}
use Rattle.press_sessions.specs.Sessions.{Plays, Stops}
use Rattle.press_words.specs.Words.{SessionAsked}

-- A session with a press that is asked for so was played to its end, or stopped, with the files of its messages among the inputs. Without a
-- template no output is made.
abbrev pub Playing : SessionAsked → Inputs → (status : ℕ) (before after : Edge) → Type 0
Playing asked inputs status before after =
    Ended status before.told after.told told_of_session
    (Plays asked inputs.named before.unread after.unread before.written after.written before.made after.made)
    (Stops asked inputs.named (record (fails_of after) { file = ⊥ }) (change before.unread after.unread)
    (change before.written after.written) (change before.made after.made))
    × (asked.template ≡ None → MakesNothing before after)
