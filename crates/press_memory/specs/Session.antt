-- What the program writes in a session, over lines in memory, as the clause of `press_lines` says it.
use Rattle.std.specs.Prelude.{◌≡◌, ◌⊎◌, ℕ, false, List, [], Some, None, ⊤}
use Rattle.press_devices.specs.Reading.{SomeFails}
use Rattle.press_devices.specs.Watching.{has_failed, reads_of}
use Rattle.press_devices.specs.declared.watched.Watched.{Watched}
use Rattle.press_files.specs.Edge.{Edge, Inputs}
use Rattle.press_files.specs.NamedInputs.{named}
use Rattle.press_sessions.specs.Ends.{Playing}
use Rattle.press_words.specs.Words.{SessionAsked}
use Rattle.press_memory.specs.declared.memory_files.MemoryReader.{MemoryReader}
use Rattle.press_memory.specs.Faults.{no_memory, Tells}

-- Files of which it is not known what they have, and which there are.
abbrev pub unknown_files : Inputs
unknown_files = record {
  named = named (SomeFails {R = Watched MemoryReader} has_failed reads_of) (λ _. None) (λ _. ⊤);
  present = λ _. ⊤;
}

-- What is asked of a session with a press of so many engines: no files, no sums, and to stop at a line that is wrong.
abbrev pub session_asked : (engines : ℕ) → SessionAsked
session_asked engines = record { engines = engines; template = None; sums = false; goes_on = false }

-- A session with a press of so many engines, by these lines, is played to its end, or stops. Nothing is made.
pub record PlayedSession (engines : ℕ) (lines : List ℕ) (fault : ℕ) (written : List ℕ) : Type 0 where
  pub status : ℕ
  pub before : Edge
  pub after : Edge
  pub had : before.unread ≡ Some lines
  pub empty : before.written ≡ Some []
  pub none : before.made ≡ Some []
  pub wrote : after.written ≡ Some written
  pub tells : Tells status fault
  pub plays : Playing (session_asked engines) unknown_files status before after

-- The same; or memory ran out for the files, and nothing is written.
abbrev pub SessionOf : (engines : ℕ) (lines : List ℕ) (fault : ℕ) (written : List ℕ) → Type 0
SessionOf engines lines fault written =
    PlayedSession engines lines fault written ⊎ ((fault ≡ no_memory) × (written ≡ []))
