-- A stream that is read piece by piece and explained: what was written of it.
use Rattle.std.specs.Prelude.{◌≡◌, List, ℕ, Option, Result, Ok, Err, true, false}
use Rattle.std.specs.Io.KnownBytes.{Appends, Consumes, IsAtEnd}
use Rattle.press_devices.specs.Writing.{AppendsPrefix}
use Rattle.press_scan.specs.Gives.{IsDone}
use Rattle.press_trace.specs.declared.fault.TraceError.{TraceError}
use Rattle.press_trace.specs.declared.fault.TraceError.TheVariants.{ReadFault, Output, NoMemory}
use Rattle.press_explain.specs.Explained.{ExplainsSome, IsExplanation}
use Rattle.press_explain.specs.Standing.{StandsBehind}
use Rattle.press_explain.specs.declared.explainer.Explainer.{Explainer}

-- The explanation of the pieces behind which it stands was written, and nothing else.
pub record HasExplained (bytes : List ℕ) (old now : Option (List ℕ)) (explainer : Explainer) : Type 0 where
  pub said : List ℕ
  pub stands : StandsBehind bytes said explainer
  pub written : Appends old now said

-- what was written where it stopped, for want of memory or since a write failed
abbrev pub StopsSome : (bytes : List ℕ) (old new : Option (List ℕ)) → TraceError → Type 0
StopsSome bytes old new ReadFault = ⊥
StopsSome bytes old new NoMemory = (text : List ℕ) × ExplainsSome bytes text × Appends old new text
StopsSome bytes old new (Output error) = (text : List ℕ) × ExplainsSome bytes text × AppendsPrefix old new text

-- All commands of the bytes that came were explained; or it stopped. Whatever was written before is before it.
pub record HasWritten (before : Explainer) (was : Option (List ℕ)) (after : Explainer) (now : Option (List ℕ)) : Type 0 where
  pub told : (bytes : List ℕ) (old : Option (List ℕ)) → HasExplained bytes old was before → HasExplained bytes old now after
  pub done : IsDone after.scanner
  pub ended : after.scanner.ended ≡ before.scanner.ended
  pub long : after.length ≡ before.length

abbrev pub WritesHeld : Explainer → Option (List ℕ) → Result (Unit {0}) TraceError → Explainer → Option (List ℕ) → Type 0
WritesHeld before was (Ok _) after now = HasWritten before was after now
WritesHeld before was (Err why) after now = (bytes : List ℕ) (old : Option (List ℕ)) → HasExplained bytes old was before → StopsSome bytes old now why

-- All commands that were left at the end were explained, and the exit; or it stopped.
abbrev pub WritesEnd : Explainer → Option (List ℕ) → Result (Unit {0}) TraceError → Option (List ℕ) → Type 0
WritesEnd before was (Ok _) now = (bytes : List ℕ) (old : Option (List ℕ)) → HasExplained bytes old was before → before.scanner.ended ≡ true
    → (text : List ℕ) × IsExplanation bytes text × Appends old now text
WritesEnd before was (Err why) now = (bytes : List ℕ) (old : Option (List ℕ)) → HasExplained bytes old was before → before.scanner.ended ≡ true
    → StopsSome bytes old now why

-- A reader gave these bytes to its end, and all their whole commands were explained.
pub record ExplainsToEnd (had left old now : Option (List ℕ)) (explainer : Explainer) : Type 0 where
  pub bytes : List ℕ
  pub read : Consumes had left bytes
  pub at_end : IsAtEnd left
  pub told : HasExplained bytes old now explainer
  pub going : explainer.scanner.ended ≡ false
