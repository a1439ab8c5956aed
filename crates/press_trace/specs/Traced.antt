-- A stream whose trace was told.
use Rattle.std.specs.Prelude.{◌≡◌, ◌⊎◌, ℕ, List, [], ◌∷◌, ◌++◌, length, Option, None, Some, ⊤}
use Rattle.std.specs.Io.KnownBytes.{Appends, Consumes, IsAtEnd}
use Rattle.press_devices.specs.Writing.{AppendsPrefix}
use Rattle.press_cmd.specs.ParserState.{ParserState, Exit}
use Rattle.press_engine.specs.declared.machine.Machine.{Machine}
use Rattle.press_engine.specs.Machine.{StepResult, power_on}
use Rattle.press_stream.specs.Traced.{IsTraceOf, IsTraceSoFar}
use Rattle.press_trace.specs.declared.fault.TraceError.{TraceError}
use Rattle.press_trace.specs.declared.fault.TraceError.TheVariants.{ReadFault, Output, NoMemory}
use Rattle.press_trace.specs.declared.line_of.LineOf.{LineOf}
use Rattle.press_trace.specs.declared.line_of.LineOf.TheVariants.{Step}
use Rattle.press_trace.specs.Runs.{AreTold, IsNextLine}
use Rattle.press_trace.specs.Places.{Piece, Placed, ArePrefix, IsPlacedSoFar, IsPlacedTrace, placed_from, placed_exit, machine_after, runs_of}

-- The lines of all items of the trace of these bytes, or of their runs, were written, in order, and nothing else.
pub record Traces (by : LineOf) (bytes : List ℕ) (old new : Option (List ℕ)) : Type 0 where
  pub placed : List Placed
  pub text : List ℕ
  pub items : IsTraceOf bytes (runs_of placed)
  pub places : IsPlacedTrace bytes placed
  pub lines : AreTold by placed text
  pub written : Appends old new text

-- The same of a stream that may go on: the lines of all items of the trace so far.
pub record TracesSoFar (by : LineOf) (bytes : List ℕ) (old new : Option (List ℕ)) : Type 0 where
  pub placed : List Placed
  pub text : List ℕ
  pub items : IsTraceSoFar bytes (runs_of placed)
  pub places : IsPlacedSoFar bytes placed
  pub lines : AreTold by placed text
  pub written : Appends old new text

-- These are the first items of the trace of these bytes, with the places of the commands that stand at the front of the bytes.
pub record AreFirst (bytes : List ℕ) (placed : List Placed) : Type 0 where
  pub others : List StepResult
  pub items : IsTraceOf bytes (runs_of placed ++ others)
  pub pieces : List Piece
  pub mode : ParserState
  pub behind : List ℕ
  pub prefix : ArePrefix Exit bytes pieces mode behind
  pub more : List Placed
  pub places : placed_from 0 pieces power_on ++ placed_exit (length bytes) (machine_after pieces power_on) ≡ placed ++ more

-- the machine of the last item, if there is one
abbrev pub last_of : Option Machine → List Placed → Option Machine
last_of before [] = before
last_of before (placed ∷ others) = last_of (Some placed.run.machine) others

-- what was written of the next line: a prefix of it, where a write failed; else nothing
abbrev pub StopsAtLine : LineOf → List ℕ → List Placed → (old new : Option (List ℕ)) → TraceError → Type 0
StopsAtLine by bytes placed old new (Output error) =
    (next : List Placed) × (line : List ℕ) × AreFirst bytes (placed ++ next) × IsNextLine by (last_of None placed) next line
    × AppendsPrefix old new line
StopsAtLine by bytes placed old new NoMemory = new ≡ old
StopsAtLine by bytes placed old new ReadFault = ⊥

-- that a line cannot be written
abbrev pub IsOutput : TraceError → Type 0
IsOutput (Output error) = ⊤
IsOutput NoMemory = ⊥
IsOutput ReadFault = ⊥

-- The lines of the first items were written, and then it stopped, and this is why.
pub record StopsTracing (by : LineOf) (bytes : List ℕ) (old new : Option (List ℕ)) (why : TraceError) : Type 0 where
  pub placed : List Placed
  pub text : List ℕ
  pub between : Option (List ℕ)
  pub first : AreFirst bytes placed
  pub lines : AreTold by placed text
  pub written : Appends old between text
  pub stops : StopsAtLine by bytes placed between new why

-- A reader had a stream, and the lines of its whole trace were written, in order, and nothing else: one for each step, or for each run.
abbrev pub TracedBy : LineOf → (had left old new : Option (List ℕ)) → Type 0
TracedBy by had left old new = (bytes : List ℕ) × Consumes had left bytes × IsAtEnd left × Traces by bytes old new

-- What was written of a stream that was not traced to its end, by the fault: where a read failed, the lines of all items of the bytes
-- before; where memory ran out, those of the first items of the bytes that were read; and where a line cannot be written, those and a
-- prefix of the next; or all lines, of which some do not go out of the program.
abbrev pub StopsTellingBy : LineOf → (had left old new : Option (List ℕ)) → TraceError → Type 0
StopsTellingBy by had left old new ReadFault = (bytes : List ℕ) × Consumes had left bytes × TracesSoFar by bytes old new
StopsTellingBy by had left old new (Output error) =
    ((bytes : List ℕ) × Consumes had left bytes × StopsTracing by bytes old new (Output error)) ⊎ TracedBy by had left old new
StopsTellingBy by had left old new NoMemory = (bytes : List ℕ) × Consumes had left bytes × StopsTracing by bytes old new NoMemory

-- each step has a line
abbrev pub Traced : (had left old new : Option (List ℕ)) → Type 0
Traced = TracedBy Step

abbrev pub StopsTelling : (had left old new : Option (List ℕ)) → TraceError → Type 0
StopsTelling = StopsTellingBy Step
