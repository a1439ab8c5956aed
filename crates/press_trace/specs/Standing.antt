-- Where a stream stands that is traced as its pieces come, and what was written of it.
use Rattle.std.specs.Prelude.{◌≡◌, ℕ, List, [], ◌++◌, length, Bool, true, false, Option, Some, None, Result, Ok, Err, if◌then◌else◌}
use Rattle.std.specs.Io.KnownBytes.{Appends, Consumes, IsAtEnd}
use Rattle.press_cmd.specs.Token.{Token}
use Rattle.press_cmd.specs.ParserState.{Exit}
use Rattle.press_cmd.specs.Split.{ClosedFrom}
use Rattle.press_engine.specs.declared.machine.Machine.{Machine}
use Rattle.press_engine.specs.Machine.{power_on}
use Rattle.press_engine.specs.Stack.{continuation}
use Rattle.press_engine.specs.Trace.{last_machine}
use Rattle.press_stream.specs.Answers.{IsIdle}
use Rattle.press_stream.specs.State.{NeedsInput}
use Rattle.press_trace.specs.declared.fault.TraceError.{TraceError}
use Rattle.press_trace.specs.declared.tracer.Tracer.{Tracer}
use Rattle.press_trace.specs.declared.line_of.LineOf.{LineOf}
use Rattle.press_trace.specs.Runs.{AreTold}
use Rattle.press_trace.specs.Places.{Piece, Placed, ArePrefix, AreWhole, commands_of, machine_after, placed_at, placed_exit, placed_from, runs_of}
use Rattle.press_trace.specs.Traced.{StopsTracing, last_of}
use Rattle.press_trace.specs.Tracing.{IsSound, told_before}

-- the items of the exit, once it was taken
abbrev pub exit_if : (exited : Bool) → (at : ℕ) → Machine → List Placed
exit_if exited at machine = if exited then placed_exit at machine else []

-- the items of the pieces that were taken
abbrev pub taken_so_far : (exited : Bool) → (long : ℕ) → List Piece → List Placed
taken_so_far exited long pieces = placed_from 0 pieces power_on ++ exit_if exited long (machine_after pieces power_on)

-- It stands behind these items of a stream of which these bytes came: they are those of the pieces that were taken, but for what bodies
-- still owe. What closes what is held closes the bytes behind the commands of the pieces; before the end each piece is a whole command.
pub record TracerStandsBehind (bytes : List ℕ) (placed : List Placed) (now : Tracer) : Type 0 where
  pub pieces : List Piece
  pub prefix : ArePrefix Exit bytes pieces now.job.held.mode now.job.held.bytes
  pub closes : (commands : List Token) → ClosedFrom now.job.held.mode now.job.held.bytes commands → ClosedFrom Exit bytes (commands_of pieces ++ commands)
  pub whole : now.job.held.ended ≡ false → AreWhole Exit bytes pieces now.job.held.mode now.job.held.bytes
  pub inside : now.job.held.ended ≡ false → now.job.exited ≡ false
  pub over : now.job.exited ≡ true → now.job.held.bytes ≡ []
  pub machine : Machine
  pub running : now.job.machine ≡ Some machine
  pub state : machine ≡ last_machine power_on (runs_of placed)
  pub are : taken_so_far now.job.exited (length bytes) pieces ≡ placed ++ placed_at now.place (continuation now.job.bodies machine)
  pub told : told_before now ≡ last_of None placed
  pub long : now.length ≡ length bytes

-- The lines of the items behind which it stands, or of their runs, were written, and nothing else.
pub record HasTold (by : LineOf) (bytes : List ℕ) (old now : Option (List ℕ)) (tracer : Tracer) : Type 0 where
  pub placed : List Placed
  pub text : List ℕ
  pub behind : TracerStandsBehind bytes placed tracer
  pub sound : IsSound tracer
  pub lines : AreTold by placed text
  pub written : Appends old now text

-- The lines of all steps of the bytes that came were written; or it stopped. Whatever was written before is before it.
pub record Further (by : LineOf) (before : Tracer) (was : Option (List ℕ)) (after : Tracer) (now : Option (List ℕ)) : Type 0 where
  pub told : (bytes : List ℕ) (old : Option (List ℕ)) → HasTold by bytes old was before → HasTold by bytes old now after
  pub idle : IsIdle after.job
  pub going : after.job.held.ended ≡ before.job.held.ended
  pub long : after.length ≡ before.length

abbrev pub TellsFurther : LineOf → Tracer → Option (List ℕ) → Result (Unit {0}) TraceError → Tracer → Option (List ℕ) → Type 0
TellsFurther by before was (Ok _) after now = Further by before was after now
TellsFurther by before was (Err why) after now = (bytes : List ℕ) (old : Option (List ℕ)) → HasTold by bytes old was before → StopsTracing by bytes old now why

-- A reader gave these bytes, the lines of all their steps were written, and more bytes may come.
pub record TellsRead (by : LineOf) (had left old now : Option (List ℕ)) (tracer : Tracer) : Type 0 where
  pub bytes : List ℕ
  pub read : Consumes had left bytes
  pub told : HasTold by bytes old now tracer
  pub hungry : NeedsInput tracer.job

-- the same of a reader that was read to its end
abbrev pub TellsToEnd : LineOf → (had left old now : Option (List ℕ)) → Tracer → Type 0
TellsToEnd by had left old now tracer = TellsRead by had left old now tracer × IsAtEnd left
