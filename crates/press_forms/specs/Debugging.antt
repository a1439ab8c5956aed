-- Sessions with a debugger: what each line is answered, and what is written.
use Rattle.std.specs.Prelude.{◌≡◌, ◌⊎◌, ℕ, Bool, false, List, [], ◌∷◌, ◌++◌, Option, Some, None, Result, Ok, Err, IfSome, codes, ⊤}
use Rattle.std.specs.Fmt.{decimal, signed_decimal}
use Rattle.press_cmd.specs.declared.variant.Kind.{Kind}
use Rattle.press_asm.specs.Kinds.{kind_line}
use Rattle.press_engine.specs.declared.view.View.{View}
use Rattle.press_engine.specs.Engine.{view_of}
use Rattle.press_engine.specs.Machine.{StepResult}
use Rattle.press_debug.specs.declared.breakpoints.Break.{Break}
use Rattle.press_debug.specs.declared.breakpoints.Break.TheVariants as break
use Rattle.press_debug.specs.declared.debugger.Stop.{Stop}
use Rattle.press_debug.specs.declared.debugger.Stop.TheVariants.{AtBreak, Stepped, Ended, LimitReached, Failed}
use Rattle.press_debug.specs.declared.fault.BreakError.{BreakError}
use Rattle.press_debug.specs.declared.fault.OpenError.{OpenError}
use Rattle.press_debug.specs.declared.fault.OpenError.TheVariants as opening
use Rattle.press_debug.specs.Breaks.{Sets, Clears, no_breaks, refusal_number}
use Rattle.press_debug.specs.Places.{StandsBehind}
use Rattle.press_debug.specs.Steps.{DebuggerState, at_start}
use Rattle.press_debug.specs.Stops.{ContinuesTo, StopsInto, StopsOver}
use Rattle.press_files.specs.Causes.{Failures, InputCause}
use Rattle.press_files.specs.Change.{Change}
use Rattle.press_files.specs.declared.inputs.InputError.TheVariants as input_fault
use Rattle.press_forms.specs.declared.debugger_lines.DebuggerLine.{DebuggerLine}
use Rattle.press_forms.specs.declared.debugger_lines.DebuggerLine.TheVariants as line
use Rattle.press_forms.specs.declared.debugging.DebugError.{DebugError}
use Rattle.press_forms.specs.declared.debugging.DebugError.TheVariants.{Input, Output, NoMemory}
use Rattle.press_files.specs.Inputs.{ReadWhole}
use Rattle.press_forms.specs.DebuggerLines.{asked_of}
use Rattle.press_files.specs.Talking.{Talking, AnswersAll, AnswersSome, caused, line_by_line}

-- the debugger of a session: where it stands in its stream, and its breakpoints
pub record Seat : Type 0 where
  pub steps : DebuggerState
  pub breaks : List (Option Break)

abbrev pub seat : DebuggerState → List (Option Break) → Seat
seat steps breaks = record { steps = steps; breaks = breaks }

-- before the first step of the stream of these bytes, with no breakpoint
abbrev pub opened : List ℕ → Seat
opened bytes = seat (at_start bytes) no_breaks

-- a line of text
abbrev pub with_feed : List ℕ → List ℕ
with_feed text = text ++ 10 ∷ []

-- the word of a stop
abbrev pub stop_word : Stop → List ℕ
stop_word (AtBreak number) = codes "break " ++ decimal number
stop_word Stepped = codes "stepped"
stop_word Ended = codes "ended"
stop_word LimitReached = codes "limit"
stop_word Failed = codes "failed"

-- The line of a stop: its word, and of what can be seen there the steps, how many bodies run, and the cursor in 1/7200 inch.
abbrev pub stop_text : Stop → View → List ℕ
stop_text stop view =
    stop_word stop ++ (codes " step " ++ (decimal view.step ++ (codes " depth " ++ (decimal view.depth
    ++ (codes " x " ++ (signed_decimal view.x.0 ++ (codes " y " ++ (signed_decimal view.y.0 ++ 10 ∷ []))))))))

abbrev pub refusal_text : BreakError → List ℕ
refusal_text refusal = codes "fault " ++ (decimal (refusal_number refusal) ++ 10 ∷ [])

-- the line of a breakpoint that is set, by its number
abbrev pub set_text : Result ℕ BreakError → List ℕ
set_text (Ok number) = codes "set " ++ (decimal number ++ 10 ∷ [])
set_text (Err refusal) = refusal_text refusal

-- the line of a number that is freed
abbrev pub cleared_text : ℕ → Result (Unit {0}) BreakError → List ℕ
cleared_text number (Ok _) = codes "cleared " ++ (decimal number ++ 10 ∷ [])
cleared_text number (Err refusal) = refusal_text refusal

-- the lines of kinds
abbrev pub kinds_text : List Kind → List ℕ
kinds_text [] = []
kinds_text (kind ∷ kinds) = kind_line kind ++ (10 ∷ kinds_text kinds)

-- Why it stopped, and where: what is shown is what can be seen of the machine; after a fault nothing is said of it.
abbrev pub TellsStop : Stop → DebuggerState → (answer : List ℕ) → Type 0
TellsStop stop now answer =
    (view : View) × (answer ≡ stop_text stop view) × IfSome now.job.machine (λ machine. view ≡ view_of view.stack machine)

-- a watch that nothing meets
abbrev pub NeverMet : View → Bool → Type 0
NeverMet view met = met ≡ false

abbrev pub IsQuiet : (View → Bool → Type 0) → Type 0
IsQuiet watches = (view : View) (met : Bool) → watches view met → NeverMet view met

-- What is answered to what a line asks.
abbrev pub DoesAsked : DebuggerLine → (old : Seat) → (answer : List ℕ) → (new : Seat) → Type 0
DoesAsked line.Step old answer new =
    (stop : Stop) × StopsInto old.steps stop new.steps × TellsStop stop new.steps answer × (new.breaks ≡ old.breaks)
DoesAsked line.Over old answer new =
    (stop : Stop) × StopsOver old.steps stop new.steps × TellsStop stop new.steps answer × (new.breaks ≡ old.breaks)
DoesAsked (line.Go most) old answer new =
    (stop : Stop) × ContinuesTo NeverMet old.breaks old.steps most stop new.steps × TellsStop stop new.steps answer × (new.breaks ≡ old.breaks)
DoesAsked (line.Break kind) old answer new =
    (set : Result ℕ BreakError) × Sets old.breaks (break.Kind kind) set new.breaks × (answer ≡ set_text set) × (new.steps ≡ old.steps)
DoesAsked (line.Clear number) old answer new =
    (cleared : Result (Unit {0}) BreakError) × Clears old.breaks number cleared new.breaks × (answer ≡ cleared_text number cleared) × (new.steps ≡ old.steps)
DoesAsked line.Recent old answer new = (answer ≡ kinds_text old.steps.recent) × (new ≡ old)

-- The same of a line; one that asks nothing is answered so.
abbrev pub DoesLine : Option DebuggerLine → (old : Seat) → (answer : List ℕ) → (new : Seat) → Type 0
DoesLine None old answer new = (answer ≡ with_feed (codes "what?")) × (new ≡ old)
DoesLine (Some asked) old answer new = DoesAsked asked old answer new

-- It stands behind the first items of the trace of these bytes at its end; or it failed.
abbrev pub StandsIn : List ℕ → DebuggerState → Type 0
StandsIn bytes now = ((items : List StepResult) × StandsBehind bytes items now) ⊎ (now.job.machine ≡ None)

-- A line was answered, and behind it the debugger stands in the trace of these bytes.
abbrev pub AnswersLine : (bytes : List ℕ) → (old : Seat) → (line answer : List ℕ) → (new : Seat) → Type 0
AnswersLine bytes old line answer new = DoesLine (asked_of line) old answer new × StandsIn bytes new.steps

-- The talk of a debugger of the stream of these bytes.
abbrev pub debugging : (bytes : List ℕ) → Talking Seat DebugError
debugging bytes =
    line_by_line (AnswersLine bytes) (λ at line why ended. why ≡ NoMemory) (λ error why. why ≡ Input error) (λ error why. why ≡ Output error)

-- The stream that an input had was debugged, by all lines that a reader had.
abbrev pub Debugs : (stream rest had left old new : Option (List ℕ)) → Type 0
Debugs stream rest had left old new = (bytes : List ℕ) × ReadWhole stream rest bytes × AnswersAll (debugging bytes) (opened bytes) had left old new

-- why a stream was not opened, as it is told
abbrev pub unopened : OpenError → DebugError
unopened opening.ReadFault = Input input_fault.ReadFault
unopened opening.NoMemory = NoMemory

-- Why no debugger was opened. 304: the stream may be one that cannot be opened; or it is not read on. Else memory ran out.
abbrev pub IsUnopened : (missing Fails : Type 0) → DebugError → Type 0
IsUnopened missing Fails (Input input_fault.ReadFault) = missing ⊎ Fails
IsUnopened missing Fails (Input input_fault.NoMemory) = ⊤
IsUnopened missing Fails NoMemory = ⊤
IsUnopened missing Fails (Output error) = ⊥

-- The same talk over devices of which these failed: no line is read where their reader is not read on, and an answer is not written where
-- the writer failed.
abbrev pub debugging_over : (bytes : List ℕ) → Failures → Talking Seat DebugError
debugging_over bytes fails = caused (debugging bytes) (InputCause fails.input) fails.output

-- It stopped early, and this is why: no debugger was opened, and no line was read; or one line was not answered, or not read.
abbrev pub StopsDebugging : (missing : Type 0) → Failures → (stream read output : Change (Option (List ℕ))) → DebugError → Type 0
StopsDebugging missing fails stream read output why =
    (IsUnopened missing fails.file why × (read.after ≡ read.before) × (output.after ≡ output.before))
    ⊎ ((bytes : List ℕ) × ReadWhole stream.before stream.after bytes
    × AnswersSome (debugging_over bytes fails) (opened bytes) read.before read.after output why)
