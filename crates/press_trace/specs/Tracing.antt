-- A stream that is told step by step.
use Rattle.std.specs.Prelude.{◌≡◌, ◌⊎◌, ◌-◌, ◌≤◌, ◌+◌, ℕ, suc, List, [], ◌∷◌, length, Option, None, Some, IsSome, Bool, ◌&&◌, not, is_some, if◌then◌else◌}
use Rattle.press_cmd.specs.Token.{Token}
use Rattle.press_cmd.specs.declared.variant.Kind.{Kind}
use Rattle.press_scan.specs.ScannerState.{ScannerState}
use Rattle.press_bits.specs.Page.{Page}
use Rattle.press_sink.specs.Sending.{Output}
use Rattle.press_engine.specs.declared.machine.Machine.{Machine}
use Rattle.press_engine.specs.Machine.{StepResult}
use Rattle.press_engine.specs.Engine.{view_of}
use Rattle.press_page.specs.declared.media.Orientation.{Orientation}
use Rattle.press_table.specs.PageKept.{kind_may_change_page, kind_transfers_rows, most_dot_lines}
use Rattle.press_stream.specs.State.{opened, with_piece}
use Rattle.press_stream.specs.Answers.{IsIdle}
use Rattle.press_stream.specs.Steps.{Does, PassesRun}
use Rattle.press_trace.specs.declared.place.Place.{Place}
use Rattle.press_trace.specs.declared.seen.Seen.{Seen}
use Rattle.press_trace.specs.declared.tracer.Tracer.{Tracer}
use Rattle.press_trace.specs.declared.line_of.LineOf.{LineOf}
use Rattle.press_trace.specs.declared.line_of.LineOf.TheVariants.{Step, Run}
use Rattle.press_trace.specs.Lines.{IsLine, IsLineOf}
use Rattle.press_trace.specs.Pages.{KeepsRest}
use Rattle.press_trace.specs.Places.{Placed, from_on}
use Rattle.press_trace.specs.declared.touched.Touched.{Touched}
use Rattle.press_trace.specs.declared.touched.Touched.TheVariants.{Nothing, Lines, Whole}

-- No byte of the stream came.
pub record IsAtStart (tracer : Tracer) : Type 0 where
  pub job : tracer.job ≡ opened
  pub nothing : tracer.length ≡ 0
  pub untold : tracer.before ≡ None

-- the most bytes that a stream has: as many reads as there are of one input give them, of 16,384 bytes each
abbrev pub most_bytes : ℕ
most_bytes = 70368744161280

-- with a piece of the stream behind what came
abbrev pub with_more : List ℕ → Tracer → Tracer
with_more piece tracer = record tracer { job = with_piece piece tracer.job; length = tracer.length + length piece }

-- what was kept of a machine: what can be seen of it, and its open page
pub record Keeps (seen : Seen) (page : Option Page) (machine : Machine) : Type 0 where
  pub fields : seen.view ≡ view_of seen.view.stack machine
  pub pushed : seen.pushed.items ≡ machine.state.cursor.stack
  pub shown : page ≡ machine.state.page

abbrev pub IsKept : Option Machine → Option Seen → Option Page → Type 0
IsKept None None page = page ≡ None
IsKept (Some machine) (Some seen) page = Keeps seen page machine
IsKept machine seen page = ⊥

-- the machine that was told last, if one was
abbrev pub told_before : Tracer → Option Machine
told_before tracer = if is_some tracer.before then tracer.job.machine else None

-- What is true between two steps.
pub record IsSound (tracer : Tracer) : Type 0 where
  pub running : IsSome tracer.job.machine
  pub within : length tracer.job.held.bytes ≤ tracer.length
  pub shown : (machine : Machine) → tracer.job.machine ≡ Some machine → tracer.page ≡ machine.state.page
  pub kept : IsKept (told_before tracer) tracer.before tracer.page

-- What a step may have touched: nothing, outside of bodies, by a kind that changes no page; lines of the frame as it lay before, by rows that
-- are transferred; else all.
abbrev pub lines_between : Orientation → (before behind : Option ℕ) → Touched
lines_between orientation (Some first) (Some last) = Lines orientation first (last + most_dot_lines)
lines_between orientation before behind = Whole

abbrev pub touched_by : (outside : Bool) → Kind → Orientation → (before behind : Option ℕ) → Touched
touched_by outside kind orientation before behind =
    if outside && not (kind_may_change_page kind) then Nothing
    else if outside && kind_transfers_rows kind then lines_between orientation before behind else Whole

-- This is the machine behind a step, which may have touched this of the page.
pub record Shows (tracer : Tracer) (touched : Touched) (machine : Machine) : Type 0 where
  pub running : tracer.job.machine ≡ Some machine
  pub keeps : KeepsRest touched tracer.page machine.state.page

-- there is such a machine
abbrev pub ShowsSome : Tracer → Touched → Type 0
ShowsSome tracer touched = (machine : Machine) × Shows tracer touched machine

-- an item, in its place
abbrev pub placed_run : Place → Machine → List Output → Placed
placed_run place machine outputs = record { place = place; run = record { machine = machine; outputs = outputs } }

-- a place of a command of the stream, which began with so many bytes held; or that of the step before
abbrev pub place_if : (outside : Bool) → (long held still : ℕ) → Place → Place
place_if outside long held still place = if outside then from_on (long - held) (held - still) else place

-- Where the command of the stream stands to which a step belongs: a new one, or that of the step before.
abbrev pub place_of : (length : ℕ) → Place → (given : List Token) → (held still : ScannerState) → Place
place_of long place [] held still = place
place_of long place (command ∷ others) held still =
    from_on (long - length held.bytes) (length held.bytes - length still.bytes)

-- A step was taken.
pub record TakesOne (old new : Tracer) : Type 0 where
  pub item : StepResult
  pub kind : Kind
  pub does : Does old.job item kind new.job
  pub place : new.place ≡ place_of old.length old.place does.given old.job.held new.job.held
  pub still : new.length ≡ old.length
  pub told : IsSome new.before

-- A step was taken, and its line was told.
pub record TellsOne (old : Tracer) (line : List ℕ) (new : Tracer) : Type 0 where
  pub one : TakesOne old new
  pub is_line : IsLine (told_before old) (record { place = new.place; run = one.item }) line

-- A run of steps that do no more than count was taken, and the line of the last was told, with how many they are.
pub record TellsRun (old : Tracer) (line : List ℕ) (new : Tracer) : Type 0 where
  pub more : ℕ
  pub passes : PassesRun old.job (suc more) new.job
  pub place : new.place ≡ from_on (old.length - length old.job.held.bytes) (length old.job.held.bytes - length new.job.held.bytes)
  pub still : new.length ≡ old.length
  pub told : IsSome new.before
  pub machine : Machine
  pub ends : new.job.machine ≡ Some machine
  pub is_line : IsLineOf (suc more) (told_before old) (placed_run new.place machine []) line

-- A line was told of a step or of a run; or no step is left of the bytes that came.
abbrev pub Tells : Tracer → Option (List ℕ) → Tracer → Type 0
Tells old None new = IsIdle old.job × (new ≡ old)
Tells old (Some line) new = TellsOne old line new

abbrev pub TellsRunIf : Tracer → Option (List ℕ) → Tracer → Type 0
TellsRunIf old None new = new ≡ old
TellsRunIf old (Some line) new = TellsRun old line new

abbrev pub TellsBy : LineOf → Tracer → Option (List ℕ) → Tracer → Type 0
TellsBy Step old line new = Tells old line new
TellsBy Run old None new = IsIdle old.job × (new ≡ old)
TellsBy Run old (Some line) new = TellsOne old line new ⊎ TellsRun old line new
