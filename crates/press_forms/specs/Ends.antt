-- How the other forms of a stream end, and a session with a debugger of it: each as a relation of the edges before and after, with the status.
use Rattle.std.specs.Prelude.{◌≡◌, ◌≢◌, ℕ, List, Option}
use Rattle.press_explain.specs.Explained.{Explained, StopsExplaining}
use Rattle.press_trace.specs.Traced.{TracedBy, StopsTellingBy}
use Rattle.press_trace.specs.declared.line_of.LineOf.{LineOf}
use Rattle.press_trace.specs.declared.line_of.LineOf.TheVariants.{Step}
use Rattle.press_devices.specs.Reading.{ReadFails}
use Rattle.press_devices.specs.Telling.{Ended, Tells, as_line}
use Rattle.press_devices.specs.declared.reading.ReadDevice.{Ghosts as Reads}
use Rattle.press_files.specs.Causes.{making, making_out, writing}
use Rattle.press_files.specs.Change.{Change, change}
use Rattle.press_files.specs.Edge.{Edge, MakesNothing, WritesNothing, fails_of}
use Rattle.press_forms.specs.Assembly.{AssembledInto, AssembledTo, DisassembledTo, StopsAssembling, StopsDisassembling, StopsMaking}
use Rattle.press_forms.specs.Causes.{PageCause, TextCause, TraceCause}
use Rattle.press_forms.specs.Debugging.{Debugs, StopsDebugging}
use Rattle.press_forms.specs.Faults.{told_of_debugger, told_of_page, told_of_text, told_of_trace}
use Rattle.press_forms.specs.Paging.{PagedInto, StopsPaging, TellsEnd}
use Rattle.press_forms.specs.declared.paging.PagingError.{PagingError}

-- A stream was disassembled to standard output, or not. No output is made.
abbrev pub Disassembling : (status : ℕ) (before after : Edge) → Type 0
Disassembling status before after =
    Ended status before.told after.told told_of_text
    (DisassembledTo before.unread after.unread before.written after.written)
    (λ why.
    StopsDisassembling before.unread after.unread before.written after.written why
    × TextCause (writing (fails_of after)) why)
    × MakesNothing before after

-- A stream was explained to standard output, or not. No output is made.
abbrev pub Explaining : (status : ℕ) (before after : Edge) → Type 0
Explaining status before after =
    Ended status before.told after.told told_of_trace
    (Explained before.unread after.unread before.written after.written)
    (λ why.
    StopsExplaining before.unread after.unread before.written after.written why
    × TraceCause (writing (fails_of after)) why)
    × MakesNothing before after

-- A text was assembled into an output of this name, or not. Standard output takes nothing.
abbrev pub Assembling : (name : List ℕ) (status : ℕ) (before after : Edge) → Type 0
Assembling name status before after =
    Ended status before.told after.told told_of_text
    (AssembledInto name before.unread after.unread before.made after.made)
    (λ why.
    StopsMaking name before.unread after.unread before.made after.made why
    × TextCause (making (fails_of after)) why)
    × WritesNothing before after

-- The same text was assembled to standard output, or not. No output is made.
abbrev pub AssemblingOut : (status : ℕ) (before after : Edge) → Type 0
AssemblingOut status before after =
    Ended status before.told after.told told_of_text
    (AssembledTo before.unread after.unread before.written after.written)
    (λ why.
    StopsAssembling before.unread after.unread before.written after.written why
    × TextCause (making_out (fails_of after)) why)
    × MakesNothing before after

-- The trace of a stream was told to its end, or not: a line for each step, or for each run. No output is made.
abbrev pub TracingBy : LineOf → (status : ℕ) (before after : Edge) → Type 0
TracingBy by status before after =
    Ended status before.told after.told told_of_trace
    (TracedBy by before.unread after.unread before.written after.written)
    (λ why.
    StopsTellingBy by before.unread after.unread before.written after.written why
    × TraceCause (writing (fails_of after)) why)
    × MakesNothing before after

-- a line for each step
abbrev pub Tracing : (status : ℕ) (before after : Edge) → Type 0
Tracing = TracingBy Step

-- The page at a step was made an output of this name, and where the stream ends before that step, it was told behind which; or it was not
-- made, and why is what was told. Standard output takes nothing.
pub record Paging (steps : ℕ) (name : List ℕ) (status : ℕ) (before after : Edge) : Type 0 where
  pub done : status ≡ 0
      → (paged : PagedInto steps name before.unread after.unread before.made after.made) × TellsEnd steps paged.1.items before.told after.told
  pub stops : status ≢ 0
      → (status ≡ 1) × (why : PagingError) × Tells before.told after.told (as_line (told_of_page why))
      × StopsPaging steps name before.unread after.unread (change before.made after.made) why × PageCause (making (fails_of after)) why
  pub unwritten : WritesNothing before after

-- What was read of an input: what it had and has left; that it is not read on; and that it may be one that cannot be opened.
pub record InputRead : Type 1 where
  pub bytes : Change (Option (List ℕ))
  pub Failed : Type 0
  pub IsMissing : Type 0

-- that of a reader, by what its type tells of it
abbrev pub read_of : {R : Type 0} → Reads R → (old new : R) → InputRead
read_of r old new = record {
  bytes = change (r.remaining old) (r.remaining new);
  Failed = ReadFails (r.failed new) (r.reads new);
  IsMissing = ⊥;
}

-- A session with a debugger of a stream that was read so came to the end of its lines, or stopped; 304 also where the stream is not read on, or
-- may be one that cannot be opened. No output is made.
abbrev pub Debugging : (stream : InputRead) (status : ℕ) (before after : Edge) → Type 0
Debugging stream status before after =
    Ended status before.told after.told told_of_debugger
    (Debugs stream.bytes.before stream.bytes.after before.unread after.unread before.written after.written)
    (StopsDebugging stream.IsMissing (record (fails_of after) { file = stream.Failed }) stream.bytes
    (change before.unread after.unread) (change before.written after.written))
    × MakesNothing before after
