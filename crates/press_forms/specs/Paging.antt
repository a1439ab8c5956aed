-- The page that is open at a step of a stream, made an output.
use Rattle.std.specs.Prelude.{◌≡◌, ◌≤◌, ◌<◌, ⊤, ℕ, List, [], ◌∷◌, ◌++◌, Option, Some, Result, Ok, Err, codes, length, take}
use Rattle.std.specs.Fmt.{decimal}
use Rattle.std.specs.Io.KnownBytes.{Appends}
use Rattle.press_bits.specs.Page.{Page}
use Rattle.press_pbm.specs.Spelling.{file_of}
use Rattle.press_sink.specs.Outputs.{MadeOutput, MakesPrefix, holding, with_outputs}
use Rattle.press_table.specs.Closing.{page_now}
use Rattle.press_engine.specs.Machine.{StepResult, power_on}
use Rattle.press_engine.specs.Trace.{last_machine}
use Rattle.press_stream.specs.Traced.{IsTraceOf}
use Rattle.press_debug.specs.Steps.{DebuggerState}
use Rattle.press_debug.specs.declared.fault.OpenError.{OpenError}
use Rattle.press_debug.specs.declared.fault.OpenError.TheVariants as opening
use Rattle.press_files.specs.Causes.{InputCause}
use Rattle.press_files.specs.declared.inputs.InputError.TheVariants as inputs
use Rattle.press_files.specs.Change.{Change}
use Rattle.press_files.specs.Inputs.{ReadWhole}
use Rattle.press_forms.specs.declared.paging.PagingError.{PagingError}
use Rattle.press_forms.specs.declared.paging.PagingError.TheVariants.{Input, WriteFault, NoMemory}

-- The page that is open behind so many items of a trace, or behind all of them where there are fewer: blank where no mark was made.
abbrev pub page_behind : (steps : ℕ) → List StepResult → Page
page_behind steps items = page_now (last_machine power_on (take steps items)).state

-- What a reader had is a stream, and this page is open behind so many items of its trace.
pub record HasPage (steps : ℕ) (had left : Option (List ℕ)) (page : Page) : Type 0 where
  pub bytes : List ℕ
  pub read : ReadWhole had left bytes
  pub items : List StepResult
  pub trace : IsTraceOf bytes items
  pub open_page : page ≡ page_behind steps items

-- An output of this name was made, the P4 file of the page that is open behind so many steps of the stream of a reader.
abbrev pub PagedInto : (steps : ℕ) (name : List ℕ) (had left : Option (List ℕ)) (before after : Option (List MadeOutput)) → Type 0
PagedInto steps name had left before after =
    (page : Page) × HasPage steps had left page × (after ≡ with_outputs (holding name (file_of page) ∷ []) before)

-- What was made where no page was, by the fault: a prefix of its output, where that cannot be made or written; else nothing.
abbrev pub StopsPaging : (steps : ℕ) (name : List ℕ) (had left : Option (List ℕ)) (made : Change (Option (List MadeOutput))) → PagingError → Type 0
StopsPaging steps name had left made WriteFault =
    (page : Page) × HasPage steps had left page × MakesPrefix (holding name (file_of page) ∷ []) made.before made.after
StopsPaging steps name had left made (Input why) = made.after ≡ made.before
StopsPaging steps name had left made NoMemory = made.after ≡ made.before

-- So many items were taken of a trace, of as many as were asked for: all that it has, where those are fewer.
pub record AreTaken (steps : ℕ) (items : List StepResult) (taken : ℕ) : Type 0 where
  pub few : taken ≤ steps
  pub within : taken ≤ length items
  pub all : taken < steps → taken ≡ length items

-- An output was made of the page behind so many steps, and so many items of the trace were taken.
abbrev pub PagedBehind : (steps : ℕ) (name : List ℕ) (had left : Option (List ℕ)) (before after : Option (List MadeOutput)) (taken : ℕ) → Type 0
PagedBehind steps name had left before after taken =
    (paged : PagedInto steps name had left before after) × AreTaken steps paged.1.items taken

-- A stream of these bytes of which so many steps were taken, or all where it has fewer, and how many those are.
pub record StandsAt (bytes : List ℕ) (steps : ℕ) (taken : ℕ) (now : DebuggerState) : Type 0 where
  pub items : List StepResult
  pub trace : IsTraceOf bytes items
  pub state : now.job.machine ≡ Some (last_machine power_on (take steps items))
  pub count : AreTaken steps items taken

-- The same of the stream that a reader had, which was read whole.
abbrev pub StandsIn : (had left : Option (List ℕ)) (steps : ℕ) (taken : ℕ) → DebuggerState → Type 0
StandsIn had left steps taken now = (bytes : List ℕ) × ReadWhole had left bytes × StandsAt bytes steps taken now

-- why a stream was not opened, as it is told
abbrev pub unopened : OpenError → PagingError
unopened opening.ReadFault = Input inputs.ReadFault
unopened opening.NoMemory = NoMemory

-- Why no page is there to be made: the stream is not read on, or memory ran out.
abbrev pub IsUnpaged : (Fails : Type 0) → PagingError → Type 0
IsUnpaged Fails (Input why) = InputCause Fails why
IsUnpaged Fails WriteFault = ⊥
IsUnpaged Fails NoMemory = ⊤

-- An output of this name was made of a page, or not, and this is why.
abbrev pub MakesPage : (page : Page) (name : List ℕ) → Result (Unit {0}) PagingError → (before after : Option (List MadeOutput)) → Type 0
MakesPage page name (Ok _) before after = after ≡ with_outputs (holding name (file_of page) ∷ []) before
MakesPage page name (Err WriteFault) before after = MakesPrefix (holding name (file_of page) ∷ []) before after
MakesPage page name (Err NoMemory) before after = after ≡ before
MakesPage page name (Err (Input why)) before after = ⊥

-- what is told where a stream has fewer steps: how many it has
abbrev pub end_text : (taken : ℕ) → List ℕ
end_text taken = codes "the stream ends behind step " ++ (decimal taken ++ 10 ∷ [])

-- Where a trace has fewer items than so many, it was told how many it has; else nothing was told.
pub record TellsEnd (steps : ℕ) (items : List StepResult) (said says : Option (List ℕ)) : Type 0 where
  pub short : length items < steps → Appends said says (end_text (length items))
  pub long : steps ≤ length items → says ≡ said
