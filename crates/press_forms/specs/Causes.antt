-- Why a text, a stream, a trace or a page was not made, as far as a device makes it so.
use Rattle.std.specs.Prelude.{⊤}
use Rattle.press_files.specs.Causes.{Failures, InputCause}
use Rattle.press_forms.specs.declared.assembly.TextError.{TextError}
use Rattle.press_forms.specs.declared.assembly.TextError.TheVariants as texts
use Rattle.press_trace.specs.declared.fault.TraceError.{TraceError}
use Rattle.press_trace.specs.declared.fault.TraceError.TheVariants as traces
use Rattle.press_forms.specs.declared.paging.PagingError.{PagingError}
use Rattle.press_forms.specs.declared.paging.PagingError.TheVariants as pages

-- of a text or a stream: 304, of its reader; 115, of the output that is made; else of the writer
abbrev pub TextCause : Failures → TextError → Type 0
TextCause fails (texts.Input why) = InputCause fails.input why
TextCause fails texts.WriteFault = fails.outputs
TextCause fails texts.NoOutput = fails.output
TextCause fails other = ⊤

-- of a trace, and of a stream that is explained
abbrev pub TraceCause : Failures → TraceError → Type 0
TraceCause fails traces.ReadFault = fails.input
TraceCause fails (traces.Output error) = fails.output
TraceCause fails traces.NoMemory = ⊤

-- of the page of a step
abbrev pub PageCause : Failures → PagingError → Type 0
PageCause fails (pages.Input why) = InputCause fails.input why
PageCause fails pages.WriteFault = fails.outputs
PageCause fails pages.NoMemory = ⊤
