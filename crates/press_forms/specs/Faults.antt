-- What is told of a text, of a trace, of the page of a step and of a debugger, in one line.
use Rattle.std.specs.Prelude.{ℕ, List, Option, Some, None}
use Rattle.press_units.specs.Faults.{fault_text}
use Rattle.press_asm.specs.Faults as asm
use Rattle.press_pbm.specs.Faults as pbm
use Rattle.press_devices.specs.Telling.{output_text}
use Rattle.press_forms.specs.declared.assembly.TextError.{TextError}
use Rattle.press_forms.specs.declared.assembly.TextError.TheVariants as texts
use Rattle.press_forms.specs.declared.debugging.DebugError.{DebugError}
use Rattle.press_forms.specs.declared.debugging.DebugError.TheVariants as debugs
use Rattle.press_forms.specs.declared.paging.PagingError.{PagingError}
use Rattle.press_forms.specs.declared.paging.PagingError.TheVariants as pages
use Rattle.press_trace.specs.Faults as trace
use Rattle.press_trace.specs.declared.fault.TraceError.{TraceError}
use Rattle.press_files.specs.Faults.{input_text}

-- of a text or a stream
abbrev pub told_of_text : TextError → Option (List ℕ)
told_of_text (texts.Input error) = Some (input_text error)
told_of_text (texts.Refused error) = Some (asm.told_text error)
told_of_text texts.WriteFault = Some (fault_text (Some pbm.write_fault))
told_of_text texts.NoOutput = Some output_text
told_of_text texts.NoMemory = Some (fault_text None)

-- of a trace, and of a stream that is explained
abbrev pub told_of_trace : TraceError → Option (List ℕ)
told_of_trace error = Some (trace.told_text error)

-- of the page of a step
abbrev pub told_of_page : PagingError → Option (List ℕ)
told_of_page (pages.Input error) = Some (input_text error)
told_of_page pages.WriteFault = Some (fault_text (Some pbm.write_fault))
told_of_page pages.NoMemory = Some (fault_text None)

-- of a debugger
abbrev pub told_of_debugger : DebugError → Option (List ℕ)
told_of_debugger (debugs.Input error) = Some (input_text error)
told_of_debugger (debugs.Output error) = Some output_text
told_of_debugger debugs.NoMemory = Some (fault_text None)
