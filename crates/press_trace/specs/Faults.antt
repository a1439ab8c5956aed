-- What is told of a trace that ended early (this profile).
use Rattle.std.specs.Prelude.{ℕ, List, Some, None}
use Rattle.press_devices.specs.Faults.{read_fault}
use Rattle.press_devices.specs.Telling.{output_text}
use Rattle.press_units.specs.Faults.{fault_text}
use Rattle.press_trace.specs.declared.fault.TraceError.{TraceError}
use Rattle.press_trace.specs.declared.fault.TraceError.TheVariants as errors

abbrev pub told_text : TraceError → List ℕ
told_text errors.ReadFault = fault_text (Some read_fault)
told_text (errors.Output fault) = output_text
told_text errors.NoMemory = fault_text None
