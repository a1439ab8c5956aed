-- What makes a call of the program fail: a device that did.
use Rattle.std.specs.Prelude.{⊤}
use Rattle.press_files.specs.declared.inputs.InputError.{InputError}
use Rattle.press_files.specs.declared.inputs.InputError.TheVariants.{ReadFault, NoMemory}

-- That a device failed by now: the reader, or an input that was opened by its name and closed, is not read on; the writer of answers, the
-- outputs that are made, or the one that is written to, failed.
pub record Failures : Type 1 where
  pub input : Type 0
  pub file : Type 0
  pub output : Type 0
  pub outputs : Type 0

abbrev pub failures : (input file output outputs : Type 0) → Failures
failures input file output outputs = record { input = input; file = file; output = output; outputs = outputs }

-- the same of a call that reads and writes answers
abbrev pub writing : Failures → Failures
writing fails = failures fails.input ⊥ fails.output ⊥

-- the same of a call that reads and makes outputs
abbrev pub making : Failures → Failures
making fails = failures fails.input ⊥ ⊥ fails.outputs

-- the same of a call that reads, and writes what it makes to the writer of answers
abbrev pub making_out : Failures → Failures
making_out fails = failures fails.input ⊥ ⊥ fails.output

-- Why an input was not read to its end: it is not read on; or memory ran out.
abbrev pub InputCause : (Fails : Type 0) → InputError → Type 0
InputCause Fails ReadFault = Fails
InputCause Fails NoMemory = ⊤
