-- Streams and assembly text, over readers and writers.
use Rattle.std.specs.Prelude.{◌≡◌, ℕ, List, [], ◌∷◌, Option, false, ⊤}
use Rattle.std.specs.Io.KnownBytes.{Appends, Consumes, IsAtEnd}
use Rattle.press_devices.specs.Writing.{AppendsPrefix}
use Rattle.press_sink.specs.Outputs.{MadeOutput, MakesPrefix, holding, with_outputs}
use Rattle.press_cmd.specs.Token.{Token}
use Rattle.press_scan.specs.Gives.{IsDone}
use Rattle.press_scan.specs.Reached.{Reached}
use Rattle.press_scan.specs.ScannerState.{ScannerState}
use Rattle.press_asm.specs.Text.{Assembles, Refuses}
use Rattle.press_asm.specs.Written.{AreWritten, text_of}
use Rattle.press_disasm.specs.Disassembly.{IsDisassembly, ListsAll, ListsFirst, ListsWhole}
use Rattle.press_files.specs.Inputs.{ReadWhole}
use Rattle.press_forms.specs.declared.assembly.TextError.{TextError}
use Rattle.press_forms.specs.declared.assembly.TextError.TheVariants.{Input, Refused, WriteFault, NoOutput, NoMemory}

-- What a reader had is a text, and it assembles to these bytes.
pub record Assembled (had left : Option (List ℕ)) (bytes : List ℕ) : Type 0 where
  pub text : List ℕ
  pub read : ReadWhole had left text
  pub assembles : Assembles text bytes

-- The bytes that the text of a reader assembles to were written.
pub record AssembledTo (had left old new : Option (List ℕ)) : Type 0 where
  pub bytes : List ℕ
  pub assembled : Assembled had left bytes
  pub written : Appends old new bytes

-- Why a reader gave no stream, by the fault: its text is refused so; else it was not read to its end, or memory ran out.
abbrev pub TextRefused : (had left : Option (List ℕ)) → TextError → Type 0
TextRefused had left (Refused why) = (text : List ℕ) × ReadWhole had left text × Refuses text why
TextRefused had left (Input why) = ⊤
TextRefused had left NoMemory = ⊤
TextRefused had left other = ⊥

-- What was written of a text that was not assembled to a writer, by the fault: a prefix of its bytes, where a write failed; else
-- nothing.
abbrev pub StopsAssembling : (had left old new : Option (List ℕ)) → TextError → Type 0
StopsAssembling had left old new WriteFault = (bytes : List ℕ) × Assembled had left bytes × AppendsPrefix old new bytes
StopsAssembling had left old new why = TextRefused had left why × (new ≡ old)

-- The text of a reader was assembled, and an output of this name was made, which holds its bytes.
pub record AssembledInto (name : List ℕ) (had left : Option (List ℕ)) (before after : Option (List MadeOutput)) : Type 0 where
  pub bytes : List ℕ
  pub assembled : Assembled had left bytes
  pub made : after ≡ with_outputs (holding name bytes ∷ []) before

-- What was made of a text that was not assembled into an output, by the fault: a prefix of the output, where it cannot be made or
-- written; else nothing.
abbrev pub StopsMaking : (name : List ℕ) (had left : Option (List ℕ)) (before after : Option (List MadeOutput)) → TextError → Type 0
StopsMaking name had left before after WriteFault =
    (bytes : List ℕ) × Assembled had left bytes × MakesPrefix (holding name bytes ∷ []) before after
StopsMaking name had left before after why = TextRefused had left why × (after ≡ before)

-- What a reader had is a stream, and this is its disassembly.
pub record Disassembled (had left : Option (List ℕ)) (text : List ℕ) : Type 0 where
  pub bytes : List ℕ
  pub read : ReadWhole had left bytes
  pub disassembly : IsDisassembly bytes text

-- The disassembly of the stream of a reader was written.
pub record DisassembledTo (had left old new : Option (List ℕ)) : Type 0 where
  pub text : List ℕ
  pub disassembled : Disassembled had left text
  pub written : Appends old new text

-- Of the bytes that a reader gave, the lines of the first commands, however many.
pub record ListsSome (had left : Option (List ℕ)) (text : List ℕ) : Type 0 where
  pub bytes : List ℕ
  pub read : Consumes had left bytes
  pub lists : ListsFirst bytes text

-- Of the bytes that a reader gave, the lines of all commands that are whole were written, and nothing else.
pub record ListsRead (had left old new : Option (List ℕ)) : Type 0 where
  pub bytes : List ℕ
  pub read : Consumes had left bytes
  pub text : List ℕ
  pub lists : ListsWhole bytes text
  pub written : Appends old new text

-- What was written of a stream that was not disassembled to its end, by the fault: where a read failed, the lines of all whole commands of
-- the bytes before; where memory ran out, the lines of the first commands of the bytes that were read; and where a write failed, a prefix of
-- such lines. Never anything else.
abbrev pub StopsDisassembling : (had left old new : Option (List ℕ)) → TextError → Type 0
StopsDisassembling had left old new (Input why) = ListsRead had left old new
StopsDisassembling had left old new NoMemory = (text : List ℕ) × ListsSome had left text × Appends old new text
StopsDisassembling had left old new NoOutput = (text : List ℕ) × ListsSome had left text × AppendsPrefix old new text
StopsDisassembling had left old new other = ⊥

-- The lines of all commands that a scanner had to give were written; or not, by the fault: nothing, or a prefix of them.
abbrev pub WritesLines : (held new : ScannerState) (before after : Option (List ℕ)) → Type 0
WritesLines held new before after = (text : List ℕ) × ListsAll held [] new text × Appends before after text

abbrev pub StopsLines : (held : ScannerState) (before after : Option (List ℕ)) → TextError → Type 0
StopsLines held before after NoMemory = after ≡ before
StopsLines held before after NoOutput = (text : List ℕ) × (new : ScannerState) × ListsAll held [] new text × AppendsPrefix before after text
StopsLines held before after other = ⊥

-- A reader gave these bytes so far, a scanner that was handed them gave all commands that are whole, and their lines were written.
pub record ListsSoFar (had left old new : Option (List ℕ)) (held : ScannerState) : Type 0 where
  pub bytes : List ℕ
  pub read : Consumes had left bytes
  pub given : List Token
  pub reached : Reached bytes given held
  pub going : held.ended ≡ false
  pub done : IsDone held
  pub each : AreWritten given
  pub written : Appends old new (text_of given)

-- the same of a reader that was read to its end
abbrev pub ListsToEnd : (had left old new : Option (List ℕ)) (held : ScannerState) → Type 0
ListsToEnd had left old new held = ListsSoFar had left old new held × IsAtEnd left
