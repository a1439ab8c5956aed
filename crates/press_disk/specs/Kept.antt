-- What outputs that are files keep.
use Rattle.std.specs.Prelude.{ℕ, Bool, List, length, nat_lt}
use Rattle.std.specs.String.{string_bytes}
use Rattle.press_disk.specs.declared.file_number.FileNumber.{FileNumber}
use Rattle.press_disk.specs.declared.file_outputs.FileOutputs.{FileOutputs}
use Rattle.press_disk.specs.declared.output_file.OutputFile.{OutputFile}

-- the file behind a buffer
abbrev pub file_in : {T : Type 0} → OutputFile T → T
file_in output = output.file

-- whether bytes that were written to a file wait in its buffer
abbrev pub waits_in : {T : Type 0} → OutputFile T → Bool
waits_in output = nat_lt 0 (length output.held.items)

-- whether making, writing or closing a file failed or was interrupted so far
abbrev pub file_failed : {S : Type 0} → FileOutputs S → Bool
file_failed outputs = outputs.failed

-- whether bytes of a file that was closed or given up never went out of the program
abbrev pub file_waiting : {S : Type 0} → FileOutputs S → Bool
file_waiting outputs = outputs.waiting

-- the files among which outputs are made
abbrev pub store_of : {S : Type 0} → FileOutputs S → S
store_of outputs = outputs.store

-- the name of the file that was made last
abbrev pub name_of : {S : Type 0} → FileOutputs S → List ℕ
name_of outputs = string_bytes outputs.name

-- its name until it is whole; none where it is written where it stands
abbrev pub part_of : {S : Type 0} → FileOutputs S → List ℕ
part_of outputs = string_bytes outputs.part

-- the files that are not replaced
abbrev pub spared_of : {S : Type 0} → FileOutputs S → List FileNumber
spared_of outputs = outputs.spared.items
