-- The files of a file system as named inputs.
use Rattle.std.specs.Prelude.{Bool}
use Rattle.press_files.specs.declared.named_inputs.NamedFiles.{NamedFiles}

-- whether a file that was closed was not read on
abbrev pub inputs_failed : {F : Type 0} → NamedFiles F → Bool
inputs_failed inputs = inputs.failed
