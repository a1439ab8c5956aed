use Rattle.press_sink.specs.Kept.{name_parts, outputs_of}
use Rattle.press_files.proofs.files.print_into.Given as goal

-- the folder of a sink that was opened
abbrev pub ghosts-print_by : goal.ghosts-print_by
ghosts-print_by g a = record {
  parts = name_parts a.sink;
  begun = g.O.NamedOutputs.made (outputs_of a.sink);
  waits = g.O.NamedOutputs.waiting (outputs_of a.sink);
}
