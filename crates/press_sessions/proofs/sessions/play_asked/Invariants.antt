use Rattle.press_files.specs.EntryPages.{parts_in}
use Rattle.press_sessions.proofs.sessions.play_asked.Given as goal

-- where the sheets of a session go that begins
abbrev pub ghosts-play_by : goal.ghosts-play_by
ghosts-play_by g a = record {
  parts = parts_in a.begun.template;
  begun = g.O.NamedOutputs.made a.outputs;
  waits = g.O.NamedOutputs.waiting a.outputs;
  sums = a.begun.sums;
}
