use Rattle.std.proofs.Common.{◌≡◌, Bool, Option, List}
use Rattle.press_sink.specs.Outputs.{MadeOutput}
use Rattle.press_main.proofs.sparing.spare.Given as goal

-- what was made stays, what waits, and whether one failed
abbrev pub invariant-loop-name : goal.invariant-loop-name
invariant-loop-name g l = record {
  made : ◌≡◌ {A = Option (List MadeOutput)} (g.O.NamedOutputs.made l.outputs) (g.O.NamedOutputs.made l.fn.outputs);
  through : ◌≡◌ {A = Bool} (g.O.NamedOutputs.waiting l.outputs) (g.O.NamedOutputs.waiting l.fn.outputs);
  failed : ◌≡◌ {A = Bool} (g.O.NamedOutputs.failed l.outputs) (g.O.NamedOutputs.failed l.fn.outputs);
}
