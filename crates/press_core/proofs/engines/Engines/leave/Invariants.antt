use Rattle.std.proofs.Common.{◌≡◌, ◌++◌, length, take, drop}
use Rattle.press_core.specs.Engines.{left_by}
use Rattle.press_core.proofs.engines.Engines.leave.Given as goal

-- the first engines were left
abbrev pub invariant-loop-engine : goal.invariant-loop-engine
invariant-loop-engine l = record {
  so_far : l.self-inside.running ≡ left_by l.number (take l.engine l.initial.self-inside.running) ++ drop l.engine l.initial.self-inside.running;
  long : length l.self-inside.running ≡ length l.initial.self-inside.running;
  count : l.self-inside.count ≡ l.initial.self-inside.count;
}
