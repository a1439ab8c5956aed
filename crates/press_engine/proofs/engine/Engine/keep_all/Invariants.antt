use Rattle.std.proofs.Common.{◌≡◌}
use Rattle.press_engine.proofs.engine.Engine.keep_all.Given as goal

-- nothing changed so far
abbrev pub invariant-loop-part : goal.invariant-loop-part
invariant-loop-part l = l.self ≡ l.initial.self
