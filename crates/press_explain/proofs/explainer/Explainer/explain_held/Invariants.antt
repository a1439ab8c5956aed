use Rattle.std.proofs.Common.{length}
use Rattle.press_explain.specs.Standing.{GoesOn, IsSound}
use Rattle.press_explain.proofs.explainer.Explainer.explain_held.Given as goal

-- it went on from where it stood
abbrev pub invariant-loop : goal.invariant-loop
invariant-loop l = record {
  goes : GoesOn l.fn.self l.fn.text.items l.self l.text.items;
  sound : IsSound l.self;
}

abbrev pub decreases-loop : goal.decreases-loop
decreases-loop l = length l.self.scanner.bytes
