use Rattle.std.proofs.Common.{◌≡◌, ◌≢◌, ◌++◌, List, [], length}
use Rattle.press_cmd.specs.Token.{Token}
use Rattle.press_engine.specs.Running.{ChangesEach}
use Rattle.press_engine.proofs.machine.Machine.take_on.Given as goal

-- commands that were taken did no more than change the machine, and another is left
abbrev pub invariant-loop-effect : goal.invariant-loop-effect
invariant-loop-effect l = record {
  given : List Token;
  was : l.fn.activation.body ≡ given ++ l.activation.body;
  stays : l.activation ≡ record l.fn.activation { body = l.activation.body };
  each : ChangesEach given l.fn.self l.self;
  some : l.activation.body ≢ [];
}

abbrev pub decreases-loop-effect : goal.decreases-loop-effect
decreases-loop-effect l = length l.activation.body
