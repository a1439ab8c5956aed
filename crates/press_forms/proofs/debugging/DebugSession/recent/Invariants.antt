use Rattle.std.proofs.Common.{◌≡◌, ◌-◌, length, take}
use Rattle.press_forms.specs.Debugging.{kinds_text}
use Rattle.press_forms.proofs.debugging.DebugSession.recent.Given as goal

-- the lines of the kinds so far
abbrev pub invariant-loop-kind : goal.invariant-loop-kind
invariant-loop-kind g l = l.lines.items ≡ kinds_text (take l.index l.self.debugger.stepper.recent)

abbrev pub decreases-loop-kind : goal.decreases-loop-kind
decreases-loop-kind g l = length l.self.debugger.stepper.recent - l.index
