use Rattle.std.proofs.Common.{sym}
use Rattle.press_forms.proofs.DebuggerSteps.{kinds_text-more, kinds_text-all}
use Rattle.press_forms.proofs.debugging.DebugSession.recent.Goals as goal

pub loop-kind-preserved : goal.loop-kind-preserved
loop-kind-preserved g c =
    kinds_text-more c.args.self.now.debugger.stepper.recent c.loop-kind.index c.in-Some.kind c.loop-kind.lines.items c.write_kind.new.out.items c.push.new.self.items
    (sym c.in-Some.ensures.kind) c.loop-kind.invariant c.in_ok-write_kind.ensures.ok c.in_ok-push.ensures.items

pub returns : goal.returns
returns g c = kinds_text-all c.args.self.now.debugger.stepper.recent c.loop-kind.index c.loop-kind.lines.items (sym c.in_default.ensures.kind) c.loop-kind.invariant
