use Rattle.std.proofs.Common.{◌≡◌, IfSome, Option, subst}
use Rattle.press_engine.specs.declared.machine.Machine.{Machine}
use Rattle.press_engine.specs.Engine.{view_of}
use Rattle.press_debug.proofs.KindLemmas.{shows_item}
use Rattle.press_debug.proofs.debugger.Debugger.state.Goals as goal

pub returns-clause-item : goal.returns-clause-item
returns-clause-item g c =
    shows_item c.args.self.now.stepper c.view.result (λ machine is.
    subst (λ (one : Option Machine). IfSome one (λ machine. c.view.result ≡ view_of c.view.result.stack machine)) is c.view.ensures.view)
