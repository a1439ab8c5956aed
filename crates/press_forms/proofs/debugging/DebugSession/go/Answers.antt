use Rattle.std.proofs.lemmas.Result.{IfOk-weaker}
use Rattle.std.specs.Fn.{FnReturnsAt}
use Rattle.press_forms.proofs.DebuggerSteps.{CarriesOut-silent}
use Rattle.press_forms.proofs.debugging.DebugSession.go.Goals as goal

pub returns-clause-does : goal.returns-clause-does
returns-clause-does g c =
    let old = c.args.self.now.debugger in
    let stop = c.go-stop.result in
    let goes = CarriesOut-silent (FnReturnsAt g.F.Fn old.watch.test) c.requires.quiet old.breaks old.stepper c.go-stop.new.self.stepper c.args.most stop c.go-stop.ensures.goes in
    IfOk-weaker c.stopped.result _ _ (λ answer tells. (stop, goes, tells, c.go-stop.ensures.breaks)) c.stopped.ensures
