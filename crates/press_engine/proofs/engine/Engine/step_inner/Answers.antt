use Rattle.std.proofs.Common.{◌∙◌, List, Ok, sym, subst, arith}
use Rattle.press_units.proofs.ExitLemmas.{exit-is, exit-was}
use Rattle.press_sink.specs.SinkLog.{logs, under}
use Rattle.press_sink.specs.Sending.{Complete, WentOut}
use Rattle.press_table.specs.declared.effect.Sent.{Sent}
use Rattle.press_engine.specs.declared.engine.Engine.{Engine}
use Rattle.press_engine.specs.Engine.{machine_of, bodies, ending_of, TakesNext}
use Rattle.press_engine.specs.Stack.{continuation}
use Rattle.press_table.specs.Outputs.{all_outputs}
use Rattle.press_engine.proofs.ValueLemmas.{takes-ok, takes-stopped, takes-none, inner-some, needs-inner}
use Rattle.press_engine.proofs.engine.Engine.step_inner.Goals as goal

pub returns-in_err-step-clause-takes : goal.returns-in_err-step-clause-takes
returns-in_err-step-clause-takes g c = grind (arith, takes-none, inner-some, exit-is)

pub returns-in_err-hand_over-clause-takes : goal.returns-in_err-hand_over-clause-takes
returns-in_err-hand_over-clause-takes g c =
    let P : List Sent → Type 0 =
    λ sent.
    WentOut c.args.tag (all_outputs sent) (ending_of c.hand_over.result)
    (logs (g.S.SheetSink.told c.args.sheets.now) (g.R.ReplySink.told c.args.replies.now))
    (logs (g.S.SheetSink.told c.hand_over.new.sheets) (g.R.ReplySink.told c.hand_over.new.replies)) in
    takes-stopped (machine_of c.args.self.now) (continuation (bodies c.args.self.now)) c.in_ok-step.step (machine_of c.take_inner.new.self)
    (machine_of c.hand_over.new.self) (bodies c.take_inner.new.self) (bodies c.hand_over.new.self) c.args.tag c.hand_over.result
    c.from_residual-in_err-hand_over.result c.in_err-hand_over.field-0.0 _ _
    c.in_ok-step.ensures.steps (subst P c.deref.ensures.value c.hand_over.ensures.sends) c.in_err-hand_over.was
    (exit-is c.from_residual-in_err-hand_over.ensures.1) c.in_err-hand_over.ensures.left.0 c.in_err-hand_over.ensures.left.1

pub returns-in_err-hand_over-clause-memory : goal.returns-in_err-hand_over-clause-memory
returns-in_err-hand_over-clause-memory g c stops = grind (arith, needs-inner, exit-was)

pub returns-clause-takes : goal.returns-clause-takes
returns-clause-takes g c =
    let Q : Engine → Type 0 =
    λ engine.
    TakesNext (machine_of c.args.self.now) (continuation (bodies c.args.self.now)) (Ok c.in_ok-step.step.kind) (machine_of engine)
    (bodies engine)
    (under c.args.tag (logs (g.S.SheetSink.told c.args.sheets.now) (g.R.ReplySink.told c.args.replies.now))
    (logs (g.S.SheetSink.told c.hand_over.new.sheets) (g.R.ReplySink.told c.hand_over.new.replies))) in
    let P : List Sent → Type 0 =
    λ sent.
    WentOut c.args.tag (all_outputs sent) Complete
    (logs (g.S.SheetSink.told c.args.sheets.now) (g.R.ReplySink.told c.args.replies.now))
    (logs (g.S.SheetSink.told c.hand_over.new.sheets) (g.R.ReplySink.told c.hand_over.new.replies)) in
    subst Q (sym (c.reuse.ensures ∙ c.in_ok-hand_over.ensures.left))
    (takes-ok (machine_of c.args.self.now) (continuation (bodies c.args.self.now)) c.in_ok-step.step (machine_of c.take_inner.new.self)
    (bodies c.take_inner.new.self) c.args.tag _ _ c.in_ok-step.ensures.steps
    (subst P c.deref.ensures.value c.in_ok-hand_over.ensures.sends))
