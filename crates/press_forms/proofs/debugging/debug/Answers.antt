use Rattle.std.proofs.lemmas.Result.{on_ok_weaker, IfErr-weaker}
use Rattle.std.proofs.Common.{◌≡◌, true}
use Rattle.press_devices.specs.Reading.{ReadFails}
use Rattle.press_files.specs.Causes.{failures}
use Rattle.press_forms.proofs.DebuggerLemmas.{Debugs-all, StopsDebugging-some}
use Rattle.press_forms.proofs.debugging.debug.Goals as goal

pub returns-clause-ok : goal.returns-clause-ok
returns-clause-ok g c =
    let stream = c.in_ok-debugger.ensures.stream in
    on_ok_weaker c.answer_lines.result
    (λ answered. Debugs-all (λ session. session.debugger.stepper) (λ session. session.debugger.breaks) _ _ _ _ _ _ _ stream.0 stream.1 stream.2 c.in_ok-debugger.ensures.breaks answered.0)
    c.answer_lines.ensures.ok

pub returns-clause-err : goal.returns-clause-err
returns-clause-err g c =
    let stream = c.in_ok-debugger.ensures.stream in
    IfErr-weaker c.answer_lines.result _ _
    (λ why some.
    StopsDebugging-some (λ session. session.debugger.stepper) (λ session. session.debugger.breaks) _ _ _ _ _ _ _
    stream.0 stream.1 stream.2 c.in_ok-debugger.ensures.breaks _
    (failures (ReadFails (g.R.ReadDevice.failed c.answer_lines.new.reader) (g.R.ReadDevice.reads c.answer_lines.new.reader)) (ReadFails (g.I.ReadDevice.failed c.opened.new.input) (g.I.ReadDevice.reads c.opened.new.input))
    (g.W.WriteDevice.failed c.answer_lines.new.out ≡ true) ⊥)
    why some.0)
    c.answer_lines.ensures.err
