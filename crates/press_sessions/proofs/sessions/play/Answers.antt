-- The lines are answered by rules that stay, and then the listing is written.
use Rattle.std.proofs.Common.{◌≡◌, true}
use Rattle.std.proofs.lemmas.Result.{on_ok_weaker, IfErr-weaker}
use Rattle.press_units.proofs.ExitLemmas.{exit-is}
use Rattle.press_devices.specs.Reading.{ReadFails}
use Rattle.press_files.specs.Causes.{failures}
use Rattle.press_files.specs.Edge.{input_called}
use Rattle.press_sessions.specs.Sessions.{by_rules, standing}
use Rattle.press_sessions.proofs.SessionLemmas.{Plays-listed, Stops-some, Stops-listing}
use Rattle.press_sessions.proofs.sessions.play.Goals as goal

pub returns-in_err-answer_lines-clause-err : goal.returns-in_err-answer_lines-clause-err
returns-in_err-answer_lines-clause-err g c =
    rw (exit-is c.from_residual.ensures.1)
    (Stops-some
    (λ rules. by_rules (input_called g.I.Input.ReadDevice g.I.NamedInputs rules.inputs.now) rules.goes_on g.D.EntryFolder.parts)
    (λ talk. talk.rules) (λ talk. standing talk.session) g.D.EntryFolder.sums c.args.talk.now _ _ (g.W.WriteDevice.contents c.args.out.now)
    (g.W.WriteDevice.contents c.args.out.now) (g.W.WriteDevice.contents c.answer_lines.new.out)
    (failures (ReadFails (g.R.ReadDevice.failed c.answer_lines.new.reader) (g.R.ReadDevice.reads c.answer_lines.new.reader)) ⊥
    (g.W.WriteDevice.failed c.answer_lines.new.out ≡ true) ⊥)
    c.in_err-answer_lines.field-0.0 c.answer_lines.new.talk c.in_err-answer_lines.ensures.err)

pub returns-clause-ok : goal.returns-clause-ok
returns-clause-ok g c =
    let all = c.in_ok-answer_lines.ensures.ok in
    on_ok_weaker c.list.result
    (Plays-listed
    (λ rules. by_rules (input_called g.I.Input.ReadDevice g.I.NamedInputs rules.inputs.now) rules.goes_on g.D.EntryFolder.parts)
    (λ talk. talk.rules) (λ talk. standing talk.session) g.D.EntryFolder.sums c.args.talk.now _ _ _ _ (g.W.WriteDevice.contents c.list.new.out) all.0 c.answer_lines.new.talk all.1)
    c.list.ensures.ok

pub returns-clause-sound : goal.returns-clause-sound
returns-clause-sound g c = on_ok_weaker c.list.result (λ _. c.in_ok-answer_lines.ensures.ready) c.list.ensures.ok

pub returns-clause-err : goal.returns-clause-err
returns-clause-err g c =
    let all = c.in_ok-answer_lines.ensures.ok in
    IfErr-weaker c.list.result _ _
    (λ why.
    Stops-listing
    (λ rules. by_rules (input_called g.I.Input.ReadDevice g.I.NamedInputs rules.inputs.now) rules.goes_on g.D.EntryFolder.parts)
    (λ talk. talk.rules) (λ talk. standing talk.session) g.D.EntryFolder.sums c.args.talk.now _ _ _ _ (g.W.WriteDevice.contents c.list.new.out)
    (failures (ReadFails (g.R.ReadDevice.failed c.answer_lines.new.reader) (g.R.ReadDevice.reads c.answer_lines.new.reader)) ⊥
    (g.W.WriteDevice.failed c.list.new.out ≡ true) ⊥)
    why all.0 c.answer_lines.new.talk all.1)
    c.list.ensures.err
