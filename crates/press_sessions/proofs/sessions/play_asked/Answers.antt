use Rattle.std.proofs.Common.{◌≡◌, true}
use Rattle.press_devices.specs.Reading.{ReadFails}
use Rattle.press_files.specs.Causes.{failures}
use Rattle.press_files.specs.EntryPages.{parts_in}
use Rattle.press_files.specs.Edge.{input_called}
use Rattle.press_words.specs.View.{session_seen}
use Rattle.press_sessions.proofs.SessionLemmas.{Ended-beginning, Plays-ended}
use Rattle.press_sessions.proofs.sessions.play_asked.Goals as goal

pub returns-in-Ok-clause-ended : goal.returns-in-Ok-clause-ended
returns-in-Ok-clause-ended g c =
    Plays-ended (session_seen c.args.asked) (input_called g.I.Input.ReadDevice g.I.NamedInputs c.args.inputs.now)
    _ _ _ _ (g.O.NamedOutputs.made c.args.outputs) (g.O.NamedOutputs.made c.play_by.result.0) (parts_in c.in-Ok.begun.template) c.in-Ok.begun.sums c.in-Ok.begun.press
    c.in-Ok.ensures.are c.in-Ok.ensures.parts c.in-Ok.ensures.sums c.in-Ok.ensures.press
    (failures (ReadFails (g.R.ReadDevice.failed c.play_by.new.reader) (g.R.ReadDevice.reads c.play_by.new.reader)) ⊥ (g.W.WriteDevice.failed c.play_by.new.out ≡ true)
    (g.O.NamedOutputs.failed c.play_by.result.0 ≡ true))
    _ _ _ c.new_presses_come_so.ensures c.play_by.ensures.ended

pub returns-in-Err-clause-ended : goal.returns-in-Err-clause-ended
returns-in-Err-clause-ended g c =
    Ended-beginning (session_seen c.args.asked) (input_called g.I.Input.ReadDevice g.I.NamedInputs c.args.inputs.now)
    (failures (ReadFails (g.R.ReadDevice.failed c.args.reader.now) (g.R.ReadDevice.reads c.args.reader.now)) ⊥ (g.W.WriteDevice.failed c.args.out.now ≡ true)
    (g.O.NamedOutputs.failed c.args.outputs ≡ true))
    _ _ _ _ _ _ c.in-Err.error c.in-Err.ensures.err c.report.ensures.status c.report.ensures.told
