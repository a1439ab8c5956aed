use Rattle.std.proofs.Common.{◌≡◌, true}
use Rattle.press_devices.specs.Reading.{ReadFails}
use Rattle.press_files.specs.Causes.{failures}
use Rattle.press_files.specs.Edge.{input_called}
use Rattle.press_sessions.specs.Sessions.{beginning, by_rules, standing}
use Rattle.press_sessions.proofs.SessionLemmas.{PlaysBy-ended}
use Rattle.press_sessions.proofs.sessions.play_by.Goals as goal

pub returns-clause-through : goal.returns-clause-through
returns-clause-through g c zero = c.into_outputs.ensures.through (c.play_told-status.ensures.sound zero)

pub returns-clause-ended : goal.returns-clause-ended
returns-clause-ended g c =
    PlaysBy-ended
    (by_rules (input_called g.I.Input.ReadDevice g.I.NamedInputs c.args.rules.inputs.now) c.args.rules.goes_on g.D.EntryFolder.parts)
    g.D.EntryFolder.sums (beginning c.args.begun.press) (standing c.play_told-status.new.talk.session) _ _ _ _ g.D.EntryFolder.begun (g.O.NamedOutputs.made c.into_outputs.result)
    (failures (ReadFails (g.R.ReadDevice.failed c.play_told-status.new.reader) (g.R.ReadDevice.reads c.play_told-status.new.reader)) ⊥ (g.W.WriteDevice.failed c.play_told-status.new.out ≡ true)
    (g.O.NamedOutputs.failed c.into_outputs.result ≡ true))
    _ _ _ _ c.new-session.ensures c.play_told-status.ensures.sound c.into_outputs.ensures.makes c.into_outputs.ensures.cause c.play_told-status.ensures.ended
