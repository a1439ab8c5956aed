use Rattle.std.proofs.Common.{refl, inl}
use Rattle.press_words.specs.View.{request_seen}
use Rattle.press_main.proofs.ProgramLemmas.{makes-nothing}
use Rattle.press_main.proofs.program.try_making.Goals as goal

pub returns-in-Ok-clause-makes : goal.returns-in-Ok-clause-makes
returns-in-Ok-clause-makes g c =
    let spared = c.spare_inputs.ensures in
    let makes = c.make.ensures.makes (request_seen c.args.request.now).source c.in-Ok.ensures.spared in
    inl (rw (spared.made, spared.through, spared.failed) at makes)

pub returns-in-Err-clause-makes : goal.returns-in-Err-clause-makes
returns-in-Err-clause-makes g c =
    makes-nothing c.in-Err.error (request_seen c.args.request.now) _ c.report.result _ _ c.in-Err.ensures.own
    (record { answers = c.report.ensures.status; told = c.report.ensures.told; unread = refl; unwritten = refl; unmade = c.spare_inputs.ensures.made })
