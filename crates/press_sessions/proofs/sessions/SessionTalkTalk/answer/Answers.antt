use Rattle.std.proofs.Common.{◌∙◌, true, refl}
use Rattle.std.proofs.lemmas.Result.{IfErr-weaker, IfOk-weaker}
use Rattle.press_files.specs.Edge.{input_called}
use Rattle.press_sessions.specs.Sessions.{by_rules, standing}
use Rattle.press_sessions.proofs.SessionLemmas.{IsUnanswered-untold, TakesLines-answered, TakesLines-sound}
use Rattle.press_sessions.proofs.sessions.SessionTalkTalk.answer.Goals as goal

pub returns-in-Ok-clause-ready : goal.returns-in-Ok-clause-ready
returns-in-Ok-clause-ready g c = (c.in-Ok.ensures.ok true).faults ∙ c.requires

pub returns-in-Ok-clause-ok : goal.returns-in-Ok-clause-ok
returns-in-Ok-clause-ok g c = (c.in-Ok.ensures.ok c.args.self.now.rules.goes_on, refl)

pub returns-in-Err-clause-ok : goal.returns-in-Err-clause-ok
returns-in-Err-clause-ok g c =
    let input = input_called g.I.Input.ReadDevice g.I.NamedInputs c.args.self.now.rules.inputs.now in
    IfOk-weaker c.answer_wrong.result _ _ (λ answer takes. (takes, refl))
    (TakesLines-answered (λ answer. answer.items) c.answer_wrong.result (by_rules input c.args.self.now.rules.goes_on g.D.EntryFolder.parts) c.args.line.now
    (standing c.args.self.now.session) (standing c.answer.new.self) c.in-Err.error c.in-Err.ensures.err c.answer_wrong.ensures.asked c.answer_wrong.ensures.of_line
    c.answer_wrong.ensures.told)

pub returns-in-Err-clause-ready : goal.returns-in-Err-clause-ready
returns-in-Err-clause-ready g c =
    let input = input_called g.I.Input.ReadDevice g.I.NamedInputs c.args.self.now.rules.inputs.now in
    let rules = by_rules input c.args.self.now.rules.goes_on g.D.EntryFolder.parts in
    TakesLines-sound (λ answer. answer.items) c.answer_wrong.result rules c.args.line.now (standing c.args.self.now.session) (standing c.answer.new.self) c.requires
    (TakesLines-answered (λ answer. answer.items) c.answer_wrong.result rules c.args.line.now
    (standing c.args.self.now.session) (standing c.answer.new.self) c.in-Err.error c.in-Err.ensures.err c.answer_wrong.ensures.asked c.answer_wrong.ensures.of_line
    c.answer_wrong.ensures.told)

pub returns-in-Err-clause-err : goal.returns-in-Err-clause-err
returns-in-Err-clause-err g c =
    let input = input_called g.I.Input.ReadDevice g.I.NamedInputs c.args.self.now.rules.inputs.now in
    IfErr-weaker c.answer_wrong.result _ _
    (λ why ends. (IsUnanswered-untold input c.args.line.now (standing c.args.self.now.session) (standing c.answer.new.self) c.in-Err.error why c.in-Err.ensures.err ends.0, ends.1))
    c.answer_wrong.ensures.err
