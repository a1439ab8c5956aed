use Rattle.std.proofs.Common.{◌≡◌, ◌∙◌, ℕ, List, Bor, map, Some, None, option_map, sym, ap, inl}
use Rattle.std.proofs.lemmas.Result.{IfOk-weaker, IfErr-weaker}
use Rattle.press_sessions.specs.EventLines.{event_in, event_of_line, line_seen}
use Rattle.press_sessions.specs.Sessions.{by_rules, standing}
use Rattle.press_files.specs.Edge.{input_called}
use Rattle.press_sessions.proofs.SessionLemmas.{TakesLines-event, TakesLines-none}
use Rattle.press_sessions.proofs.session.Session.answer.Goals as goal

pub returns-in-Some-clause-ok : goal.returns-in-Some-clause-ok
returns-in-Some-clause-ok g c =
    let now : List (Bor (List ℕ)) → List (List ℕ) = map {A = Bor (List ℕ)} {B = List ℕ} (λ word. word.now) in
    let is : event_of_line c.args.line.now ≡ Some (line_seen c.in-Some.event) =
    ap event_in (sym (ap now c.deref.ensures.value ∙ c.in_ok-words.ensures)) ∙ sym c.event_of.ensures ∙ ap (option_map line_seen) c.in-Some.is in
    let input = input_called g.I.Input.ReadDevice g.I.NamedInputs c.args.inputs.now in
    IfOk-weaker c.happen.result _ _
    (λ answer taken goes_on.
    TakesLines-event (by_rules input goes_on g.D.EntryFolder.parts) c.args.line.now (line_seen c.in-Some.event)
    (standing c.args.self.now) (standing c.happen.new.self) answer.items is taken)
    c.happen.ensures.ok

pub returns-in-Some-clause-err : goal.returns-in-Some-clause-err
returns-in-Some-clause-err g c =
    let now : List (Bor (List ℕ)) → List (List ℕ) = map {A = Bor (List ℕ)} {B = List ℕ} (λ word. word.now) in
    let is : event_of_line c.args.line.now ≡ Some (line_seen c.in-Some.event) =
    ap event_in (sym (ap now c.deref.ensures.value ∙ c.in_ok-words.ensures)) ∙ sym c.event_of.ensures ∙ ap (option_map line_seen) c.in-Some.is in
    IfErr-weaker c.happen.result _ _ (λ why has. inl (line_seen c.in-Some.event, is, has)) c.happen.ensures.err

pub returns-clause-ok : goal.returns-clause-ok
returns-clause-ok g c goes_on =
    let now : List (Bor (List ℕ)) → List (List ℕ) = map {A = Bor (List ℕ)} {B = List ℕ} (λ word. word.now) in
    let is : event_of_line c.args.line.now ≡ None =
    ap event_in (sym (ap now c.deref.ensures.value ∙ c.in_ok-words.ensures)) ∙ sym c.event_of.ensures ∙ ap (option_map line_seen) c.in-None.is in
    let input = input_called g.I.Input.ReadDevice g.I.NamedInputs c.args.inputs.now in
    TakesLines-none (by_rules input goes_on g.D.EntryFolder.parts) c.args.line.now (standing c.args.self.now)
    c.in_ok-line_of-in-None.field-0.items is c.in_ok-line_of-in-None.ensures
