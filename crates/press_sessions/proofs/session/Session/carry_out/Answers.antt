use Rattle.std.proofs.Common.{◌≡◌, ◌∙◌, ℕ, List, ◌++◌, length, refl, sym, ap}
use Rattle.std.proofs.lemmas.List.{length-map}
use Rattle.press_units.proofs.ExitLemmas.{exit-is}
use Rattle.press_files.specs.declared.entry_sheets.EntrySheet.{EntrySheet}
use Rattle.press_files.specs.EntryPages.{pages_told}
use Rattle.press_files.specs.EntrySheets.{kept}
use Rattle.press_files.specs.Listed.{delivery_of}
use Rattle.press_files.specs.PagesKept.{deliveries_of, faults_of, kept_sheets}
use Rattle.press_theorem.specs.Events.{event_of}
use Rattle.press_sessions.specs.Sessions.{Standing, handed_back, standing}
use Rattle.press_sessions.proofs.HappeningLemmas.{TakesEvent-happened, EventFails-stopped}
use Rattle.press_sessions.proofs.session.Session.carry_out.Goals as goal

pub returns-clause-ok : goal.returns-clause-ok
returns-clause-ok g c =
    let old = c.args.self.now.pages in
    let new = c.carry_out_events.new.sheets in
    let stands : Standing = record { world = c.carry_out_events.new.press; delivered = deliveries_of new; faults = faults_of new } in
    let count : length (deliveries_of old) ≡ length c.sheets-count.result.now =
    length-map (kept (kept_sheets old)) (λ (each : EntrySheet). delivery_of each.sheet) ∙ ap length (sym (c.sheets-count.ensures.sheets ∙ ap kept c.sheets.ensures.sheets)) in
    TakesEvent-happened g.D.EntryFolder.parts (event_of c.args.event) (standing c.args.self.now) stands
    (pages_told (deliveries_of old) (faults_of old)) (pages_told (deliveries_of new) (faults_of new)) c.new-response.result.items c.carry_out_events.new.responses.items
    c.new-turns.result.items c.carry_out_events.new.turns.items c.in_ok-lines.lines.items c.in_ok-answer.answer.items c.extend_from_slice.new.self.items
    refl refl refl refl c.new-response.ensures.items c.new-turns.ensures.items c.in_ok-carry_out_events.ensures.all
    (λ handed is. c.in_ok-lines.ensures (deliveries_of old) handed is count)
    (c.in_ok-answer.ensures ∙ ap (handed_back c.carry_out_events.new.responses.items) c.deref.ensures.value)
    (c.in_ok-extend_from_slice.ensures.items ∙ ap (λ (more : List ℕ). c.in_ok-lines.lines.items ++ more) c.deref-2.ensures.value)

pub returns-in_err-carry_out_events-clause-err : goal.returns-in_err-carry_out_events-clause-err
returns-in_err-carry_out_events-clause-err g c =
    rw (exit-is c.from_residual.ensures.1)
    (EventFails-stopped c.in_err-carry_out_events.field-0.0 (event_of c.args.event) (standing c.args.self.now) _ _ _ _ _ _ _ refl refl refl refl
    c.in_err-carry_out_events.ensures.err)
