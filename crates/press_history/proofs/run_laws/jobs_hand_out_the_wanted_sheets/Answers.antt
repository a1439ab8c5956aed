-- The commands of the job are those that print the ticket, and the sheets of its items are those of their outputs.
use Rattle.std.proofs.Common.{◌≡◌, List, [], ◌∷◌, length, map, refl, ap, ◌∙◌, arith}
use Rattle.std.proofs.lemmas.List.{take_all}
use Rattle.press_cmd.specs.Token.{Token}
use Rattle.press_engine.specs.Machine.{power_on}
use Rattle.press_engine.specs.Trace.{joined}
use Rattle.press_engine.proofs.FoldLaws.{trace_tells_the_run}
use Rattle.press_sink.specs.Sending.{Deliver, sheets_of}
use Rattle.press_bits.specs.PrintedSheet.{PrintedSheet}
use Rattle.press_stream.specs.Meaning.{meaning_of, with_exit}
use Rattle.press_writer.specs.Wanted.{wanted}
use Rattle.press_history.proofs.run_laws.jobs_hand_out_the_wanted_sheets.Goals as goal

delivered_sheets : (sheets : List PrintedSheet) → sheets_of (map Deliver sheets) ≡ sheets
delivered_sheets [] = refl
delivered_sheets (sheet ∷ sheets) = ap (λ l. sheet ∷ l) (delivered_sheets sheets)

pub returns : goal.returns
returns c = λ work items fits images_are (closed, is_closed, is).
    let prints = c.jobs_print_their_tickets.ensures work.ticket work.images fits images_are in
    let same = prints.only closed is_closed in
    ap (λ these. sheets_of (joined these)) (take_all (length items) items (omega arith) ∙ is)
    ∙ ap sheets_of (trace_tells_the_run (with_exit closed) power_on).outputs
    ∙ ap (λ (commands : List Token). sheets_of (meaning_of (with_exit commands)).outputs) same
    ∙ ap sheets_of prints.outputs ∙ delivered_sheets (wanted work.ticket work.images)
