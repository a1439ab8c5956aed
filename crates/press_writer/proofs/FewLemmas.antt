-- How many commands a job has at most.
use Rattle.std.proofs.Common.{◌≡◌, ◌≤◌, ◌*◌, ℕ, suc, Bool, true, false}
use Rattle.std.proofs.Common.{List, [], ◌∷◌, length, replicate, All, None}
use Rattle.std.proofs.Common.{◌∙◌, refl, ap, arith, length-append}
use Rattle.std.specs.List.{flat_map}
use Rattle.std.proofs.lemmas.Grind.{flat_map-append}
use Rattle.std.proofs.lemmas.List.{length-map, length-replicate}
use Rattle.std.proofs.lemmas.List.FromFn.{length-map-range_with_len}
use Rattle.press_bits.specs.Page.{Page}
use Rattle.press_cmd.specs.ParserState.{Exit}
use Rattle.press_cmd.specs.Split.{Closed}
use Rattle.press_cmd.specs.Token.{Token}
use Rattle.press_cmd.proofs.Splits.{closed_once}
use Rattle.press_rows.specs.Encoding.{best_method}
use Rattle.press_rows.specs.declared.compression.Method.{Method}
use Rattle.press_ticket.specs.Pages.{page_order}
use Rattle.press_ticket.specs.Ticket.{JobTicket, is_in_range}
use Rattle.press_writer.specs.declared.plan.Plan.{Plan}
use Rattle.press_writer.specs.declared.plan.PrintRun.{PrintRun}
use Rattle.press_writer.specs.declared.sheet.SheetPages.{SheetPages}
use Rattle.press_writer.specs.Fitting.{IsImage, refusal}
use Rattle.press_writer.specs.Job.{batches, runs_of, page, part_commands, sides_of_run, print_runs, job, job_bytes}
use Rattle.press_writer.specs.JobLaws.{JobsAreShort, most_sheets}
use Rattle.press_writer.specs.Left.{most_job_commands}
use Rattle.press_writer.specs.Picture.{left_out, row_commands, raster_rows}
use Rattle.press_writer.specs.Plan.{IsPlan, IsSmall}
use Rattle.press_writer.specs.Sheets.{in_order, set_of}
use Rattle.press_writer.specs.Wanted.{image_of, wanted}
use Rattle.press_writer.proofs.EachLemmas.{Each}
use Rattle.press_writer.proofs.FitLemmas.{Fits, IsRun, print_runs-are}
use Rattle.press_writer.proofs.ListLemmas.{length-pieces, same_piece}
use Rattle.press_writer.proofs.PlanLemmas.{length-by_sets, length-by_sheets, sheets-few}
use Rattle.press_writer.proofs.SplitLemmas.{job-closed}

-- ---- an image

left_out-few : (white : ℕ) → length (left_out white) ≤ 1
left_out-few white = grind arith

row-few : (method : Method) (before row : List ℕ) → length (row_commands method before row) ≤ 2
row-few method before row = grind arith

rows-few : (method : Method) (before : List ℕ) (white : ℕ) (rows : List (List ℕ)) → length (raster_rows method before white rows) ≤ 3 * length rows
unfolding raster_rows
rows-few method before white [] = omega arith
rows-few method before white (row ∷ rows) =
    grind (arith, left_out-few, row-few, length-append, rows-few method row (suc white) rows, rows-few (best_method row before) row 0 rows)

-- a page whose image fits
page-few : (ticket : JobTicket) (image : Page) → Fits ticket image → length (page image) ≤ 196610
page-few ticket image fits = grind (arith, rows-few, length-append, length-map-range_with_len)

-- ---- sheets

run-few : (ticket : JobTicket) (images : List Page) (run : PrintRun) → IsRun ticket images run → length (flat_map (part_commands ticket images) (sides_of_run run)) ≤ 393221
run-few ticket images run is = grind (arith, page-few, length-append)

runs-few : (ticket : JobTicket) (images : List Page) (list : List PrintRun) → Each (IsRun ticket images) list
    → length (flat_map (part_commands ticket images) (flat_map sides_of_run list)) ≤ 393221 * length list
unfolding Each
runs-few ticket images [] each = omega arith
runs-few ticket images (run ∷ list) each = grind (arith, run-few, flat_map-append, length-append, runs-few ticket images list)

batches-few : (amount : ℕ) → amount ≤ 9999 → length (batches amount) ≤ 11
batches-few amount most = grind (arith, length-append, length-replicate)

-- so few sheets are sent
sent-few : (by_sets : Bool) (amount : ℕ) (set : List SheetPages) → length set ≤ 999 → amount ≤ 9999 → length (runs_of by_sets amount set) ≤ 9989001
sent-few by_sets amount set few most = grind (arith, length-by_sets, batches-few, length-by_sheets)

-- ---- the job

job-few : (ticket : JobTicket) (images : List Page) → Each (IsRun ticket images) (print_runs ticket) → length (print_runs ticket) ≤ 9989001
    → length (job ticket images) ≤ most_job_commands
job-few ticket images each few = grind (arith, runs-few, length-append, flat_map-append)

-- of a ticket that is not refused, and of which so few sheets are sent
pub commands-few : (ticket : JobTicket) (images : List Page) → refusal ticket images ≡ None → All (λ page. IsImage (image_of images page)) (page_order ticket.run_list)
    → length (print_runs ticket) ≤ 9989001 → (commands : List Token) → Closed (job_bytes ticket images) commands → length commands ≤ most_job_commands
commands-few ticket images none are few commands closed =
    grind (arith, print_runs-are ticket images, closed_once Exit (job_bytes ticket images) (job ticket images) commands, job-closed ticket images, job-few ticket images)

-- the sheets of a plan's ticket
pub runs-of-plan : (ticket : JobTicket) (plan : Plan) → IsPlan ticket plan → IsSmall plan → length (print_runs ticket) ≤ 9989001
runs-of-plan ticket plan is small = grind (arith, sent-few)

-- ---- a ticket that keeps its limits

sets-limit : (ticket : JobTicket) → is_in_range ticket ≡ true → ticket.amount ≤ 9999
sets-limit ticket within = grind arith

set-limit : (ticket : JobTicket) → is_in_range ticket ≡ true → length (set_of ticket) ≤ 999
set-limit ticket within = grind (arith, sheets-few)

order-length : (collate : Bool) (amount : ℕ) (set : List SheetPages) → length (in_order collate amount set) ≡ amount * length set
order-length true amount set =
    ap length (same_piece (λ (these : List SheetPages). these) amount set) ∙ length-pieces (λ _. set) (length set) (λ _. refl) (replicate amount set)
    ∙ ap (λ n. n * length set) (length-replicate amount set)
order-length false amount set = grind (arith, length-pieces (replicate amount) amount (λ sheet. length-replicate amount sheet) set)

wanted-few : (ticket : JobTicket) (images : List Page) → is_in_range ticket ≡ true → length (wanted ticket images) ≤ most_sheets
wanted-few ticket images within = grind (arith, set-limit, order-length, length-map)

pub jobs-short : JobsAreShort
jobs-short = grind (arith, commands-few, sent-few, set-limit, sets-limit, wanted-few)
