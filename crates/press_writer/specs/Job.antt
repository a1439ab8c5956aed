-- The job of a ticket: a list of commands, part after part (PJL Technical Reference Manual, the universal exit; PCL 5 Printer
-- Language Technical Reference Manual).
use Prim.Native.Char.{code}
use Rattle.std.specs.Prelude.{ℕ, ◌<◌, ⊤, IfSome, ◌/◌, ◌%◌, ◌&&◌, ◌==◌, nat_lt, Bool, true, false, if◌then◌else◌, List, [], ◌∷◌}
use Rattle.std.specs.Prelude.{◌++◌, length, map, replicate, Option, Some, None, codes, decimal}
use Rattle.std.specs.List.{flat_map, list_any}
use Rattle.press_units.specs.Position.{dots_per_inch}
use Rattle.press_units.specs.declared.position.Resolution.{Resolution}
use Rattle.press_bits.specs.Page.{Page}
use Rattle.press_cmd.specs.Token.{Token, Escape, Control, Grouped, Uel, PjlLine}
use Rattle.press_page.specs.PageSetup.{size_number, orientation_number, duplex_number, duplex_mode}
use Rattle.press_page.specs.Settings.{most_copies}
use Rattle.press_page.specs.declared.media.PageSetup.{PageSetup}
use Rattle.press_ticket.specs.Ticket.{JobTicket}
use Rattle.press_writer.specs.declared.part.Part.{Part}
use Rattle.press_writer.specs.declared.part.Part.TheVariants.{Head, Front, Back, Tail}
use Rattle.press_writer.specs.declared.plan.PrintRun.{PrintRun}
use Rattle.press_writer.specs.declared.sequence.Sequence.TheVariants.{PageSize, Orientation, SimplexDuplex, TopMargin, Copies, SideSelection, RasterResolution}
use Rattle.press_writer.specs.declared.sheet.SheetPages.{SheetPages}
use Rattle.press_writer.specs.Medium.{medium}
use Rattle.press_writer.specs.Picture.{picture}
use Rattle.press_writer.specs.Sequences.{command, written}
use Rattle.press_writer.specs.Sheets.{set_of}
use Rattle.press_writer.specs.Wanted.{image_of}

-- the number of the front, as the command that selects a side of a sheet has it
abbrev pub front_side : ℕ
front_side = 1

-- printer reset, and form feed
abbrev pub printer_reset : Token
printer_reset = Escape (code "E")

abbrev pub form_feed_command : Token
form_feed_command = Control (code "\u{c}")

-- the line of the job language that sets the resolution of pages
abbrev pub set_resolution : Resolution → Token
set_resolution resolution =
    PjlLine (codes "@PJL SET RESOLUTION=" ++ (decimal (dots_per_inch resolution) ++ codes "\n"))

-- Before the first page: the universal exit, the resolution, a reset, the medium, no margin at the top, and the raster resolution,
-- which is that of the pages. The resolution is set also where it is the factory's, since a job before this one may have set
-- another.
abbrev pub head_of : PageSetup → List Token
head_of medium =
    Uel ∷ set_resolution medium.resolution ∷ printer_reset ∷ command PageSize (size_number medium.size)
    ∷ command Orientation (orientation_number medium.orientation)
    ∷ command SimplexDuplex (duplex_number (duplex_mode medium)) ∷ command TopMargin 0
    ∷ command RasterResolution (dots_per_inch medium.resolution) ∷ []

abbrev pub head : JobTicket → List Token
head ticket = head_of (medium ticket)

-- behind the last page
abbrev pub tail : List Token
tail = printer_reset ∷ Uel ∷ []

-- a page with an image
abbrev pub page : Page → List Token
page image = picture image ++ form_feed_command ∷ []

-- the back of a sheet; where there is none, the next page is a front again
abbrev pub back_of : List Page → Option ℕ → List Token
back_of images (Some number) = page (image_of images number)
back_of images None = command SideSelection front_side ∷ []

-- The commands of a part, by the medium of the job; and by its ticket.
abbrev pub commands_of_part : PageSetup → List Page → Part → List Token
commands_of_part medium images Head = head_of medium
commands_of_part medium images (Front number copies) = command Copies copies ∷ page (image_of images number)
commands_of_part medium images (Back number) = back_of images number
commands_of_part medium images Tail = tail

abbrev pub part_commands : JobTicket → List Page → Part → List Token
part_commands ticket images = commands_of_part (medium ticket) images

-- there are images of so many pages, and of the part's among them
abbrev pub FitsPart : (count : ℕ) → Part → Type 0
FitsPart count (Front number copies) = number < count
FitsPart count (Back back) = IfSome back (λ number. number < count)
FitsPart count other = ⊤

-- so many copies of a sheet: as many as one sheet may have, again and again, and what is left
abbrev pub batches : ℕ → List ℕ
batches amount =
    replicate (amount / most_copies) most_copies
    ++ (if amount % most_copies == 0 then [] else amount % most_copies ∷ [])

-- so many copies of a sheet that is sent once
abbrev pub run_of : SheetPages → (copies : ℕ) → PrintRun
run_of sheet copies = record { sheet = sheet; copies = copies }

-- The sheets that are sent, each with its copies: where sets are printed one after another, each sheet of each set once, else
-- each sheet of the set once for as many copies as go at once.
abbrev pub runs_of : (by_sets : Bool) → (amount : ℕ) → List SheetPages → List PrintRun
runs_of true amount set = flat_map (λ set. map (λ sheet. run_of sheet 1) set) (replicate amount set)
runs_of false amount set = flat_map (λ sheet. map (run_of sheet) (batches amount)) set

-- Whether sets are printed one after another: where they are collated. Of sets of one sheet nothing tells the difference.
abbrev pub goes_by_sets : JobTicket → Bool
goes_by_sets ticket = ticket.collate && nat_lt 1 (length (set_of ticket))

abbrev pub print_runs : JobTicket → List PrintRun
print_runs ticket = runs_of (goes_by_sets ticket) ticket.amount (set_of ticket)

-- the two sides of a sheet that is sent
abbrev pub sides_of_run : PrintRun → List Part
sides_of_run run = Front run.sheet.front run.copies ∷ Back run.sheet.back ∷ []

-- The parts of the job, in order.
abbrev pub parts_of_runs : List PrintRun → List Part
parts_of_runs runs = Head ∷ (flat_map sides_of_run runs ++ Tail ∷ [])

abbrev pub parts : JobTicket → List Part
parts ticket = parts_of_runs (print_runs ticket)

-- The job: its commands, and their bytes.
abbrev pub job : JobTicket → List Page → List Token
job ticket images = flat_map (part_commands ticket images) (parts ticket)

abbrev pub job_bytes : JobTicket → List Page → List ℕ
job_bytes ticket images = written (job ticket images)

-- the parameterized characters and group characters of a job's sequences: ESC&l, ESC&a, ESC*p, ESC*t, ESC*r and ESC*b
abbrev pub job_groups : List (ℕ × ℕ)
job_groups =
    (code "&", code "l") ∷ (code "&", code "a") ∷ (code "*", code "p") ∷ (code "*", code "t") ∷ (code "*", code "r")
    ∷ (code "*", code "b") ∷ []

-- Whether a command is one of those that jobs are made of: the universal exit, PJL lines, the printer reset, the form feed,
-- and sequences of these groups.
abbrev pub is_job_command : Token → Bool
is_job_command Uel = true
is_job_command (PjlLine line) = true
is_job_command (Escape byte) = byte == code "E"
is_job_command (Control byte) = byte == code "\u{c}"
is_job_command (Grouped character group field end payload) =
    list_any (λ letters. character == letters.0 && group == letters.1) job_groups
is_job_command other = false
