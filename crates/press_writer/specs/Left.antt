-- What a job that is written piece by piece has still to say.
use Rattle.std.specs.Prelude.{◌≡◌, ◌≤◌, ◌<◌, ℕ, ◌+◌, List, [], ◌∷◌, ◌++◌, length, slice_get, Option, Some, None, IfSome, Bool, true, false}
use Rattle.std.specs.List.{flat_map}
use Rattle.press_bits.specs.Page.{Page}
use Rattle.press_cmd.specs.Token.{Token}
use Rattle.press_page.specs.declared.media.PageSetup.{PageSetup}
use Rattle.press_ticket.specs.Ticket.{JobTicket}
use Rattle.press_writer.specs.declared.part.PageLeft.{PageLeft}
use Rattle.press_writer.specs.declared.part.Part.{Part}
use Rattle.press_writer.specs.declared.sequence.Sequence.TheVariants.{EndRaster}
use Rattle.press_writer.specs.Job.{form_feed_command, commands_of_part, parts, FitsPart}
use Rattle.press_writer.specs.Medium.{medium}
use Rattle.press_writer.specs.Picture.{raster_rows, row_before, rows_from}
use Rattle.press_writer.specs.Sequences.{command, written}
use Rattle.press_writer.specs.Wanted.{image_of}

-- no job of a ticket has more commands
abbrev pub most_job_commands : ℕ
most_job_commands = 4000000000000

-- No piece of a job has more commands: so many has its head, and a row of an image has three.
abbrev pub most_commands_of_piece : ℕ
most_commands_of_piece = 8

-- On what the job prints; what is left of the page that is begun, if one is; and the parts that are not begun.
pub record JobLeft : Type 0 where
  pub medium : PageSetup
  pub begun : Option PageLeft
  pub parts : List Part

-- the whole job of a ticket
abbrev pub whole_job : JobTicket → JobLeft
whole_job ticket = record { medium = medium ticket; begun = None; parts = parts ticket }

-- what is left of a page: the rows of its image from a line on, and its end
abbrev pub rest_of_page : (image : Page) → PageLeft → List Token
rest_of_page image left =
    raster_rows left.method (row_before image left.line) 0 (rows_from image left.line)
    ++ command EndRaster 0 ∷ form_feed_command ∷ []

abbrev pub rest_of_begun : List Page → Option PageLeft → List Token
rest_of_begun images None = []
rest_of_begun images (Some left) = rest_of_page (image_of images left.page) left

-- The commands that are left, with the images of the ticket's pages; and their bytes.
abbrev pub commands_left : JobLeft → List Page → List Token
commands_left left images =
    rest_of_begun images left.begun ++ flat_map (commands_of_part left.medium images) left.parts

abbrev pub bytes_left : JobLeft → List Page → List ℕ
bytes_left left images = written (commands_left left images)

-- There are images of so many pages: of the page that is begun, and of those of the parts that are left.
pub record HasImages (count : ℕ) (left : JobLeft) : Type 0 where
  pub begun : IfSome left.begun (λ page. page.page < count)
  pub parts : (i : ℕ) (part : Part) → slice_get left.parts i ≡ Some part → FitsPart count part

-- A piece was appended, the next of the bytes that are left: one byte at least, and few commands; or none was, since none is left.
pub record GivesPiece (old : JobLeft) (images : List Page) (more : Bool) (new : JobLeft) (before after : List ℕ) : Type 0 where
  pub piece : List ℕ
  pub appended : after ≡ before ++ piece
  pub next : bytes_left old images ≡ piece ++ bytes_left new images
  pub some : more ≡ true → 1 ≤ length piece
  pub few : length (commands_left old images) ≤ length (commands_left new images) + most_commands_of_piece
  pub none : more ≡ false → (bytes_left old images ≡ []) × (new ≡ old) × (piece ≡ [])
