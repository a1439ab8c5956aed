-- The listing of sheets.
use Rattle.std.specs.Prelude.{◌≡◌, ℕ, ◌+◌, Bool, true, false, List, [], ◌∷◌, ◌++◌, Option, Some, None, Result, codes}
use Rattle.std.specs.Fmt.{decimal}
use Rattle.hex.specs.Hex.{encode_lower}
use Rattle.std.specs.Io.KnownBytes.{Appends}
use Rattle.press_bits.specs.Page.{Page}
use Rattle.press_cmd.specs.Token.{Token}
use Rattle.press_cmd.specs.Split.{Closed}
use Rattle.press_bits.specs.PrintedSheet.{PrintedSheet}
use Rattle.press_sink.specs.declared.delivery.Delivery.{Delivery}
use Rattle.press_sink.specs.SinkLog.{SinkLog, logs, under}
use Rattle.press_sink.specs.Sending.{Output, HandsOut, sheets_of, sheets_in, reply_bytes_of}
use Rattle.press_devices.specs.Writing.{AppendsPrefix}
use Rattle.press_stream.specs.declared.fault.JobError.{JobError}
use Rattle.press_stream.specs.declared.fault.JobError.TheVariants.{ReadFault}
use Rattle.press_stream.specs.State.{JobState}
use Rattle.press_stream.specs.Answers.{fault_of, ending_by}
use Rattle.press_stream.specs.Meaning.{meaning_of, with_exit}
use Rattle.press_stream.specs.Printed.{Printed}
use Rattle.press_files.specs.Change.{Changes}
use Rattle.press_files.specs.Printing.{machine_of, status_of_fault, TellsFault}
use Rattle.press_devices.specs.Telling.{output_text, Tells, as_line}
use Rattle.press_files.specs.declared.measures.Measures.{Measures}
use Rattle.press_files.specs.Measured.{measures_by}

-- the end of a line: behind a space and `sha256` the digest of the side, in hexadecimal digits, where there is one
abbrev pub line_end : Option (List ℕ) → List ℕ
line_end None = 10 ∷ []
line_end (Some digest) = codes " sha256 " ++ (encode_lower digest ++ 10 ∷ [])

-- a side as its line has it: the number of its sheet, which side it is, width and height in dots, and how many dots are black
unfoldable pub measures_text : ℕ → List ℕ → Measures → List ℕ
measures_text number side measures =
    codes "sheet " ++ (decimal number ++ (codes " " ++ (side ++ (codes " " ++ (decimal measures.width ++ (codes "x" ++ (decimal measures.height
    ++ (codes " black " ++ decimal measures.black))))))))

-- The line of a side: that, and its digest, where sums are listed.
unfoldable pub measured_line : ℕ → List ℕ → Measures → List ℕ
measured_line number side measures = measures_text number side measures ++ line_end measures.digest

abbrev pub side_line : (sums : Bool) → ℕ → List ℕ → Page → List ℕ
side_line sums number side page = measured_line number side (measures_by sums page)

-- the line of a back, if there is one
abbrev pub back_line : (sums : Bool) → ℕ → Option Page → List ℕ
back_line sums number None = []
back_line sums number (Some back) = side_line sums number (codes "back") back

-- the lines of a sheet: its front, and its back where it has one
abbrev pub sheet_lines : (sums : Bool) → ℕ → PrintedSheet → List ℕ
sheet_lines sums number sheet = side_line sums number (codes "front") sheet.front ++ back_line sums number sheet.back

-- the lines of sheets in their order, the first of which has this number
abbrev pub lines_from : (sums : Bool) → ℕ → List PrintedSheet → List ℕ
lines_from sums number [] = []
lines_from sums number (sheet ∷ sheets) = sheet_lines sums number sheet ++ lines_from sums (number + 1) sheets

-- The listing of outputs: the lines of their sheets, numbered from 1, and then the bytes of their replies.
abbrev pub listing_of : (sums : Bool) → List Output → List ℕ
listing_of sums outputs = lines_from sums 1 (sheets_of outputs) ++ reply_bytes_of outputs

-- Where a writer's bytes are known: it wrote the listing of the meaning of a stream of these bytes, and nothing else.
abbrev pub ListsBy : (sums : Bool) → List ℕ → Option (List ℕ) → Option (List ℕ) → Type 0
ListsBy sums bytes old new = (commands : List Token) × Closed bytes commands × Appends old new (listing_of sums (meaning_of (with_exit commands)).outputs)

-- What was written of a listing that is these bytes: all of them, or a prefix where a write failed.
abbrev pub HasListed : (written : Bool) (old new : Option (List ℕ)) (bytes : List ℕ) → Type 0
HasListed true old new bytes = Appends old new bytes
HasListed false old new bytes = AppendsPrefix old new bytes

-- what the sinks of a listing tell that took these sheets and replies
abbrev pub took : List Delivery → List ℕ → SinkLog
took deliveries replies = logs (record { delivered = Some deliveries; faults = 0 }) (record { replied = Some replies; faults = 0 })

-- A stream of these bytes and of what a reader had behind them was printed, and what went out of it, by the fault that it had or had not, is
-- listed, and nothing else is written; a prefix of that where a write failed.
pub record ListsPrinted (sums : Bool) (front : List ℕ) (printed : Result JobState JobError) (written : Bool) (had left old new : Option (List ℕ)) : Type 0 where
  pub deliveries : List Delivery
  pub replies : List ℕ
  pub prints : HandsOut (ending_by (fault_of printed)) (Printed front had left (fault_of printed) (machine_of printed))
      (under 0 (took [] []) (took deliveries replies))
  pub lists : written ≡ true → Appends old new (lines_from sums 1 (sheets_in deliveries) ++ replies)
  pub cut : written ≡ false → AppendsPrefix old new (lines_from sums 1 (sheets_in deliveries) ++ replies)

-- the status after a stream and its listing
abbrev pub status_of_listing : Option JobError → (written : Bool) → ℕ
status_of_listing error true = status_of_fault error
status_of_listing error false = 1

-- What was told after a stream and its listing: the fault of the stream, if it had one, and then that the listing cannot be written.
abbrev pub TellsListing : Option JobError → (written : Bool) → (said says : Option (List ℕ)) → Type 0
TellsListing error true said says = TellsFault error said says
TellsListing error false said says = (between : Option (List ℕ)) × TellsFault error said between × Tells between says (as_line (Some output_text))

-- A stream was printed and listed, with sums or without, with its status: 0 exactly where the stream had no fault and its listing was
-- written; and what was told. 304 comes only where the reader is not read on, and the listing is cut only where the writer failed.
pub record PrintsListing (sums : Bool) (front : List ℕ) (status : ℕ) (changes : Changes) : Type 0 where
  pub printed : Result JobState JobError
  pub written : Bool
  pub stream : ListsPrinted sums front printed written changes.read.before changes.read.after changes.written.before changes.written.after
  pub answers : status ≡ status_of_listing (fault_of printed) written
  pub tells : TellsListing (fault_of printed) written changes.told.before changes.told.after
  pub reads : fault_of printed ≡ Some ReadFault → changes.fails.input
  pub writes : written ≡ false → changes.fails.output
