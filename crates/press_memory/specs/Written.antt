-- What the program writes of bytes in memory, call by call: each as the clause of the call that the program makes says it.
use Rattle.std.specs.Prelude.{◌≡◌, ◌⊎◌, ℕ, List, [], ◌∷◌, ◌++◌, Option, Some, None, codes, true, false, ⊤}
use Rattle.std.specs.List.{flat_map}
use Rattle.press_sink.specs.Outputs.{MadeOutput}
use Rattle.press_files.specs.Edge.{Edge, Promise, fails_of}
use Rattle.press_files.specs.Ends.{PrintingFiles, PrintingList}
use Rattle.press_forms.specs.Assembly.{Assembled, TextRefused}
use Rattle.press_forms.specs.Ends.{Disassembling, Tracing}
use Rattle.press_forms.specs.declared.assembly.TextError.{TextError}
use Rattle.press_bits.specs.Page.{Page}
use Rattle.press_pbm.specs.File.{IsFile, Refused}
use Rattle.press_ticket.specs.Ticket.{JobTicket}
use Rattle.press_writer.specs.declared.fault.WriterError.{WriterError}
use Rattle.press_files.specs.Jobs.{TicketRead, TicketRefused, WritesAJob, WritesNoJob}
use Rattle.press_files.specs.declared.jobs.JobFileError.{JobFileError}
use Rattle.press_files.specs.declared.jobs.JobFileError.TheVariants as jobs
use Rattle.press_memory.specs.Faults.{no_fault, fault_of, text_number, job_number, writer_number, EndsBy}

-- What the program does with these bytes, of which this holds, writes this to standard output, which held nothing, and ends with this fault.
pub record Does (Holds : Promise) (bytes : List ℕ) (fault : ℕ) (written : List ℕ) : Type 0 where
  pub status : ℕ
  pub before : Edge
  pub after : Edge
  pub had : before.unread ≡ Some bytes
  pub empty : before.written ≡ Some []
  pub wrote : after.written ≡ Some written
  pub ends : EndsBy status (fails_of after).input fault
  pub holds : Holds status before after

-- The listing of a stream behind these bytes is written without sums (`print_list`), or with the SHA-256 of each side (`print_sums`).
abbrev pub ListingOf : (prefix stream : List ℕ) (fault : ℕ) (written : List ℕ) → Type 0
ListingOf prefix = Does (PrintingList false prefix)

abbrev pub SumsOf : (prefix stream : List ℕ) (fault : ℕ) (written : List ℕ) → Type 0
SumsOf prefix = Does (PrintingList true prefix)

-- The trace of a stream behind these bytes is written (`tell_trace`).
abbrev pub TraceOf : (prefix stream : List ℕ) (fault : ℕ) (written : List ℕ) → Type 0
TraceOf prefix stream = Does Tracing (prefix ++ stream)

-- The assembly text of a stream is written (`disasm_bytes`).
abbrev pub TextOf : (stream : List ℕ) (fault : ℕ) (written : List ℕ) → Type 0
TextOf = Does Disassembling

-- what an output holds; one that was not closed holds nothing
abbrev pub held_bytes : Option (List ℕ) → List ℕ
held_bytes None = []
held_bytes (Some bytes) = bytes

-- what outputs hold, one behind the other
abbrev pub held_by_all : List MadeOutput → List ℕ
held_by_all outputs = flat_map (λ (output : MadeOutput). held_bytes output.holds) outputs

-- the template of the outputs: the number alone
abbrev pub number_alone : List ℕ
number_alone = codes "%d"

-- The P4 files of all sides of a stream behind these bytes are written, one behind the other: what the outputs hold that are made of them
-- (`print_files`).
pub record SidesOf (prefix stream : List ℕ) (fault : ℕ) (written : List ℕ) : Type 0 where
  pub status : ℕ
  pub before : Edge
  pub after : Edge
  pub made : List MadeOutput
  pub had : before.unread ≡ Some stream
  pub none : before.made ≡ Some []
  pub makes : after.made ≡ Some made
  pub holds : written ≡ held_by_all made
  pub ends : EndsBy status (fails_of after).input fault
  pub prints : PrintingFiles prefix number_alone status before after

-- The stream of an assembly text is written; or the text is refused, this is why, and nothing is written (`assembled`).
abbrev pub StreamOf : (text : List ℕ) (fault : ℕ) (written : List ℕ) → Type 0
StreamOf text fault written =
    (left : Option (List ℕ))
    × (((fault ≡ no_fault) × Assembled (Some text) left written)
    ⊎ ((why : TextError) × (fault ≡ fault_of (text_number why)) × (written ≡ []) × TextRefused (Some text) left why))

-- P4 files of these images stand one behind the other in bytes, and this is left behind them.
abbrev pub StandBefore : (bytes left : List ℕ) → List Page → Type 0
StandBefore bytes left [] = bytes ≡ left
StandBefore bytes left (image ∷ images) = (file rest : List ℕ) × IsFile image file × (bytes ≡ file ++ rest) × StandBefore rest left images

-- Bytes are P4 files, one behind the other, of these images.
abbrev pub AreImages : (bytes : List ℕ) → List Page → Type 0
AreImages bytes images = StandBefore bytes [] images

-- Why bytes are no images: behind some, what is left is no P4 file; or memory ran out.
abbrev pub AreNoImages : (bytes : List ℕ) → JobFileError → Type 0
AreNoImages bytes (jobs.Image why) =
    (images : List Page) × (rest : List ℕ) × (left : Option (List ℕ)) × StandBefore bytes rest images × Refused why (Some rest) left
AreNoImages bytes jobs.NoMemory = ⊤
AreNoImages bytes other = ⊥

-- The job of a ticket with these images is written, which prints it; or, by the fault, a front of it, or nothing (`write_job`).
abbrev pub WritesOrStops : (job : JobTicket) (images : List Page) (fault : ℕ) (written : List ℕ) → Type 0
WritesOrStops job images fault written =
    ((fault ≡ no_fault) × WritesAJob job images (Some []) (Some written))
    ⊎ ((why : WriterError) × (fault ≡ fault_of (writer_number why)) × WritesNoJob job images (Some []) (Some written) why)

-- A text is a ticket, and bytes are images, of which this holds.
pub record HasTicketAndImages (text files : List ℕ) (Of : JobTicket → List Page → Type 0) : Type 0 where
  pub left : Option (List ℕ)
  pub job : JobTicket
  pub images : List Page
  pub ticket_read : TicketRead (Some text) left job
  pub images_read : AreImages files images
  pub holds : Of job images

-- A text is no ticket, or bytes are no images, for this reason.
abbrev pub HasNoTicketOrImages : (text files : List ℕ) → JobFileError → Type 0
HasNoTicketOrImages text files why = ((left : Option (List ℕ)) × TicketRefused (Some text) left why) ⊎ AreNoImages files why

-- The job of a ticket with images is written, or not, and why (`ticket_in`, `read_pbm`, `write_job`).
abbrev pub JobOf : (text files : List ℕ) (fault : ℕ) (written : List ℕ) → Type 0
JobOf text files fault written =
    HasTicketAndImages text files (λ job images. WritesOrStops job images fault written)
    ⊎ ((why : JobFileError) × (fault ≡ fault_of (job_number why)) × (written ≡ []) × HasNoTicketOrImages text files why)

-- The version of the press, and the kit that proved it.
abbrev pub VersionOf : (fault : ℕ) (written : List ℕ) → Type 0
VersionOf fault written = (fault ≡ no_fault) × (written ≡ codes "1.0.0 (proved by rattle-kit-13f)")
