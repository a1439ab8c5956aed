-- Jobs of tickets, over readers, named inputs and writers.
use Rattle.std.specs.Prelude.{◌≡◌, ℕ, List, [], ◌∷◌, Option, None, Some, Ok, Err, ◌⊎◌, ⊤}
use Rattle.std.specs.Io.KnownBytes.{Consumes, Appends}
use Rattle.press_bits.specs.Page.{Page}
use Rattle.press_pbm.specs.File.{IsFile, Refused}
use Rattle.press_pbm.specs.declared.fault.ReadPbmError.TheVariants as image_fault
use Rattle.press_devices.specs.Writing.{AppendsPrefix}
use Rattle.press_sink.specs.Outputs.{MadeOutput, MakesPrefix, holding, with_outputs}
use Rattle.press_ticket.specs.Reading.{ticket_in}
use Rattle.press_ticket.specs.Ticket.{JobTicket}
use Rattle.press_ticket.specs.declared.fault.TicketError.{TicketError}
use Rattle.press_ticket.specs.declared.fault.TicketError.TheVariants as ticket_fault
use Rattle.press_writer.specs.Fitting.{refusal}
use Rattle.press_writer.specs.Job.{job_bytes}
use Rattle.press_printing.specs.Printing.{PrintsTheTicket}
use Rattle.press_writer.specs.declared.fault.WriterError.{WriterError}
use Rattle.press_writer.specs.declared.fault.WriterError.TheVariants.{WriteFault, NoMemory}
use Rattle.press_files.specs.Change.{Change}
use Rattle.press_files.specs.Inputs.{ReadWhole}
use Rattle.press_files.specs.NamedInputs.{NamedInput}
use Rattle.press_files.specs.declared.inputs.InputError.TheVariants as input_fault
use Rattle.press_files.specs.declared.jobs.JobFileError.{JobFileError}
use Rattle.press_files.specs.declared.jobs.JobFileError.TheVariants as fault

-- What a reader had, to its end, is this ticket.
pub record TicketRead (had left : Option (List ℕ)) (ticket : JobTicket) : Type 0 where
  pub text : List ℕ
  pub read : ReadWhole had left text
  pub ticket_of_text : ticket_in text ≡ Ok ticket

-- What a reader had, to its end, is no ticket, and this is why.
pub record NoTicketRead (had left : Option (List ℕ)) (why : TicketError) : Type 0 where
  pub text : List ℕ
  pub read : ReadWhole had left text
  pub refused : ticket_in text ≡ Err why

-- What was read of a reader is a P4 file of this image.
pub record ImageRead (had left : Option (List ℕ)) (image : Page) : Type 0 where
  pub file : List ℕ
  pub image_of_file : IsFile image file
  pub read : Consumes had left file

-- What an input had begins with a P4 file of this image.
abbrev pub HasImage : (had : Option (List ℕ)) → Page → Type 0
HasImage had image = (left : Option (List ℕ)) × ImageRead had left image

-- Each input had an image, and these are the images in the order of the inputs.
abbrev pub HaveImages : List NamedInput → List Page → Type 0
HaveImages [] [] = ⊤
HaveImages (input ∷ inputs) (image ∷ images) = HasImage input.bytes image × HaveImages inputs images
HaveImages _ _ = ⊥

-- The ticket fits these images, and its job with them was written, which prints it.
pub record WritesAJob (ticket : JobTicket) (images : List Page) (old new : Option (List ℕ)) : Type 0 where
  pub fits : refusal ticket images ≡ None
  pub written : Appends old new (job_bytes ticket images)
  pub prints : PrintsTheTicket ticket images (job_bytes ticket images)

-- The ticket fits these images, and a prefix of its job with them was written.
pub record WritesAPrefix (ticket : JobTicket) (images : List Page) (old new : Option (List ℕ)) : Type 0 where
  pub fits : refusal ticket images ≡ None
  pub written : AppendsPrefix old new (job_bytes ticket images)

-- What was written of a job that was not written whole: a prefix of it, where a write failed or memory ran out; else nothing, and
-- this is why the ticket does not fit the images.
abbrev pub WritesNoJob : JobTicket → List Page → (old new : Option (List ℕ)) → WriterError → Type 0
WritesNoJob ticket images old new WriteFault = WritesAPrefix ticket images old new
WritesNoJob ticket images old new NoMemory = WritesAPrefix ticket images old new
WritesNoJob ticket images old new why = (refusal ticket images ≡ Some why) × Appends old new []

-- The ticket fits these images, and an output of this name was made, which holds its job with them; that prints it.
pub record MakesAJob (name : List ℕ) (ticket : JobTicket) (images : List Page) (before after : Option (List MadeOutput)) : Type 0 where
  pub fits : refusal ticket images ≡ None
  pub made : after ≡ with_outputs (holding name (job_bytes ticket images) ∷ []) before
  pub prints : PrintsTheTicket ticket images (job_bytes ticket images)

-- The ticket fits these images, and a prefix of the output was made, since it cannot be made or written, or memory ran out.
pub record MakesAPrefix (name : List ℕ) (ticket : JobTicket) (images : List Page) (before after : Option (List MadeOutput)) (why : WriterError) : Type 0 where
  pub fits : refusal ticket images ≡ None
  pub told : (why ≡ WriteFault) ⊎ (why ≡ NoMemory)
  pub made : MakesPrefix (holding name (job_bytes ticket images) ∷ []) before after

-- What was made of a job whose output was not made whole: nothing, and this is why the ticket does not fit the images; else a prefix.
abbrev pub MakesNoJob : (name : List ℕ) → JobTicket → List Page → (before after : Option (List MadeOutput)) → WriterError → Type 0
MakesNoJob name ticket images before after why =
    ((refusal ticket images ≡ Some why) × (after ≡ before)) ⊎ MakesAPrefix name ticket images before after why

-- A reader had a ticket and the inputs had images in their order, of which this holds.
pub record HasTicket (had left : Option (List ℕ)) (inputs : List NamedInput) (Of : JobTicket → List Page → Type 0) : Type 0 where
  pub ticket : JobTicket
  pub images : List Page
  pub ticket_read : TicketRead had left ticket
  pub images_read : HaveImages inputs images
  pub job : Of ticket images

-- The job of the ticket that a reader had was written, with the images that the inputs had in their order.
abbrev pub WritesTheTicket : (had left : Option (List ℕ)) (inputs : List NamedInput) (old new : Option (List ℕ)) → Type 0
WritesTheTicket had left inputs old new = HasTicket had left inputs (λ ticket images. WritesAJob ticket images old new)

-- The same was made an output of this name.
abbrev pub MakesTheTicket : (name : List ℕ) (had left : Option (List ℕ)) (inputs : List NamedInput) (before after : Option (List MadeOutput)) → Type 0
MakesTheTicket name had left inputs before after = HasTicket had left inputs (λ ticket images. MakesAJob name ticket images before after)

-- Why a reader gave no ticket, by the fault: what it had is none; else it cannot be read, or memory ran out.
abbrev pub TicketRefused : (had left : Option (List ℕ)) → JobFileError → Type 0
TicketRefused had left (fault.Ticket ticket_fault.NoMemory) = ⊤
TicketRefused had left (fault.Ticket why) = NoTicketRead had left why
TicketRefused had left (fault.Input why) = ⊤
TicketRefused had left other = ⊥

-- Why an input gave no image, by the fault: what it had begins with no P4 file; or it, or some input of its type, is not read on (114); else
-- it may be one that cannot be opened, or memory ran out.
abbrev pub ImageRefused : NamedInput → JobFileError → Type 0
ImageRefused input (fault.Image why) =
    (left : Option (List ℕ)) × Refused why input.bytes left × (why ≡ image_fault.ReadFault → input.Failed)
ImageRefused input (fault.Input input_fault.ReadFault) = input.IsMissing
ImageRefused input (fault.Input input_fault.NoMemory) = ⊤
ImageRefused input other = ⊥

-- The first inputs had images, and the one after them gave none.
abbrev pub LacksAnImage : List NamedInput → JobFileError → Type 0
LacksAnImage [] why = ⊥
LacksAnImage (input ∷ inputs) why = ImageRefused input why ⊎ ((image : Page) × HasImage input.bytes image × LacksAnImage inputs why)

-- Why inputs gave no images: one gave none, or memory ran out.
abbrev pub ImagesRefused : (inputs : List NamedInput) → JobFileError → Type 0
ImagesRefused inputs why = LacksAnImage inputs why ⊎ (why ≡ fault.NoMemory)

-- The reader gave no ticket, and nothing was written or made.
pub record StopsAtTheTicket {T : Type 0} (had left : Option (List ℕ)) (old new : T) (why : JobFileError) : Type 0 where
  pub refused : TicketRefused had left why
  pub unwritten : new ≡ old

-- The reader had a ticket, the inputs gave no images, and nothing was written or made.
pub record StopsAtAnImage {T : Type 0} (had left : Option (List ℕ)) (inputs : List NamedInput) (old new : T) (why : JobFileError) : Type 0 where
  pub ticket : JobTicket
  pub ticket_read : TicketRead had left ticket
  pub refused : ImagesRefused inputs why
  pub unwritten : new ≡ old

-- The reader had a ticket and the inputs had images, and of its job with them this holds.
abbrev pub StopsAtTheJob : (had left : Option (List ℕ)) (inputs : List NamedInput) (Of : JobTicket → List Page → WriterError → Type 0) → JobFileError → Type 0
StopsAtTheJob had left inputs Of why =
    (error : WriterError) × (why ≡ fault.Writer error) × HasTicket had left inputs (λ ticket images. Of ticket images error)

-- Why no job was written whole, and what was written then: the ticket is asked first, then the images in their order, and then
-- whether they fit.
abbrev pub StopsWriting : (had left : Option (List ℕ)) (inputs : List NamedInput) (old new : Option (List ℕ)) → JobFileError → Type 0
StopsWriting had left inputs old new why =
    StopsAtTheTicket had left old new why ⊎ StopsAtAnImage had left inputs old new why
    ⊎ StopsAtTheJob had left inputs (λ ticket images error. WritesNoJob ticket images old new error) why

-- The same of an output of this name that was not made whole.
abbrev pub StopsMakingJob : (name : List ℕ) (had left : Option (List ℕ)) (inputs : List NamedInput) (made : Change (Option (List MadeOutput))) → JobFileError → Type 0
StopsMakingJob name had left inputs made why =
    StopsAtTheTicket had left made.before made.after why ⊎ StopsAtAnImage had left inputs made.before made.after why
    ⊎ StopsAtTheJob had left inputs (λ ticket images error. MakesNoJob name ticket images made.before made.after error) why
