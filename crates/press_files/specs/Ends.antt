-- How a stream that is printed ends, and the job of a ticket: each as a relation of the edges before and after, with the status.
use Rattle.std.specs.Prelude.{◌≡◌, ℕ, Bool, List, ◌++◌, IfSome, map}
use Rattle.press_devices.specs.Telling.{Ended}
use Rattle.press_files.specs.Causes.{making, making_out}
use Rattle.press_files.specs.Change.{change}
use Rattle.press_files.specs.Edge.{Edge, Inputs, MakesNothing, WritesNothing, between, fails_of}
use Rattle.press_files.specs.Files.{MakesFiles, PrintsFiles}
use Rattle.press_files.specs.JobCauses.{JobCause}
use Rattle.press_files.specs.JobFaults.{told_of_job}
use Rattle.press_files.specs.Jobs.{MakesTheTicket, StopsMakingJob, StopsWriting, WritesTheTicket}
use Rattle.press_files.specs.Listing.{ListsBy, PrintsListing}
use Rattle.press_files.specs.NamedInputs.{NamedInput}

-- The stream of these bytes, and of what the reader has behind them, was printed and listed, with sums or without. No output is made.
abbrev pub PrintingList : (sums : Bool) (front : List ℕ) (status : ℕ) (before after : Edge) → Type 0
PrintingList sums front status before after = PrintsListing sums front status (between before after) × MakesNothing before after

-- With status 0 the listing of all of it was written, where it is known what the reader had.
abbrev pub ListsItAll : (sums : Bool) (front : List ℕ) (status : ℕ) (before after : Edge) → Type 0
ListsItAll sums front status before after =
    status ≡ 0 → IfSome before.unread (λ bytes. ListsBy sums (front ++ bytes) before.written after.written)

-- The same stream was printed to files by a template.
abbrev pub PrintingFiles : (front template : List ℕ) (status : ℕ) (before after : Edge) → Type 0
PrintingFiles front template status before after = PrintsFiles front template status (between before after)

-- With status 0 the files of all of it were made, where it is known what the reader had.
abbrev pub MakesItAll : (front template : List ℕ) (status : ℕ) (before after : Edge) → Type 0
MakesItAll front template status before after =
    status ≡ 0 → IfSome before.unread (λ bytes. MakesFiles template (front ++ bytes) before.made after.made)

-- An output of this name was made, the job of a ticket with the images of the inputs of these names, or not. Standard output takes nothing.
abbrev pub Writing : (name : List ℕ) (names : List (List ℕ)) → Inputs → (status : ℕ) (before after : Edge) → Type 0
Writing name names inputs status before after =
    let images : List NamedInput = map inputs.named names in
    Ended status before.told after.told told_of_job
    (MakesTheTicket name before.unread after.unread images before.made after.made)
    (λ why.
    StopsMakingJob name before.unread after.unread images (change before.made after.made) why
    × JobCause (making (fails_of after)) before.unread after.unread images why)
    × WritesNothing before after

-- The same job was written to standard output, or not. No output is made.
abbrev pub WritingOut : (names : List (List ℕ)) → Inputs → (status : ℕ) (before after : Edge) → Type 0
WritingOut names inputs status before after =
    let images : List NamedInput = map inputs.named names in
    Ended status before.told after.told told_of_job
    (WritesTheTicket before.unread after.unread images before.written after.written)
    (λ why.
    StopsWriting before.unread after.unread images before.written after.written why
    × JobCause (making_out (fails_of after)) before.unread after.unread images why)
    × MakesNothing before after
