-- Reads, how many there were, and when they fail.
use Rattle.std.specs.Prelude.{◌≡◌, ◌≤◌, ◌==◌, ◌||◌, ◌⊎◌, ℕ, List, Bool, true, false, Option, Result, Ok, Err, length, take, ⊤}
use Rattle.std.specs.Io.KnownBytes.{Consumes, Keeps, IsAtEnd}
use Rattle.press_devices.specs.declared.reading.Piece.{Piece}
use Rattle.press_devices.specs.declared.reading.Piece.TheVariants as pieces
use Rattle.press_devices.specs.declared.reading.ReadCount.{ReadCount}
use Rattle.press_devices.specs.declared.reading.ReadFailed.{ReadFailed}

-- the most reads of one input
abbrev pub most_reads : ℕ
most_reads = 4294967295

-- what a read gave of what a reader had: bytes at the front of a buffer, none only at the end; or nothing
abbrev pub GivesPiece : (had left : Option (List ℕ)) (buffer : List ℕ) → Piece → Type 0
GivesPiece had left buffer (pieces.Bytes count) =
    (count ≤ length buffer) × Consumes had left (take count buffer) × (count ≡ 0 → IsAtEnd left)
GivesPiece had left buffer pieces.Interrupted = Keeps had left
GivesPiece had left buffer pieces.Failed = Keeps had left

-- a read neither failed nor was interrupted
abbrev pub GivesBytes : Piece → Type 0
GivesBytes (pieces.Bytes count) = ⊤
GivesBytes pieces.Interrupted = ⊥
GivesBytes pieces.Failed = ⊥

-- What the reads up to the next piece gave of what a reader had: bytes at the front of a buffer, none only at the end; or a read failed, or
-- there were too many, and nothing was read.
abbrev pub GivesNext : Result ℕ ReadFailed → (had left : Option (List ℕ)) → (buffer : List ℕ) → Type 0
GivesNext (Ok count) had left buffer = (count ≤ length buffer) × Consumes had left (take count buffer) × (count ≡ 0 → IsAtEnd left)
GivesNext (Err _) had left buffer = Keeps had left

-- whether a read failed, this one or one before
abbrev pub failed_after : Bool → Piece → Bool
failed_after failed pieces.Failed = true
failed_after failed pieces.Interrupted = failed
failed_after failed (pieces.Bytes count) = failed

-- whether a read gave no bytes, this one or one before
abbrev pub ended_after : Bool → Piece → Bool
ended_after ended pieces.Failed = ended
ended_after ended pieces.Interrupted = ended
ended_after ended (pieces.Bytes count) = ended || count == 0

-- nothing was read
abbrev pub no_reads : ReadCount
no_reads = record { reads = 0; failed = false; ended = false }

-- Why a reader is not read on, by what it tells: a read failed or was interrupted by now; or as many reads were made as an input has.
abbrev pub ReadFails : (failed : Bool) (reads : ℕ) → Type 0
ReadFails failed reads = (failed ≡ true) ⊎ (most_reads ≤ reads)

-- there is a reader of this type that is not read on, whether it was ever opened or not
abbrev pub SomeFails : {R : Type 0} → (failed : R → Bool) → (reads : R → ℕ) → Type 0
SomeFails {R} failed reads = (reader : R) × ReadFails (failed reader) (reads reader)

-- A read failed; or the most reads were made, and none of them gave no bytes.
abbrev pub HasFault : ReadCount → Type 0
HasFault count = (count.failed ≡ true) ⊎ ((count.reads ≡ most_reads) × (count.ended ≡ false))
