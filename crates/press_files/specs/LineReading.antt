-- A reader of lines: what it holds, and what it gives.
use Rattle.std.specs.Prelude.{◌≡◌, ◌+◌, ◌-◌, ◌*◌, ℕ, Bool, true, false, List, [], ◌∷◌, ◌++◌, length, drop, Option, Result, Ok, Err}
use Rattle.std.specs.Io.KnownBytes.{Consumes, IsAtEnd}
use Rattle.press_devices.specs.Reading.{most_reads}
use Rattle.press_files.specs.declared.inputs.InputError.{InputError}
use Rattle.press_files.specs.declared.inputs.InputError.TheVariants.{ReadFault, NoMemory}
use Rattle.press_files.specs.declared.line_reader.LineReader.{LineReader}
use Rattle.press_words.specs.Lines.{BeginsWith, HasNoFeed, HasWhole}

-- what a reader of lines holds: bytes that were read, and not given yet
abbrev pub held : LineReader → List ℕ
held lines = drop lines.given lines.piece.items

-- how many reads it may make yet
abbrev pub reads_left : LineReader → ℕ
reads_left lines = most_reads - lines.count.reads

-- the most bytes that are read at once
abbrev pub longest_piece : ℕ
longest_piece = 16384

-- the most bytes that it may give yet
abbrev pub bytes_left : LineReader → ℕ
bytes_left lines = length (held lines) + longest_piece * reads_left lines

-- What was held was added to a line: up to a line feed, behind which the rest is held; or all, where none stood there.
abbrev pub TakesLine : Bool → (held left : List ℕ) → (old new : List ℕ) → Type 0
TakesLine true held left old new = (prefix : List ℕ) × HasNoFeed prefix × (held ≡ prefix ++ 10 ∷ left) × (new ≡ old ++ prefix)
TakesLine false held left old new = HasNoFeed held × (left ≡ []) × (new ≡ old ++ held)

-- A piece was read and is held; or the reader was at its end.
abbrev pub Refills : Result Bool InputError → (held : List ℕ) → (had left : Option (List ℕ)) → Type 0
Refills (Ok true) held had left = Consumes had left held
Refills (Ok false) held had left = Consumes had left [] × (held ≡ []) × IsAtEnd left
Refills (Err ReadFault) held had left = Consumes had left []
Refills (Err NoMemory) held had left = (read : List ℕ) × Consumes had left read

-- What was held before and what was read are a line with its line feed, and what is held; or a line without one, at the end; or, where a
-- read failed, what no line feed stands in.
abbrev pub GivesLine : Result Bool InputError → (held left : List ℕ) → (had has : Option (List ℕ)) → (line : List ℕ) → Type 0
GivesLine (Ok true) held left had has line =
    (read : List ℕ) × Consumes had has read × HasNoFeed line × (held ++ read ≡ line ++ 10 ∷ left)
GivesLine (Ok false) held left had has line =
    (read : List ℕ) × Consumes had has read × HasNoFeed line × (held ++ read ≡ line) × IsAtEnd has
GivesLine (Err ReadFault) held left had has line =
    (read : List ℕ) × Consumes had has read × HasNoFeed line × (held ++ read ≡ line)
GivesLine (Err NoMemory) held left had has line = (read : List ℕ) × Consumes had has read

-- No line was read behind these lines of a text: they are all that were read whole, where a read failed.
abbrev pub ReadsNoMore : InputError → (text : List ℕ) → List (List ℕ) → Type 0
ReadsNoMore ReadFault text lines = HasWhole text lines
ReadsNoMore NoMemory text lines = BeginsWith text lines
