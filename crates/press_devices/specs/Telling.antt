-- What is told where faults are told, text behind text, and how calls that tell why they stopped end.
use Rattle.std.specs.Prelude.{◌≡◌, ◌≢◌, ℕ, List, [], ◌∷◌, Option, Some, None, codes}
use Rattle.std.specs.Fmt.{option_append}
use Rattle.std.specs.Io.KnownBytes.{Appends}

-- A text was told, and nothing else; where its bytes are not known, some text was.
abbrev pub Tells : (said says : Option (List ℕ)) → (text : Option (List ℕ)) → Type 0
Tells said says (Some text) = Appends said says text
Tells said says None = (text : List ℕ) × Appends said says text

-- that an answer, a text, a line or a listing cannot be written
abbrev pub output_text : List ℕ
output_text = codes "fault output"

-- a text as a line
abbrev pub as_line : Option (List ℕ) → Option (List ℕ)
as_line text = option_append text (Some (10 ∷ []))

-- How a call ended: with status 0, when all was done and nothing was told; or with status 1, when what was told is why it stopped, in
-- one line, and nothing else.
pub record Ended {Why : Type 0} (status : ℕ) (said says : Option (List ℕ)) (text : Why → Option (List ℕ)) (Done : Type 0) (Stops : Why → Type 0) : Type 0 where
  pub done : status ≡ 0 → (says ≡ said) × Done
  pub stops : status ≢ 0 → (status ≡ 1) × (why : Why) × Tells said says (as_line (text why)) × Stops why
