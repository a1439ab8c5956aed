-- Talks: lines that are answered in order, and what is written of their answers.
use Rattle.std.specs.Prelude.{◌≡◌, ◌⊎◌, ℕ, List, [], ◌∷◌, ◌++◌, Option}
use Rattle.std.specs.declared.io.Error.{Error}
use Rattle.std.specs.Io.KnownBytes.{Consumes, Appends}
use Rattle.press_devices.specs.Writing.{AppendsPrefix}
use Rattle.press_asm.specs.Text.{lines_of}
use Rattle.press_files.specs.Change.{Change, change}
use Rattle.press_files.specs.declared.inputs.InputError.{InputError}
use Rattle.press_files.specs.Inputs.{ReadWhole}
use Rattle.press_files.specs.LineReading.{ReadsNoMore}
use Rattle.press_words.specs.Lines.{BeginsWith}

-- What is said of a talk: how it takes lines in order, from one state to another, with their answers; why a line has no answer, and which
-- state that leaves; and what is told where lines cannot be read, and where an answer cannot be written.
pub record Talking (S E : Type 0) : Type 1 where
  pub Takes : (lines : List (List ℕ)) → (old : S) → (answers : List ℕ) → (new : S) → Type 0
  pub Refuses : S → (line : List ℕ) → E → S → Type 0
  pub Unread : InputError → E → Type 0
  pub Unwritten : Error → E → Type 0

-- Lines were answered in order, each of them so, from one state to another.
abbrev pub AnswersLines : {S : Type 0} (Answers : S → List ℕ → List ℕ → S → Type 0) → (lines : List (List ℕ)) → (old : S) → (answers : List ℕ) → (new : S) → Type 0
AnswersLines Answers [] old answers new = (answers ≡ []) × (new ≡ old)
AnswersLines {S} Answers (line ∷ lines) old answers new =
    (answer others : List ℕ) × (next : S) × Answers old line answer next × AnswersLines Answers lines next others new × (answers ≡ answer ++ others)

-- the talk that answers each line so
abbrev pub line_by_line : {S E : Type 0} (Answers : S → List ℕ → List ℕ → S → Type 0) (Refuses : S → List ℕ → E → S → Type 0)
    (Unread : InputError → E → Type 0) (Unwritten : Error → E → Type 0)
    → Talking S E
line_by_line Answers Refuses Unread Unwritten =
    record { Takes = AnswersLines Answers; Refuses = Refuses; Unread = Unread; Unwritten = Unwritten }

-- All lines that a reader had, to its end, were answered; the answers were written, and nothing else.
pub record AnswersAll {S E : Type 0} (talk : Talking S E) (first : S) (had left old new : Option (List ℕ)) : Type 0 where
  pub text : List ℕ
  pub last : S
  pub answers : List ℕ
  pub read : ReadWhole had left text
  pub takes : talk.Takes (lines_of text) first answers last
  pub written : Appends old new answers

-- The same talk, where it is also said why lines are not read, and why answers are not written.
abbrev pub caused : {S E : Type 0} (talk : Talking S E) (Unreads : InputError → Type 0) (Unwrites : Type 0) → Talking S E
caused talk Unreads Unwrites = record talk {
  Unread = λ error why. talk.Unread error why × Unreads error;
  Unwritten = λ error why. talk.Unwritten error why × Unwrites;
}

-- What was written of the answer of a line at which a talk stopped: nothing, where it has none; or a prefix of it, where a write failed.
abbrev pub StopsAtLine : {S E : Type 0} (talk : Talking S E) (line : List ℕ) → (at ended : S) → (old new : Option (List ℕ)) → E → Type 0
StopsAtLine talk line at ended old new why =
    (talk.Refuses at line why ended × (new ≡ old))
    ⊎ ((error : Error) × talk.Unwritten error why × (answer : List ℕ) × talk.Takes (line ∷ []) at answer ended × AppendsPrefix old new answer)

-- Why it stopped behind these lines of a text, and in which state: at the next one, or where lines are read.
abbrev pub StopsBehind : {S E : Type 0} (talk : Talking S E) (text : List ℕ) (lines : List (List ℕ)) → (at ended : S) → Change (Option (List ℕ)) → E → Type 0
StopsBehind talk text lines at ended output why =
    ((line : List ℕ) × BeginsWith text (lines ++ line ∷ []) × StopsAtLine talk line at ended output.before output.after why)
    ⊎ ((error : InputError) × talk.Unread error why × ReadsNoMore error text lines × (output.after ≡ output.before) × (ended ≡ at))

-- The first lines of what was read were answered, and their answers written; and why the talk stopped behind them, in which state, and what
-- was written then.
pub record AnswersSome {S E : Type 0} (talk : Talking S E) (first : S) (had left : Option (List ℕ)) (output : Change (Option (List ℕ))) (why : E) : Type 0 where
  pub text : List ℕ
  pub lines : List (List ℕ)
  pub last : S
  pub ended : S
  pub answers : List ℕ
  pub between : Option (List ℕ)
  pub read : Consumes had left text
  pub takes : talk.Takes lines first answers last
  pub written : Appends output.before between answers
  pub stops : StopsBehind talk text lines last ended (change between output.after) why
