-- A stream explained: a line of assembly text for each of its commands, and a remark in front of it.
use Rattle.std.specs.Prelude.{◌≡◌, ◌⊎◌, ◌+◌, ℕ, List, [], ◌∷◌, ◌++◌, length, codes, Bool, Option}
use Rattle.std.specs.Io.KnownBytes.{Appends, Consumes, IsAtEnd}
use Rattle.press_devices.specs.Writing.{AppendsPrefix}
use Rattle.press_cmd.specs.ParserState.{ParserState, Exit}
use Rattle.press_cmd.specs.Split.{NoHead}
use Rattle.press_cmd.specs.Token.{Token, Uel}
use Rattle.press_asm.specs.Written.{written_line}
use Rattle.press_sink.specs.Sending.{reply_bytes_of}
use Rattle.press_engine.specs.Fold.{run}
use Rattle.press_engine.specs.Machine.{StepResult, power_on}
use Rattle.press_engine.specs.declared.machine.Machine.{Machine}
use Rattle.press_engine.specs.declared.view.View.{View}
use Rattle.press_trace.specs.Lines.{IsViewOf}
use Rattle.press_trace.specs.Pages.{IsPageTold, change_data, opened_data}
use Rattle.press_trace.specs.Places.{Piece, ArePieces, ArePrefix, AreWhole}
use Rattle.press_trace.specs.declared.fault.TraceError.{TraceError}
use Rattle.press_trace.specs.declared.fault.TraceError.TheVariants.{ReadFault, Output, NoMemory}
use Rattle.press_trace.specs.declared.page.Change.{Change}
use Rattle.press_explain.specs.Remarks.{effect_said, named, outcome, remark, remark_line}

-- What is said of a command that was carried out whole: of what could be seen before it and behind it, of what changed of the open page, as a trace
-- tells it, and of the replies that went out.
abbrev pub Saying : Type 0
Saying = (was now : View) → Change → (replies : List ℕ) → List ℕ

pub record Says (saying : Saying) (before : Machine) (run : StepResult) (text : List ℕ) : Type 0 where
  pub was : View
  pub now : View
  pub opened : Bool
  pub change : Change
  pub was_is : IsViewOf before was
  pub now_is : IsViewOf run.machine now
  pub page_is :
      IsPageTold before.state.page run.machine.state.page (opened_data opened run.machine.state.page) (change_data change run.machine.state.page)
  pub text_is : text ≡ saying was now change (reply_bytes_of run.outputs)

-- A command that begins there: the remark on it, and its line.
abbrev pub IsExplained : (at : ℕ) → Token → Machine → List ℕ → Type 0
IsExplained at command machine text =
    (said : List ℕ) × Says (remark at (named command)) machine (run command machine) said
    × (text ≡ said ++ (written_line command ++ 10 ∷ []))

-- The universal exit that is added at the end: the remark on it alone.
abbrev pub exit_name : List ℕ
exit_name = codes "the end, where a universal exit is added"

abbrev pub exit_remark : (at : ℕ) → Saying
exit_remark at was now change replies = remark_line at exit_name (effect_said (outcome was now) was now change replies)

abbrev pub IsExitExplained : (at : ℕ) → Machine → List ℕ → Type 0
IsExitExplained at machine text = Says (exit_remark at) machine (run Uel machine) text

-- Pieces of a stream, of which the first begins there, each carried out on the machine that the one before it left.
abbrev pub AreExplained : (at : ℕ) → List Piece → Machine → List ℕ → Type 0
AreExplained at [] machine text = text ≡ []
AreExplained at (piece ∷ pieces) machine text =
    (here rest : List ℕ) × IsExplained at piece.command machine here
    × AreExplained (at + length piece.bytes) pieces (run piece.command machine).machine rest × (text ≡ here ++ rest)

-- the machine that they leave
abbrev pub behind : List Piece → Machine → Machine
behind [] machine = machine
behind (piece ∷ pieces) machine = behind pieces (run piece.command machine).machine

-- The explanation of a stream: of its pieces from power on, and of the exit.
pub record IsExplanation (bytes text : List ℕ) : Type 0 where
  pub pieces : List Piece
  pub are : ArePieces bytes pieces
  pub body : List ℕ
  pub last : List ℕ
  pub explained : AreExplained 0 pieces power_on body
  pub exit : IsExitExplained (length bytes) (behind pieces power_on) last
  pub text_is : text ≡ body ++ last

-- That of a stream that may go on: of all its commands that are whole.
pub record ExplainsWhole (bytes text : List ℕ) : Type 0 where
  pub pieces : List Piece
  pub mode : ParserState
  pub rest : List ℕ
  pub whole : AreWhole Exit bytes pieces mode rest
  pub short : NoHead mode rest
  pub explained : AreExplained 0 pieces power_on text

-- that of the first pieces of a stream
pub record ExplainsFirst (bytes text : List ℕ) : Type 0 where
  pub pieces : List Piece
  pub mode : ParserState
  pub left : List ℕ
  pub prefix : ArePrefix Exit bytes pieces mode left
  pub explained : AreExplained 0 pieces power_on text

-- of the first pieces, or of all with the exit
abbrev pub ExplainsSome : (bytes text : List ℕ) → Type 0
ExplainsSome bytes text = ExplainsFirst bytes text ⊎ IsExplanation bytes text

-- A reader had a stream, and its explanation was written, and nothing else.
abbrev pub Explained : (had left old new : Option (List ℕ)) → Type 0
Explained had left old new =
    (bytes text : List ℕ) × Consumes had left bytes × IsAtEnd left × IsExplanation bytes text × Appends old new text

-- What was written of a stream that was not explained to its end, by the fault: where a read failed, all whole commands of the bytes before were
-- explained; where memory ran out, the first commands of the bytes that were read; and where a write failed, a prefix of such text was written.
abbrev pub StopsExplaining : (had left old new : Option (List ℕ)) → TraceError → Type 0
StopsExplaining had left old new ReadFault = (bytes text : List ℕ) × Consumes had left bytes × ExplainsWhole bytes text × Appends old new text
StopsExplaining had left old new NoMemory = (bytes text : List ℕ) × Consumes had left bytes × ExplainsSome bytes text × Appends old new text
StopsExplaining had left old new (Output error) = (bytes text : List ℕ) × Consumes had left bytes × ExplainsSome bytes text × AppendsPrefix old new text
