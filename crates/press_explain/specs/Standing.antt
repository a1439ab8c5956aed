-- Where a stream stands that is explained as its pieces come.
use Rattle.std.specs.Prelude.{◌≡◌, ◌≤◌, ◌+◌, ◌-◌, ℕ, List, [], ◌++◌, length, Option, Some, IsSome, Bool, true, false}
use Rattle.press_cmd.specs.Token.{Token}
use Rattle.press_cmd.specs.ParserState.{Exit}
use Rattle.press_scan.specs.Gives.{IsDone, Passes}
use Rattle.press_scan.specs.ScannerState.{ScannerState}
use Rattle.press_bits.specs.Page.{Page}
use Rattle.press_sink.specs.Sending.{reply_bytes_of}
use Rattle.press_sink.specs.Kept.{replied}
use Rattle.press_engine.specs.Engine.{bodies, machine_of}
use Rattle.press_engine.specs.Fold.{run}
use Rattle.press_engine.specs.Machine.{power_on}
use Rattle.press_engine.specs.declared.machine.Machine.{Machine}
use Rattle.press_engine.specs.declared.view.View.{View}
use Rattle.press_trace.specs.Lines.{IsViewOf}
use Rattle.press_trace.specs.Pages.{IsPageTold, change_data, opened_data}
use Rattle.press_trace.specs.Places.{Piece, ArePrefix, AreWhole}
use Rattle.press_trace.specs.Seen.{IsAlike}
use Rattle.press_explain.specs.Explained.{AreExplained, IsExitExplained, IsExplained, behind}
use Rattle.press_explain.specs.declared.carrying.Done.{Done}
use Rattle.press_explain.specs.declared.explainer.Explainer.{Explainer}

-- no byte came
pub record IsAtStart (now : Explainer) : Type 0 where
  pub mode : now.scanner.mode ≡ Exit
  pub none : now.scanner.bytes ≡ []
  pub going : now.scanner.ended ≡ false
  pub nothing : now.length ≡ 0
  pub machine : machine_of now.engine ≡ Some power_on

-- an engine that can go on, and the page that is shown is its open page
abbrev pub IsShown : Option Machine → Option Page → Type 0
IsShown machine page = (now : Machine) → machine ≡ Some now → page ≡ now.state.page

-- What is true between two commands.
pub record IsSound (now : Explainer) : Type 0 where
  pub running : IsSome (machine_of now.engine)
  pub idle : bodies now.engine ≡ []
  pub shown : IsShown (machine_of now.engine) now.page
  pub within : length now.scanner.bytes ≤ now.length

-- What a command did: what could be seen before it, what changed of the open page, as a trace tells it, and what was replied.
pub record IsDoneBy (command : Token) (before : Machine) (done : Done) : Type 0 where
  pub was : (view : View) → IsAlike done.was view → IsViewOf before view
  pub opened : Bool
  pub page : IsPageTold before.state.page (run command before).machine.state.page
      (opened_data opened (run command before).machine.state.page) (change_data done.change (run command before).machine.state.page)
  pub replies : replied done.replies ≡ reply_bytes_of (run command before).outputs

-- a command was carried out on a machine, and did this
abbrev pub CarriesOut : Token → Option Machine → Done → Option Machine → Type 0
CarriesOut command old done new =
    (machine : Machine) × (old ≡ Some machine) × (new ≡ Some (run command machine).machine) × IsDoneBy command machine done

-- The next command was explained; or none is left of the bytes that came.
abbrev pub ExplainsNext : (at : ℕ) → (held : ScannerState) → Option Machine → (before : List ℕ) → (some : Bool) → (next : ScannerState) → Option Machine → (after : List ℕ) → Type 0
ExplainsNext at held old before true next new after =
    (command : Token) × (machine : Machine) × (line : List ℕ) × Passes held command next × (old ≡ Some machine)
    × (new ≡ Some (run command machine).machine) × IsExplained at command machine line × (after ≡ before ++ line)
ExplainsNext at held old before false next new after = IsDone held × (next ≡ held) × (new ≡ old) × (after ≡ before)

-- the exit was explained
abbrev pub ExplainsExit : (at : ℕ) → Option Machine → (before after : List ℕ) → Type 0
ExplainsExit at old before after =
    (machine : Machine) × (line : List ℕ) × (old ≡ Some machine) × IsExitExplained at machine line × (after ≡ before ++ line)

-- with a piece of the stream behind what came
abbrev pub with_more : List ℕ → Explainer → Explainer
with_more piece now = record now { scanner = record now.scanner { bytes = now.scanner.bytes ++ piece }; length = now.length + length piece }

-- The next command was explained, where it stands; or none is left.
pub record Explains (old : Explainer) (before : List ℕ) (some : Bool) (new : Explainer) (after : List ℕ) : Type 0 where
  pub next : ExplainsNext (old.length - length old.scanner.bytes) old.scanner (machine_of old.engine) before some new.scanner (machine_of new.engine) after
  pub long : new.length ≡ old.length

-- the exit was explained, behind all bytes
abbrev pub Finishes : Explainer → (before after : List ℕ) → Type 0
Finishes old before after = ExplainsExit old.length (machine_of old.engine) before after

-- It stands behind these pieces of a stream of which these bytes came, and this was said of them.
pub record StandsBehind (bytes said : List ℕ) (now : Explainer) : Type 0 where
  pub pieces : List Piece
  pub prefix : ArePrefix Exit bytes pieces now.scanner.mode now.scanner.bytes
  pub whole : now.scanner.ended ≡ false → AreWhole Exit bytes pieces now.scanner.mode now.scanner.bytes
  pub machine : machine_of now.engine ≡ Some (behind pieces power_on)
  pub explained : AreExplained 0 pieces power_on said
  pub long : now.length ≡ length bytes

-- It went on, and this was said.
pub record GoesOn (old : Explainer) (before : List ℕ) (new : Explainer) (after : List ℕ) : Type 0 where
  pub added : List ℕ
  pub text : after ≡ before ++ added
  pub ended : new.scanner.ended ≡ old.scanner.ended
  pub long : new.length ≡ old.length
  pub stands : (bytes said : List ℕ) → StandsBehind bytes said old → StandsBehind bytes (said ++ added) new
