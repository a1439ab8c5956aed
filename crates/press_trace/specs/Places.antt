-- Which bytes of a stream its commands are, and the items of its trace with these places.
use Rattle.std.specs.Prelude.{◌≡◌, ◌⊎◌, ◌+◌, ℕ, List, [], ◌∷◌, ◌++◌, length, map}
use Rattle.press_cmd.specs.Token.{Token, Uel}
use Rattle.press_cmd.specs.ParserState.{ParserState, Exit}
use Rattle.press_cmd.specs.Grammar.{Head, scanned_in}
use Rattle.press_cmd.specs.Split.{NoHead}
use Rattle.press_scan.specs.Gives.{ClosesAs}
use Rattle.press_engine.specs.declared.machine.Machine.{Machine}
use Rattle.press_engine.specs.Machine.{StepResult, power_on, macro_levels}
use Rattle.press_engine.specs.Trace.{last_machine, trace_at}
use Rattle.press_trace.specs.declared.place.Place.{Place}

-- A command of a stream, and the bytes that it is.
pub record Piece : Type 0 where
  pub bytes : List ℕ
  pub command : Token

-- The piece stands at the front of bytes of which these are left behind it: its command is their head; or, where the input ends
-- and they have none, the first of those that they stand for.
abbrev pub Opens : ParserState → Piece → (left : List ℕ) → ParserState → Type 0
Opens mode piece left next =
    Head mode piece.bytes left piece.command next
    ⊎ (NoHead mode (piece.bytes ++ left)
    × ClosesAs (scanned_in mode (piece.bytes ++ left)) piece.bytes left piece.command next)

-- The pieces stand one behind the other, from the front of the bytes on; these bytes are left.
abbrev pub ArePrefix : ParserState → List ℕ → List Piece → ParserState → (left : List ℕ) → Type 0
ArePrefix from bytes [] mode left = (from ≡ mode) × (bytes ≡ left)
ArePrefix from bytes (piece ∷ pieces) mode left =
    (behind : List ℕ) × (next : ParserState) × (bytes ≡ piece.bytes ++ behind)
    × Opens from piece behind next × ArePrefix next behind pieces mode left

-- The pieces of a stream that ends here: nothing is left.
abbrev pub ArePieces : List ℕ → List Piece → Type 0
ArePieces bytes pieces = (mode : ParserState) × ArePrefix Exit bytes pieces mode []

-- The pieces stand one behind the other and are whole commands, whatever comes behind them; these bytes are left.
abbrev pub AreWhole : ParserState → List ℕ → List Piece → ParserState → (left : List ℕ) → Type 0
AreWhole from bytes [] mode left = (from ≡ mode) × (bytes ≡ left)
AreWhole from bytes (piece ∷ pieces) mode left =
    (behind : List ℕ) × (next : ParserState) × (bytes ≡ piece.bytes ++ behind)
    × Head from piece.bytes behind piece.command next × AreWhole next behind pieces mode left

-- their commands
abbrev pub commands_of : List Piece → List Token
commands_of pieces = map (λ (piece : Piece). piece.command) pieces

-- an item of a trace, with the place of the command of the stream to which it belongs
pub record Placed : Type 0 where
  pub place : Place
  pub run : StepResult

abbrev pub placed_at : Place → List StepResult → List Placed
placed_at place runs = map (λ run. record { place = place; run = run }) runs

-- the bytes from `at` on, `bytes` of them
abbrev pub from_on : (at bytes : ℕ) → Place
from_on at bytes = record { at = at; bytes = bytes }

-- the machine behind a command outside of bodies
abbrev pub machine_behind : Token → Machine → Machine
machine_behind command machine = last_machine machine (trace_at macro_levels command machine)

-- The items of pieces, of which the first stands at this place.
abbrev pub placed_from : (at : ℕ) → List Piece → Machine → List Placed
placed_from at [] machine = []
placed_from at (piece ∷ pieces) machine =
    placed_at (from_on at (length piece.bytes)) (trace_at macro_levels piece.command machine)
    ++ placed_from (at + length piece.bytes) pieces (machine_behind piece.command machine)

-- the machine behind pieces
abbrev pub machine_after : List Piece → Machine → Machine
machine_after [] machine = machine
machine_after (piece ∷ pieces) machine = machine_after pieces (machine_behind piece.command machine)

-- The items of the universal exit that is added at the end: no byte stands for it.
abbrev pub placed_exit : (at : ℕ) → Machine → List Placed
placed_exit at machine = placed_at (from_on at 0) (trace_at macro_levels Uel machine)

-- The trace of a stream with its places.
abbrev pub IsPlacedTrace : List ℕ → List Placed → Type 0
IsPlacedTrace bytes placed =
    (pieces : List Piece) × ArePieces bytes pieces
    × (placed ≡ placed_from 0 pieces power_on ++ placed_exit (length bytes) (machine_after pieces power_on))

-- The trace so far with its places: that of the pieces of these bytes that are whole, behind which no command stands.
abbrev pub IsPlacedSoFar : List ℕ → List Placed → Type 0
IsPlacedSoFar bytes placed =
    (pieces : List Piece) × (mode : ParserState) × (rest : List ℕ) × AreWhole Exit bytes pieces mode rest × NoHead mode rest
    × (placed ≡ placed_from 0 pieces power_on)

-- without the places
abbrev pub runs_of : List Placed → List StepResult
runs_of placed = map (λ (one : Placed). one.run) placed
