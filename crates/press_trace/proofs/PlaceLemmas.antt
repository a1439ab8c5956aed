-- Pieces of a stream, and the items of its trace with their places.
use Rattle.std.proofs.Common.{◌≡◌, ◌∙◌, ◌+◌, ℕ, List, [], ◌∷◌, ◌++◌, length, refl, ap, arith}
use Rattle.std.proofs.lemmas.List.{append_assoc, append-nil, map-append, length-append}
use Rattle.press_cmd.specs.ParserState.{ParserState}
use Rattle.press_cmd.specs.Grammar.{Head}
use Rattle.press_cmd.specs.Split.{Steps}
use Rattle.press_cmd.proofs.Heads.{head-more}
use Rattle.press_engine.specs.declared.machine.Machine.{Machine}
use Rattle.press_engine.specs.Machine.{StepResult, macro_levels}
use Rattle.press_engine.specs.Trace.{last_machine, trace_at, trace_each, trace}
use Rattle.press_engine.proofs.TraceLaws.{last_machine-append}
use Rattle.press_trace.specs.declared.place.Place.{Place}
use Rattle.press_trace.specs.Places.{Piece, Placed, Opens, ArePrefix, AreWhole, commands_of, placed_at, placed_from, from_on, machine_behind, machine_after, runs_of}

-- how many bytes the pieces have
abbrev pub bytes_in : List Piece → ℕ
bytes_in [] = 0
bytes_in (piece ∷ pieces) = length piece.bytes + bytes_in pieces

-- ---- pieces, and one more behind them

pub prefix-then : (from : ParserState) (bytes : List ℕ) (pieces : List Piece) (mode : ParserState) (held : List ℕ) (piece : Piece)
    (left : List ℕ) (next : ParserState)
    → ArePrefix from bytes pieces mode held → held ≡ piece.bytes ++ left → Opens mode piece left next
    → ArePrefix from bytes (pieces ++ piece ∷ []) next left
prefix-then from bytes [] mode held piece left next (same, are) cut opens = grind arith
prefix-then from bytes (first ∷ pieces) mode held piece left next (behind, between, cut_first, opens_first, others) cut opens =
    grind (arith, prefix-then between behind pieces mode held piece left next others cut opens)

-- ---- pieces that are whole, before the end

pub whole-prefix : (from : ParserState) (bytes : List ℕ) (pieces : List Piece) (mode : ParserState) (left : List ℕ)
    → AreWhole from bytes pieces mode left → ArePrefix from bytes pieces mode left
whole-prefix from bytes [] mode left are = are
whole-prefix from bytes (piece ∷ pieces) mode left (behind, next, cut, head, others) = grind (arith, whole-prefix next behind pieces mode left others)

-- their commands are those of the split so far
pub whole-steps : (from : ParserState) (bytes : List ℕ) (pieces : List Piece) (mode : ParserState) (left : List ℕ)
    → AreWhole from bytes pieces mode left → Steps from bytes (commands_of pieces) mode left
whole-steps from bytes [] mode left are = are
whole-steps from bytes (piece ∷ pieces) mode left (behind, next, cut, head, others) = grind (arith, whole-steps next behind pieces mode left others)

-- whatever comes behind them
pub whole-more : (from : ParserState) (bytes more : List ℕ) (pieces : List Piece) (mode : ParserState) (left : List ℕ)
    → AreWhole from bytes pieces mode left → AreWhole from (bytes ++ more) pieces mode (left ++ more)
whole-more from bytes more [] mode left (same, are) = (same, ap (λ (all : List ℕ). all ++ more) are)
whole-more from bytes more (piece ∷ pieces) mode left (behind, next, cut, head, others) =
    grind (arith, append_assoc, head-more, whole-more next behind more pieces mode left others)

pub whole-then : (from : ParserState) (bytes : List ℕ) (pieces : List Piece) (mode : ParserState) (held : List ℕ) (piece : Piece)
    (left : List ℕ) (next : ParserState)
    → AreWhole from bytes pieces mode held → held ≡ piece.bytes ++ left → Head mode piece.bytes left piece.command next
    → AreWhole from bytes (pieces ++ piece ∷ []) next left
whole-then from bytes [] mode held piece left next (same, are) cut head = grind arith
whole-then from bytes (first ∷ pieces) mode held piece left next (behind, between, cut_first, head_first, others) cut head =
    grind (arith, whole-then between behind pieces mode held piece left next others cut head)

-- the pieces and what is left are all the bytes
pub prefix-length : (from : ParserState) (bytes : List ℕ) (pieces : List Piece) (mode : ParserState) (left : List ℕ)
    → ArePrefix from bytes pieces mode left → length bytes ≡ bytes_in pieces + length left
prefix-length from bytes [] mode left (same, are) = omega (arith, ap length are)
prefix-length from bytes (piece ∷ pieces) mode left (behind, next, cut, opens, others) =
    grind (arith, length-append, prefix-length next behind pieces mode left others)

-- ---- the items of pieces, and of one more behind them

pub placed-then : (at : ℕ) (pieces : List Piece) (piece : Piece) (machine : Machine) → placed_from at (pieces ++ piece ∷ []) machine
    ≡ placed_from at pieces machine ++ placed_at (from_on (at + bytes_in pieces) (length piece.bytes)) (trace_at macro_levels piece.command (machine_after pieces machine))
placed-then at [] piece machine = grind (arith, append-nil)
placed-then at (first ∷ pieces) piece machine =
    grind (arith, append_assoc, placed-then (at + length first.bytes) pieces piece (machine_behind first.command machine))

-- ---- without places

pub runs-at : (place : Place) (runs : List StepResult) → runs_of (placed_at place runs) ≡ runs
runs-at place [] = refl
runs-at place (run ∷ runs) = ap (λ more. run ∷ more) (runs-at place runs)

pub runs-append : (placed others : List Placed) → runs_of (placed ++ others) ≡ runs_of placed ++ runs_of others
runs-append placed others = map-append (λ (one : Placed). one.run) placed others

pub runs-from : (at : ℕ) (pieces : List Piece) (machine : Machine) → runs_of (placed_from at pieces machine) ≡ trace (commands_of pieces) machine
unfolding trace_each
runs-from at [] machine = refl
runs-from at (piece ∷ pieces) machine =
    let place = from_on at (length piece.bytes) in
    let here = trace_at macro_levels piece.command machine in
    let next = machine_behind piece.command machine in
    runs-append (placed_at place here) (placed_from (at + length piece.bytes) pieces next)
    ∙ (λ i. runs-at place here i ++ runs-from (at + length piece.bytes) pieces next i)

-- the machine behind pieces is that of their last item
pub last-from : (at : ℕ) (pieces : List Piece) (machine : Machine) → last_machine machine (runs_of (placed_from at pieces machine)) ≡ machine_after pieces machine
last-from at [] machine = refl
last-from at (piece ∷ pieces) machine =
    grind (arith, runs-append, runs-at, last_machine-append, last-from (at + length piece.bytes) pieces (machine_behind piece.command machine))

pub commands-then : (pieces : List Piece) (piece : Piece) → commands_of (pieces ++ piece ∷ []) ≡ commands_of pieces ++ piece.command ∷ []
commands-then pieces piece = map-append (λ (one : Piece). one.command) pieces (piece ∷ [])
