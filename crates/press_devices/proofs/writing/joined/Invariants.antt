use Rattle.std.proofs.Common.{◌≡◌, ◌≤◌, ◌++◌, length, take, drop}
use Rattle.press_devices.proofs.WritesLemmas.{bytes_of}
use Rattle.press_devices.proofs.writing.joined.Given as goal

-- the pieces so far stand in the room
abbrev pub invariant-loop-piece : goal.invariant-loop-piece
invariant-loop-piece l = (l.count ≤ length l.room) × (bytes_of l.pieces ≡ take l.count l.room ++ bytes_of (drop l.piece-index l.pieces))
