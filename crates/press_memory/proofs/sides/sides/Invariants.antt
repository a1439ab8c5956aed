use Rattle.press_memory.proofs.sides.sides.Given as goal

-- the room of the call
abbrev pub ghosts-sides_behind : goal.ghosts-sides_behind
ghosts-sides_behind a = record { name = a.room.ghost_name; before = a.room.now }
