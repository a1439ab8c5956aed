-- The stack of cursor positions (PCL 5 Printer Language Technical Reference Manual, Push/Pop Cursor Position command).
use Rattle.std.specs.Prelude.{ℕ, ◌-◌, Bool, nat_lt, if◌then◌else◌, List, [], ◌∷◌, ◌++◌, length, Option, slice_get}
use Rattle.press_cursor.specs.declared.stack.CursorPosition.{CursorPosition}

-- the most positions that are pushed at once
abbrev pub most_pushed : ℕ
most_pushed = 20

abbrev pub has_room : List CursorPosition → Bool
has_room positions = nat_lt (length positions) most_pushed

-- A push puts a position on the stack, as the newest; where 20 are pushed it has no effect.
abbrev pub with_pushed : CursorPosition → List CursorPosition → List CursorPosition
with_pushed position positions = if has_room positions then positions ++ position ∷ [] else positions

-- the position that was pushed last
abbrev pub newest : List CursorPosition → Option CursorPosition
newest positions = slice_get positions (length positions - 1)
