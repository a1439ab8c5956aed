-- The cursor as contracts see it.
use Rattle.std.specs.Prelude.{ℕ, ℤ, List}
use Rattle.press_cursor.specs.declared.stack.CursorPosition.{CursorPosition}

-- Where the cursor is on the logical page, in 1/7200 inch: how far from its left edge, and how far below the top margin
-- (above it, y is negative); and the positions that were pushed and not yet popped, the newest last.
pub record CursorState : Type 0 where
  pub x : ℕ
  pub y : ℤ
  pub stack : List CursorPosition
