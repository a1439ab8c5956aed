-- Sizes of a rectangle (PCL 5 Printer Language Technical Reference Manual, Rectangular Area Fill Graphics).
use Rattle.std.specs.Prelude.{ℕ, ℤ, pos, negsuc, Option, Some, None, unsigned_abs}
use Rattle.std.specs.Int.{div_ceil}
use Rattle.press_units.specs.Position.{position_of, positions_per_dot}
use Rattle.press_units.specs.declared.position.Resolution.{Resolution}
use Rattle.press_table.specs.declared.rectangle.Rectangle.{Rectangle}

-- no rectangle
abbrev pub no_rectangle : Rectangle
no_rectangle = record { width = 0; height = 0 }

-- the size that a value of so many units stands for; a negative value stands for none
abbrev pub size_of : ℤ → ℕ → Option ℕ
size_of (pos n) unit = Some (unsigned_abs (position_of (pos n) unit))
size_of (negsuc n) unit = None

-- how many dots of a page a size takes, a begun one as a whole one
abbrev pub dots_up : Resolution → ℕ → ℕ
dots_up resolution size = div_ceil size (positions_per_dot resolution)
