-- Where the cursor may be: on the logical page (PCL 5 Printer Language Technical Reference Manual, the logical page and
-- cursor positioning).
use Rattle.std.specs.Prelude.{ℕ, ℤ, pos, negsuc, ◌-ℤ◌, min}
use Rattle.std.specs.Int.{int_max, int_min}
use Rattle.press_cursor.specs.declared.logical_page.LogicalPage.{LogicalPage}

-- the place along the line that is nearest to a position, within the width of the logical page
abbrev pub nearest_x : ℤ → LogicalPage → ℕ
nearest_x (pos n) page = min n page.width
nearest_x (negsuc n) page = 0

-- the place nearest to a position that counts from the top margin: from the upper edge of the logical page to its lower
abbrev pub nearest_y : ℤ → LogicalPage → ℤ
nearest_y y page = int_max (pos 0 -ℤ pos page.top_margin) (int_min y (pos page.length -ℤ pos page.top_margin))
