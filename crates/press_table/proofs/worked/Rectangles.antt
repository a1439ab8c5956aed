-- Worked rectangles at the cursor, computed on the definitions.
use Rattle.std.proofs.Common.{◌≡◌, ℕ, ℤ, [], ◌∷◌, ◌*◌, map, neg_ℤ, pos, refl}
use Rattle.press_fill.specs.declared.rect.Rect.{Rect}
use Rattle.press_table.specs.declared.state.State.{State}
use Rattle.press_table.specs.Filling.{fill_rectangle, fill_with, rect_now}
use Rattle.press_table.specs.Outcome.{MayAllocate, power_on_state}
use Rattle.press_table.specs.Patterns.{pattern_now}

-- after power on, a rectangle of three columns and six lines, with the cursor so far below the top margin of 150 lines
abbrev box_at : (y : ℤ) → State
box_at y =
    record power_on_state {
      cursor = record { x = 0; y = y; stack = [] };
      drawing = record power_on_state.drawing { rectangle = record { width = 24 * 3; height = 24 * 6 } };
    }

abbrev rect : (line lines : ℕ) → Rect
rect line lines = record { x = 75; y = line; width = 3; height = lines }

-- on the edge, a position above it, half above it, and wholly
above_the_edge : map (λ n. rect_now (box_at (neg_ℤ (pos n)))) (3600 ∷ 3601 ∷ 3672 ∷ 3720 ∷ 3744 ∷ 7200 ∷ [])
    ≡ rect 0 6 ∷ rect 0 5 ∷ rect 0 3 ∷ rect 0 1 ∷ rect 0 0 ∷ rect 0 0 ∷ []
above_the_edge = refl

below_the_edge : map (λ y. rect_now (box_at y)) (pos 0 ∷ neg_ℤ (pos 1) ∷ []) ≡ rect 150 6 ∷ rect 149 6 ∷ []
below_the_edge = refl

-- one that lies wholly above marks the page, too
marks_above : fill_with (pattern_now (box_at (neg_ℤ (pos 7200)))) (box_at (neg_ℤ (pos 7200)))
    ≡ MayAllocate (fill_rectangle (pattern_now (box_at (neg_ℤ (pos 7200)))) (box_at (neg_ℤ (pos 7200))))
marks_above = refl
