-- Rows as they lie across the frame of a page.
use Rattle.std.proofs.Common.{◌≡◌, ◌+◌, ◌*◌, ◌/◌, ◌-◌, ◌∙◌, ◌≤◌, ◌⊎◌, ℕ, ap, refl, min, inl, inr, arith}
use Rattle.press_bits.specs.Mark.{Row, painted, row_dot}
use Rattle.press_bits.specs.Page.{Page, HasNoDotOutside}
use Rattle.press_page.specs.declared.media.Orientation.TheVariants.{Portrait}
use Rattle.press_page.specs.declared.place.FrameLines.{FrameLines}
use Rattle.press_pattern.specs.declared.brush.Brush.{Brush}
use Rattle.press_raster.specs.Mark.{row_on_frame}
use Rattle.press_raster.proofs.StripLemmas.{painted_strip_no_columns, painted_strip_no_lines, painted_strip_cut, painted_raster}

-- the columns that rows cover end where they do, or where the frame does
pub covered_end : (left n side columns : ℕ) → columns ≡ min n (side - left) → min (left + n) side ≡ min (left + columns) side
covered_end left n side columns is = omega (arith, is)

-- a row beside the frame leaves it as it was
pub painted_beside : (frame : Page) (left : ℕ) (lines : FrameLines) (size columns : ℕ) (source : Row) (brush : Brush) → HasNoDotOutside frame →
    columns ≡ min (size * source.dots) (frame.width - left) →
    (columns ≡ 0) ⊎ (min (lines.first + lines.count) frame.height ≤ lines.first) →
    frame ≡ painted frame (row_on_frame left lines size source brush frame)
painted_beside frame left lines size columns source brush inside is beside =
    elim beside [
      | inl none ↦
          painted_strip_no_columns Portrait frame left lines.first lines.count (λ i. row_dot source.bits (i / size)) brush.tile brush.mode inside
          ∙ painted_raster Portrait frame left lines size 0 source (λ i. row_dot source.bits (i / size)) brush
          (covered_end left (size * source.dots) frame.width columns is ∙ ap (λ n. min (left + n) frame.width) none) (λ i _. refl)
      | inr outside ↦
          painted_strip_no_lines Portrait frame left lines.first (size * source.dots) (λ i. row_dot source.bits (i / size)) brush.tile brush.mode inside
          ∙ painted_strip_cut Portrait frame left lines.first (size * source.dots) 0 (size * source.dots) lines.count (λ i. row_dot source.bits (i / size)) brush.tile brush.mode refl
          (omega (arith, outside))
    ]
