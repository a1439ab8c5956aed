-- Where a page differs from another, in dots of both.
use Rattle.std.specs.Prelude.{◌≡◌, ◌⊎◌, ℕ, ◌<◌, ◌≤◌}
use Rattle.press_bits.specs.Page.{Page, black_at}
use Rattle.press_page.specs.Place.{placed_dot}
use Rattle.press_page.specs.declared.media.Orientation.{Orientation}
use Rattle.press_page.specs.declared.place.Extent.{Extent}
use Rattle.press_canvas.specs.declared.changes.Rectangle.{Rectangle}

-- A dot lies beside those of a rectangle: left or right of them, above or below.
abbrev pub IsBeside : Rectangle → (x y : ℕ) → Type 0
IsBeside dots x y = ((x < dots.left) ⊎ (dots.right ≤ x)) ⊎ ((y < dots.top) ⊎ (dots.bottom ≤ y))

-- A rectangle has dots, and they are all on a page of so many.
pub record AreOn (page : Extent) (dots : Rectangle) : Type 0 where
  pub some_columns : dots.left < dots.right
  pub columns : dots.right ≤ page.width
  pub some_lines : dots.top < dots.bottom
  pub lines : dots.bottom ≤ page.height

-- The pages agree in a column, in the lines from `top` on and before `bottom`.
abbrev pub AgreeAt : (before after : Page) → (top bottom column : ℕ) → Type 0
AgreeAt before after top bottom column = (y : ℕ) → top ≤ y → y < bottom → black_at after column y ≡ black_at before column y

-- The pages agree beside these dots.
abbrev pub AgreeAround : (before after : Page) → Rectangle → Type 0
AgreeAround before after dots = (x y : ℕ) → IsBeside dots x y → black_at after x y ≡ black_at before x y

-- The pages agree where the lines of their frame, as it lies so, stand above one, and from another one on.
abbrev pub AgreeBesideLines : Orientation → (first end : ℕ) → (before after : Page) → Type 0
AgreeBesideLines orientation first end before after = (x y : ℕ) → x < before.width → y < before.height
    → (let line = (placed_dot orientation before.width before.height x y).1 in (line < first) ⊎ (end ≤ line))
    → black_at after x y ≡ black_at before x y
