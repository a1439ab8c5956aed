-- The store of user-defined patterns, and the tile of any pattern
-- (PCL 5 Printer Language Technical Reference Manual, "The PCL Print Model": Define Pattern, Pattern Control and Pattern ID commands).
use Rattle.std.specs.Prelude.{ℕ, List, Option, Some}
use Rattle.press_store.specs.Things.{Things, found, stored}
use Rattle.press_pattern.specs.Tiling.{Tiling}
use Rattle.press_pattern.specs.Solid.{solid_black, solid_white}
use Rattle.press_pattern.specs.Shading.{shading}
use Rattle.press_pattern.specs.CrossHatch.{cross_hatch}
use Rattle.press_pattern.specs.UserData.{tile_in}
use Rattle.press_pattern.specs.declared.pattern.PatternKind.{PatternKind}
use Rattle.press_pattern.specs.declared.pattern.PatternKind.TheVariants as kinds

-- The user patterns under their IDs.
abbrev pub UserPatterns : Type 0
UserPatterns = Things Tiling

-- The tile of the pattern of a kind under an ID, where it exists. The solid patterns always do, whatever the ID.
abbrev pub tile_of : UserPatterns → PatternKind → (id : ℕ) → Option Tiling
tile_of patterns kinds.Black id = Some solid_black
tile_of patterns kinds.White id = Some solid_white
tile_of patterns kinds.Shading id = shading id
tile_of patterns kinds.CrossHatch id = cross_hatch id
tile_of patterns kinds.User id = found patterns id

-- With the pattern that data stands for under this ID, in place of an older one. It is temporary.
abbrev pub with_definition : UserPatterns → (id : ℕ) → List ℕ → UserPatterns
with_definition patterns id bytes = stored patterns id (tile_in bytes)
