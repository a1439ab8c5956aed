-- The data that follows a parameter.
use Prim.Native.Char.{code}
use Rattle.std.specs.Prelude.{ℕ, ℤ, pos, negsuc, Bool, ◌==◌, ◌&&◌, ◌||◌, if◌then◌else◌, List, Option, Some, None}
use Rattle.press_units.specs.Value.{greatest, tenthousandths_of, whole_part}

-- as many as a whole number says, and none for a negative one
abbrev pub count_of : ℤ → ℕ
count_of (pos count) = count
count_of (negsuc _) = 0

-- Whether data follows: after every end W, after ESC*b#V and after ESC&p#X
-- (PCL 5 Printer Language Technical Reference Manual, transfer of raster data and transparent print data).
abbrev pub carries_data : ℕ → Option ℕ → ℕ → Bool
carries_data character None end = end == code "W"
carries_data character (Some group) end =
    (end == code "W") || (((character == code "*") && ((group == code "b") && (end == code "V")))
    || ((character == code "&") && ((group == code "p") && (end == code "X"))))

-- how many bytes of data follow: the whole part of the value, none where it is negative or no data is carried
abbrev pub data_count : ℕ → Option ℕ → List ℕ → ℕ → ℕ
data_count character group field end =
    if carries_data character group end then count_of (whole_part (tenthousandths_of field)) else 0

-- the most bytes of data: as many as the greatest value says
abbrev pub longest_data : ℕ
longest_data = greatest
