-- Blocks of sixty-four lines of sixty-four dots.
use Rattle.std.specs.Prelude.{◌≡◌, ℕ, ◌+◌, ◌-◌, ◌*◌, ◌/◌, ◌%◌, ◌<◌, ◌≤◌, Bool, true, false, nat_eq, if◌then◌else◌, List, slice_index}
use Rattle.press_bits.specs.Words.{word_dot}

-- dot of a line of a block
abbrev pub block_dot : List ℕ → (line dot : ℕ) → Bool
block_dot words line dot = word_dot (slice_index words line) dot

-- whether a place lies in the front half of its stretch of twice so many
abbrev pub is_front : (step place : ℕ) → Bool
is_front step place = nat_eq (place / step % 2) 0

-- the place in the stretch beside its own
abbrev pub swapped_place : (step place : ℕ) → ℕ
swapped_place step place = if is_front step place then place + step else place - step

-- The line and the dot that come to a place where the squares of so many lines and dots beside the diagonal are exchanged.
abbrev pub line_from : (step line dot : ℕ) → ℕ
line_from step line dot =
    if is_front step line then (if is_front step dot then line else line + step)
    else (if is_front step dot then line - step else line)

abbrev pub dot_from : (step line dot : ℕ) → ℕ
dot_from step line dot =
    if is_front step line then (if is_front step dot then dot else dot - step)
    else (if is_front step dot then dot + step else dot)

-- So many dots halve stretches of a word, and the dots of their front halves are those of a mask.
pub record IsStep (step fronts : ℕ) : Type 0 where
  pub some : 1 ≤ step
  pub small : step < 64
  pub halves : 32 / step * step ≡ 32
  pub fits : fronts < 18446744073709551616
  pub mask : (j : ℕ) → j < 64 → word_dot fronts j ≡ is_front step j
  pub front : (j : ℕ) → j < 64 → is_front step j ≡ true → (j + step < 64) × (is_front step (j + step) ≡ false)
  pub rear : (j : ℕ) → j < 64 → is_front step j ≡ false → (step ≤ j) × (is_front step (j - step) ≡ true)
  pub before_front : (j : ℕ) → j < 64 → is_front step j ≡ true → step ≤ j → is_front step (j - step) ≡ false
  pub behind_rear : (j : ℕ) → j < 64 → is_front step j ≡ false → is_front step (j + step) ≡ true
