-- The engines of a press, and which entries they run (this profile).
use Rattle.std.specs.Prelude.{◌≡◌, ◌≤◌, ◌==◌, ◌&&◌, ℕ, nat_le, Bool, false, if◌then◌else◌, List, filter, length, map, Option, None}
use Rattle.std.specs.Option.{option_map_or}
use Rattle.press_queue.specs.Rows.{entry_runs}
use Rattle.press_queue.specs.State.{QueueState}

-- the most engines that a press has
abbrev pub most_engines : ℕ
most_engines = 4

-- whether a press may have so many
abbrev pub are_engines : (count : ℕ) → Bool
are_engines count = nat_le 1 count && nat_le count most_engines

-- whether an engine runs the entry of this number
abbrev pub is_number : (number : ℕ) → Option ℕ → Bool
is_number number other = option_map_or (λ it. it == number) other false

-- the engines, for each the number of the entry that it runs, once the entry of this number left its own
abbrev pub left_by : (number : ℕ) → List (Option ℕ) → List (Option ℕ)
left_by number engines = map (λ entry. if is_number number entry then None else entry) engines

-- on how many engines a number stands
abbrev pub count_on : (number : ℕ) → List (Option ℕ) → ℕ
count_on number engines = length (filter (λ entry. is_number number entry) engines)

-- A press has one to four engines. The number of an entry that runs stands on one of them, and no other number on any.
pub record RunsOnEngines (queue : QueueState) (engines : List (Option ℕ)) : Type 0 where
  pub least : 1 ≤ length engines
  pub most : length engines ≤ most_engines
  pub each : (number : ℕ) → count_on number engines ≡ (if entry_runs number queue then 1 else 0)
