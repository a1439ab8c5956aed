-- Numbers of sheets and of sides, each among those of its own entry.
use Rattle.std.specs.Prelude.{ℕ, ◌+◌, List, [], ◌∷◌, nat_eq, if◌then◌else◌}
use Rattle.press_sink.specs.declared.delivery.Delivery.{Delivery}
use Rattle.press_sink.specs.Template.{side_count}

-- how often an entry stands in a list of entries
abbrev pub occurrences_of : (entry : ℕ) → List ℕ → ℕ
occurrences_of entry [] = 0
occurrences_of entry (one ∷ entries) = (if nat_eq entry one then 1 else 0) + occurrences_of entry entries

-- The number of each sheet among those of its entry, from 1, by the entries of the sheets and by those of the sheets before them.
abbrev pub numbers_after : (before entries : List ℕ) → List ℕ
numbers_after before [] = []
numbers_after before (entry ∷ entries) = (occurrences_of entry before + 1) ∷ numbers_after (entry ∷ before) entries

-- how many sides the sheets of an entry have among deliveries
abbrev pub sides_of : (entry : ℕ) → List Delivery → ℕ
sides_of entry [] = 0
sides_of entry (one ∷ deliveries) = (if nat_eq entry one.tag then side_count one.sheet else 0) + sides_of entry deliveries
