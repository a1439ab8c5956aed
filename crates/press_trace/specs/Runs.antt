-- Steps that do no more than count, told in runs.
use Rattle.std.specs.Prelude.{◌≡◌, ◌+◌, ◌-◌, ℕ, List, [], ◌∷◌, ◌++◌, length, Option, None, Some, ⊤}
use Rattle.press_cmd.specs.declared.variant.Kind.{Kind}
use Rattle.press_engine.specs.declared.machine.Machine.{Machine}
use Rattle.press_engine.specs.Machine.{power_on, silent}
use Rattle.press_engine.specs.Passing.{passed}
use Rattle.press_trace.specs.declared.line_of.LineOf.{LineOf}
use Rattle.press_trace.specs.declared.line_of.LineOf.TheVariants.{Step, Run}
use Rattle.press_trace.specs.declared.place.Place.{Place}
use Rattle.press_trace.specs.Lines.{AreLines, IsLine, IsLineOf}
use Rattle.press_trace.specs.Places.{Placed, from_on}

-- An item does no more than count: a command of this kind was taken, and but for the number of steps the machine is as it was. Nothing
-- goes out.
abbrev pub OnlyCounts : Machine → Placed → Type 0
OnlyCounts before placed = (kind : Kind) × (placed.run ≡ silent (passed 1 kind before))

abbrev pub OnlyCount : Machine → List Placed → Type 0
OnlyCount before [] = ⊤
OnlyCount before (placed ∷ others) = OnlyCounts before placed × OnlyCount placed.run.machine others

-- items that stand one behind the other
pub record ItemRun : Type 0 where
  pub first : Placed
  pub others : List Placed

abbrev pub items_of : ItemRun → List Placed
items_of run = run.first ∷ run.others

abbrev pub items_in : List ItemRun → List Placed
items_in [] = []
items_in (run ∷ runs) = items_of run ++ items_in runs

-- the last of them
abbrev pub last_behind : Placed → List Placed → Placed
last_behind first [] = first
last_behind first (next ∷ others) = last_behind next others

-- The last item, in the place of all: from the first byte of the first command to the last byte of the last.
abbrev pub place_through : Place → Place → Place
place_through first last = from_on first.at (last.at + last.bytes - first.at)

abbrev pub through : Placed → Placed → Placed
through first last = record { place = place_through first.place last.place; run = last.run }

-- the machine of an item, and that after power on, where there is none
abbrev pub machine_if : Option Machine → Machine
machine_if None = power_on
machine_if (Some machine) = machine

-- The line of a run. One item has the line that it has by itself. Where there are more, each does no more than count, and the line tells
-- the last of them, in the place of all, and how many they are.
abbrev pub IsRunLine : Option Machine → (first : Placed) → (others : List Placed) → (text : List ℕ) → Type 0
IsRunLine before first [] text = IsLine before first text
IsRunLine before first (next ∷ others) text =
    OnlyCount (machine_if before) (first ∷ next ∷ others)
    × IsLineOf (length (first ∷ next ∷ others)) before (through first (last_behind next others)) text

-- The lines of runs, one after another.
abbrev pub AreRunLines : Option Machine → List ItemRun → List ℕ → Type 0
AreRunLines before [] text = text ≡ []
AreRunLines before (run ∷ runs) text =
    (line : List ℕ) × (rest : List ℕ) × IsRunLine before run.first run.others line
    × AreRunLines (Some (last_behind run.first run.others).run.machine) runs rest × (text ≡ line ++ rest)

-- The lines of items: one for each; or one for each of the runs into which they are split.
abbrev pub AreTold : LineOf → List Placed → List ℕ → Type 0
AreTold Step placed text = AreLines None placed text
AreTold Run placed text = (runs : List ItemRun) × (placed ≡ items_in runs) × AreRunLines None runs text

-- the next line: that of an item, or of a run
abbrev pub IsNextLine : LineOf → Option Machine → (next : List Placed) → (line : List ℕ) → Type 0
IsNextLine Step before next line = (one : Placed) × (next ≡ one ∷ []) × IsLine before one line
IsNextLine Run before next line = (run : ItemRun) × (next ≡ items_of run) × IsRunLine before run.first run.others line
