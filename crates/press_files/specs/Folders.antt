-- A folder sink that tells the sheets that it took.
use Rattle.std.specs.Prelude.{◌≡◌, ℕ, List, Option}
use Rattle.press_bits.specs.PrintedSheet.{PrintedSheet}
use Rattle.press_sink.specs.Outputs.{MadeOutput}
use Rattle.press_sink.specs.Template.{NameParts}
use Rattle.press_files.specs.Files.{MakesSheets, number_behind}

-- What a folder sink is: its names, the number of the next side, its own faults, and the outputs that are made.
pub record FolderState : Type 0 where
  pub names : NameParts
  pub number : ℕ
  pub own : ℕ
  pub made : Option (List MadeOutput)

abbrev pub folder : (names : NameParts) (number own : ℕ) (made : Option (List MadeOutput)) → FolderState
folder names number own made = record { names = names; number = number; own = own; made = made }

-- What it keeps of the sheets that it took: its names are those of the folder, what was made is said, and before the first fault
-- the next side has the number behind them.
pub record KeepsFolder (parts : NameParts) (begun : Option (List MadeOutput)) (sheets : List PrintedSheet) (faults : ℕ) (now : FolderState) : Type 0 where
  pub named : now.names ≡ parts
  pub makes : MakesSheets parts sheets faults begun now.made
  pub numbered : faults ≡ 0 → now.number ≡ number_behind 1 sheets
  pub sound : faults ≡ 0 → now.own ≡ 0
