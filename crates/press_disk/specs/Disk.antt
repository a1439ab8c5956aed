-- A disk: which files names lead to (this profile).
use Rattle.std.specs.Prelude.{◌≡◌, ◌≢◌, ⊤, ℕ, List, Option, Some, None, if◌then◌else◌}
use Rattle.press_disk.specs.declared.file_number.FileNumber.{FileNumber}
use Rattle.press_disk.specs.declared.file_system.Found.{Found}

-- A disk. A name has a place, as the entry of a folder that it leads to; several names may have one place. A place has a file or none. A
-- folder, a pipe and a device are no files.
pub record Disk : Type 0 where
  pub place_of : List ℕ → ℕ
  pub file_at : ℕ → Option FileNumber

-- the file that a name leads to
abbrev pub file_of : Disk → (name : List ℕ) → Option FileNumber
file_of disk name = disk.file_at (disk.place_of name)

-- the file that was found, where it is one
abbrev pub file_found : Option Found → Option FileNumber
file_found None = None
file_found (Some found) = if found.is_file then Some found.number else None

-- This holds of a disk before and after, where it is known.
abbrev pub Between : (old new : Option Disk) → (Disk → Disk → Type 0) → Type 0
Between None new Holds = ⊤
Between (Some old) None Holds = ⊥
Between (Some old) (Some new) Holds = Holds old new

-- No name changes its place, and each place but these has the file that it had.
pub record KeepsBut (Changes : ℕ → Type 0) (old new : Disk) : Type 0 where
  pub places : (name : List ℕ) → new.place_of name ≡ old.place_of name
  pub files : (place : ℕ) → ¬ (Changes place) → new.file_at place ≡ old.file_at place

-- nothing changes
abbrev pub KeepsAll : (old new : Disk) → Type 0
KeepsAll = KeepsBut (λ _. ⊥)

-- it is the place of this name
abbrev pub IsPlaceOf : Disk → (name : List ℕ) → ℕ → Type 0
IsPlaceOf disk name place = place ≡ disk.place_of name

-- A new file stands under a name, and nothing else changes.
pub record MakesFile (name : List ℕ) (old new : Disk) : Type 0 where
  pub others : KeepsBut (IsPlaceOf old name) old new
  pub file : FileNumber
  pub stands : file_of new name ≡ Some file
  pub alone : (place : ℕ) → new.file_at place ≡ Some file → IsPlaceOf new name place

-- The file of one name takes another one, where a file may have been, and nothing else changes.
pub record Renames (from to : List ℕ) (old new : Disk) : Type 0 where
  pub places : (name : List ℕ) → new.place_of name ≡ old.place_of name
  pub taken : file_of new to ≡ file_of old from
  pub left : old.place_of from ≢ old.place_of to → file_of new from ≡ None
  pub files : (place : ℕ) → ¬ (IsPlaceOf old from place) → ¬ (IsPlaceOf old to place) → new.file_at place ≡ old.file_at place

-- The name of a file is taken away, and nothing else changes.
pub record Removes (name : List ℕ) (old new : Disk) : Type 0 where
  pub others : KeepsBut (IsPlaceOf old name) old new
  pub removed : file_of new name ≡ None
