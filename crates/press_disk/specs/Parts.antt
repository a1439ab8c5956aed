-- Files that are not whole yet, beside the ones whose names they take (this profile).
use Rattle.std.specs.Prelude.{◌≡◌, ◌≢◌, ◌⊎◌, ℕ, List, [], ◌∷◌, ◌++◌, Option, Some, None, IfSome, codes}
use Rattle.std.specs.Fmt.{decimal}
use Rattle.std.specs.List.{Contains}
use Rattle.press_disk.specs.declared.file_number.FileNumber.{FileNumber}
use Rattle.press_disk.specs.SystemNames.{IsOfSystem}
use Rattle.press_disk.specs.Disk.{Between, Disk, IsPlaceOf, KeepsAll, KeepsBut, file_of}

-- the name of a part with this number behind what stands in front, a folder or nothing
abbrev pub part_name : (front : List ℕ) (number : ℕ) → List ℕ
part_name front number = front ++ (codes ".press-" ++ (decimal number ++ codes ".part"))

-- it is the name of a part
abbrev pub IsPart : List ℕ → Type 0
IsPart name = (front : List ℕ) × (number : ℕ) × (name ≡ part_name front number)

-- the place of a part
abbrev pub IsPartPlace : Disk → ℕ → Type 0
IsPartPlace disk place = (name : List ℕ) × IsPart name × IsPlaceOf disk name place

-- Files stay: each place but those of parts has the file that it had.
abbrev pub KeepsFiles : (old new : Disk) → Type 0
KeepsFiles old new = KeepsBut (IsPartPlace old) old new

-- Each of these files stands wherever it stood, but perhaps at a place of the call's own.
abbrev pub KeepsSpared : (Own : ℕ → Type 0) (spared : List FileNumber) (old new : Disk) → Type 0
KeepsSpared Own spared old new =
    (place : ℕ) (file : FileNumber) → ¬ (Own place) → Contains spared file → old.file_at place ≡ Some file → new.file_at place ≡ Some file

-- A file stands under the name of a part, and at no other place.
pub record HasPart (part : List ℕ) (disk : Disk) : Type 0 where
  pub file : FileNumber
  pub stands : file_of disk part ≡ Some file
  pub alone : (place : ℕ) → disk.file_at place ≡ Some file → IsPlaceOf disk part place

-- a file, if it is one, is none of those that are spared
abbrev pub IsUnspared : (spared : List FileNumber) (number : Option FileNumber) → Type 0
IsUnspared spared number = (file : FileNumber) → number ≡ Some file → ¬ (Contains spared file)

-- What is open to be written is the file under the name of the part. Without a part it is what stands under the name itself: no file, or one with a
-- name of the system, and none of the files that are spared.
pub record IsReady (name part : List ℕ) (spared : List FileNumber) (number : Option FileNumber) (old new : Option Disk) : Type 0 where
  pub beside : part ≢ [] → IsPart part × Between old new (λ _ disk. HasPart part disk)
  pub is_part : part ≢ [] → IfSome new (λ disk. number ≡ file_of disk part)
  pub unspared : part ≡ [] → IsUnspared spared number
  pub is_named : part ≡ [] → IfSome new (λ disk. number ≡ file_of disk name)
  pub in_place : part ≡ [] → IfSome old (λ disk. file_of disk name ≡ None) ⊎ IsOfSystem name

-- what was spared is spared still
abbrev pub IsKept : (old new : List FileNumber) → Type 0
IsKept old new = (file : FileNumber) → Contains old file → Contains new file

-- the file that a name leads to, if it is one, is spared
abbrev pub Notes : (name : List ℕ) (spared : List FileNumber) → Disk → Type 0
Notes name spared disk = (file : FileNumber) → file_of disk name ≡ Some file → Contains spared file

-- No file changes, and those that are spared stand where they stood.
pub record LeavesFiles (spared : List FileNumber) (old new : Disk) : Type 0 where
  pub files : KeepsFiles old new
  pub spares : KeepsSpared (λ _. ⊥) spared old new

-- An output gets its name, which leads to the file that it was beside it. The others stay, and those that are spared stand where they
-- stood. Its part is gone, unless it has the name itself.
pub record PlacesOutput (part name : List ℕ) (spared : List FileNumber) (old new : Disk) : Type 0 where
  pub placed : file_of new name ≡ file_of old part
  pub others : KeepsBut (λ place. IsPlaceOf old name place ⊎ IsPlaceOf old part place) old new
  pub gone : old.place_of part ≢ old.place_of name → file_of new part ≡ None
  pub spares : KeepsSpared (IsPlaceOf old part) spared old new

-- An output does not get its name. All others stay, and its part is gone, unless it could not be taken away.
pub record DropsOutput (part : List ℕ) (Fails : Type 0) (old new : Disk) : Type 0 where
  pub others : KeepsBut (IsPlaceOf old part) old new
  pub gone : (file_of new part ≡ None) ⊎ Fails

-- What closing does by its answer and by the name of the part; without one nothing changes.
abbrev pub Placing : (part name : List ℕ) (spared : List FileNumber) (old new : Disk) → Type 0
Placing [] name spared old new = KeepsAll old new
Placing (byte ∷ part) name spared old new = PlacesOutput (byte ∷ part) name spared old new

abbrev pub Dropping : (part : List ℕ) (Fails : Type 0) (old new : Disk) → Type 0
Dropping [] Fails old new = KeepsAll old new
Dropping (byte ∷ part) Fails old new = DropsOutput (byte ∷ part) Fails old new
