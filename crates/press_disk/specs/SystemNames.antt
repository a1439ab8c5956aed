-- Names that the system gives to devices, and to what processes have open (Linux, the proc file system).
use Rattle.std.specs.Prelude.{◌≡◌, ◌⊎◌, ℕ, List, ◌++◌, codes}

-- it stands in the folder of devices, or in that of processes
abbrev pub IsOfSystem : List ℕ → Type 0
IsOfSystem name = ((rest : List ℕ) × (name ≡ codes "/dev/" ++ rest)) ⊎ ((rest : List ℕ) × (name ≡ codes "/proc/" ++ rest))
