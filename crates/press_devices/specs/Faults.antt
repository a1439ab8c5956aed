-- The number of a fault of reads (this profile).
use Rattle.std.specs.Prelude.{ℕ}

-- a read failed, or there were too many
abbrev pub read_fault : ℕ
read_fault = 304
