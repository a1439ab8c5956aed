-- Devices that are watched.
use Rattle.std.specs.Prelude.{ℕ, Bool}
use Rattle.press_devices.specs.declared.watched.Watched.{Watched}

-- the device of std
abbrev pub device_of : {D : Type 0} → Watched D → D
device_of watched = watched.device

-- whether a call of it failed, was interrupted, or took nothing of some bytes so far
abbrev pub has_failed : {D : Type 0} → Watched D → Bool
has_failed watched = watched.failed

-- how many reads were made of it, the most of one input at most
abbrev pub reads_of : {D : Type 0} → Watched D → ℕ
reads_of watched = watched.reads

-- whether bytes that were written to it may wait in the program
abbrev pub is_waiting : {D : Type 0} → Watched D → Bool
is_waiting watched = watched.waiting
