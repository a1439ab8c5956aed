use Rattle.std.proofs.Common.{◌≡◌, ◌+◌, ◌-◌, ◌≤◌, ◌⊎◌, true, length, take}
use Rattle.std.specs.Io.KnownBytes.{Consumes}
use Rattle.press_pbm.proofs.reading.fill.Given as goal

-- what is filled was read, a byte or more at once
abbrev pub invariant-loop-filled : goal.invariant-loop-filled
invariant-loop-filled g l =
    record {
      long : length l.buffer ≡ length l.initial.buffer;
      within : l.filled ≤ length l.buffer;
      given : Consumes (g.R.ReadDevice.remaining l.initial.input) (g.R.ReadDevice.remaining l.input) (take l.filled l.buffer);
      stays : g.R.ReadDevice.failed l.initial.input ≡ true → g.R.ReadDevice.failed l.input ≡ true;
      few : (g.R.ReadDevice.failed l.input ≡ true) ⊎ (l.count.reads ≤ l.initial.count.reads + l.filled);
    }

abbrev pub decreases-loop-filled : goal.decreases-loop-filled
decreases-loop-filled g l = length l.initial.buffer - l.filled
