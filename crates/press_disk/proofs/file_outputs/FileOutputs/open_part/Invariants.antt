use Rattle.std.proofs.Common.{◌≡◌}
use Rattle.press_disk.specs.Disk.{Between}
use Rattle.press_disk.specs.Kept.{spared_of, store_of}
use Rattle.press_disk.specs.Parts.{LeavesFiles}
use Rattle.press_disk.proofs.file_outputs.FileOutputs.open_part.Given as goal

-- parts that were left may be gone, and nothing else changed
abbrev pub invariant-loop-number : goal.invariant-loop-number
invariant-loop-number g l = record {
  leaves : Between (g.S.FileSystem.disk (store_of l.fn.self)) (g.S.FileSystem.disk (store_of l.self)) (LeavesFiles (spared_of l.fn.self));
  others : l.self ≡ record l.fn.self { part = l.self.part; store = l.self.store };
}
