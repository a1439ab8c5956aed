use Rattle.std.proofs.Common.{take}
use Rattle.press_files.specs.Edge.{inputs_called}
use Rattle.press_files.specs.Jobs.{HaveImages}
use Rattle.press_files.proofs.jobs.images_named.Given as goal

-- the inputs so far had the images so far
abbrev pub invariant-loop-name : goal.invariant-loop-name
invariant-loop-name g l =
    HaveImages (inputs_called g.I.Input.ReadDevice g.I.NamedInputs l.initial.inputs (take l.name-index l.names)) l.images.items
