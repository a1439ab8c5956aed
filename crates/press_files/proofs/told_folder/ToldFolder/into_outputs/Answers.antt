use Rattle.std.proofs.Common.{subst, sym}
use mathlib.Core.Logic.{∥∥₁_map}
use Rattle.press_sink.specs.Sending.{sheets_in}
use Rattle.press_files.specs.Files.{MakesSheets}
use Rattle.press_files.proofs.told_folder.ToldFolder.into_outputs.Goals as goal

pub returns-clause-makes : goal.returns-clause-makes
returns-clause-makes g c =
    ∥∥₁_map c.args.self.keeps (λ keeps.
    subst (λ outputs.
    MakesSheets g.D.Folder.parts (sheets_in c.args.self.taken) c.args.self.faults g.D.Folder.begun
    (g.O.NamedOutputs.made outputs))
    (sym c.into_outputs.ensures) keeps.makes)
