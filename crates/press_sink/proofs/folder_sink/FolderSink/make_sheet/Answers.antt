use Rattle.std.proofs.Common.{◌∷◌, [], subst, List, Option}
use Rattle.press_sink.specs.Kept.{name_parts, output_of_side}
use Rattle.press_sink.specs.Outputs.{MadeOutput, MakesOutputs}
use Rattle.press_sink.proofs.OutputsLemmas.{MakesOutputs-then, MakesOutputs-stopped, sheet_outputs-both}
use Rattle.press_sink.proofs.folder_sink.FolderSink.make_sheet.Goals as goal

pub returns-in_err-make_side-clause-made : goal.returns-in_err-make_side-clause-made
returns-in_err-make_side-clause-made g c =
    let front = output_of_side c.in_ok-front.front in
    let back = output_of_side c.in_ok-back.back in
    let old : Option (List MadeOutput) = g.O.NamedOutputs.made c.args.self.now.outputs in
    let new : Option (List MadeOutput) = g.O.NamedOutputs.made c.make_side-2.new.outputs in
    let result = c.from_residual-in_err-make_side.result in
    let both = sheet_outputs-both (name_parts c.args.self.now) c.args.self.now.number c.saturating_add.result front back _ c.args.sheet.now c.in-Some.page
    c.sheet.view_is c.in-Some.is c.saturating_add.ensures c.in_ok-front.ensures.output c.in_ok-back.ensures.output in
    subst (λ (outputs : List MadeOutput). MakesOutputs result outputs old new) both
    (MakesOutputs-stopped result c.in_err-make_side.field-0.0 (front ∷ []) (back ∷ []) old new
    c.from_residual-in_err-make_side.ensures.1 c.in_err-make_side.ensures.fault c.in_err-make_side.ensures.made)

pub returns-clause-made : goal.returns-clause-made
returns-clause-made g c =
    let front = output_of_side c.in_ok-front.front in
    let back = output_of_side c.in_ok-back.back in
    let old : Option (List MadeOutput) = g.O.NamedOutputs.made c.args.self.now.outputs in
    let between : Option (List MadeOutput) = g.O.NamedOutputs.made c.make_side-2.new.outputs in
    let new : Option (List MadeOutput) = g.O.NamedOutputs.made c.make_side-3.new.outputs in
    let result = c.make_side-3.result in
    let both = sheet_outputs-both (name_parts c.args.self.now) c.args.self.now.number c.saturating_add.result front back _ c.args.sheet.now c.in-Some.page
    c.sheet.view_is c.in-Some.is c.saturating_add.ensures c.in_ok-front.ensures.output c.in_ok-back.ensures.output in
    subst (λ (outputs : List MadeOutput). MakesOutputs result outputs old new) both
    (MakesOutputs-then result (front ∷ []) (back ∷ []) old between new
    c.make_side-3.ensures.fault c.in_ok-make_side.ensures.made c.make_side-3.ensures.made)
