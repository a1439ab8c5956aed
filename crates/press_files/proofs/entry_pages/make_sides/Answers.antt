use Rattle.std.proofs.Common.{◌∙◌, ◌∷◌, [], subst, ap, List, Option}
use Rattle.std.specs.String.{string_bytes}
use Rattle.press_sink.specs.Outputs.{MadeOutput, MakesOutputs}
use Rattle.press_sink.proofs.OutputsLemmas.{MakesOutputs-then, MakesOutputs-stopped, sheet_outputs-both}
use Rattle.press_files.specs.EntryPages.{page_output}
use Rattle.press_files.specs.EntryTemplate.{entry_parts, names_of}
use Rattle.press_files.proofs.entry_pages.make_sides.Goals as goal

pub returns-in_err-make_side-clause-made : goal.returns-in_err-make_side-clause-made
returns-in_err-make_side-clause-made g c =
    let names = names_of (entry_parts c.args.template.now) c.args.entry in
    let front = page_output c.deref-2.result.now c.sheet.inside.front in
    let back = page_output (string_bytes c.in_ok-back.back) c.in-Some.page in
    let old : Option (List MadeOutput) = g.O.NamedOutputs.made c.args.outputs.now in
    let new : Option (List MadeOutput) = g.O.NamedOutputs.made c.make_side-2.new.outputs in
    let result = c.from_residual-in_err-make_side.result in
    let both = sheet_outputs-both names c.args.number c.saturating_add.result front back _ c.args.sheet.now c.in-Some.page
    c.sheet.view_is c.in-Some.is c.saturating_add.ensures
    (ap (λ name. page_output name c.sheet.inside.front) (c.deref-2.ensures ∙ c.in_ok-front.ensures.name))
    (ap (λ name. page_output name c.in-Some.page) c.in_ok-back.ensures.name) in
    subst (λ (outputs : List MadeOutput). MakesOutputs result outputs old new) both
    (MakesOutputs-stopped result c.in_err-make_side.field-0.0 (front ∷ []) (back ∷ []) old new
    c.from_residual-in_err-make_side.ensures.1 c.in_err-make_side.ensures.fault c.in_err-make_side.ensures.made)

pub returns-clause-made : goal.returns-clause-made
returns-clause-made g c =
    let names = names_of (entry_parts c.args.template.now) c.args.entry in
    let front = page_output c.deref-2.result.now c.sheet.inside.front in
    let back = page_output c.deref-3.result.now c.in-Some.page in
    let old : Option (List MadeOutput) = g.O.NamedOutputs.made c.args.outputs.now in
    let between : Option (List MadeOutput) = g.O.NamedOutputs.made c.make_side-2.new.outputs in
    let new : Option (List MadeOutput) = g.O.NamedOutputs.made c.make_side-3.new.outputs in
    let result = c.make_side-3.result in
    let both = sheet_outputs-both names c.args.number c.saturating_add.result front back _ c.args.sheet.now c.in-Some.page
    c.sheet.view_is c.in-Some.is c.saturating_add.ensures
    (ap (λ name. page_output name c.sheet.inside.front) (c.deref-2.ensures ∙ c.in_ok-front.ensures.name))
    (ap (λ name. page_output name c.in-Some.page) (c.deref-3.ensures ∙ c.in_ok-back.ensures.name)) in
    subst (λ (outputs : List MadeOutput). MakesOutputs result outputs old new) both
    (MakesOutputs-then result (front ∷ []) (back ∷ []) old between new
    c.make_side-3.ensures.fault c.in_ok-make_side.ensures.made c.make_side-3.ensures.made)
