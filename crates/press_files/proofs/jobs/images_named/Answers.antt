use Rattle.std.proofs.Common.{rules, List, ◌+◌, ◌<◌, length, take, subst, inl}
use Rattle.press_units.proofs.ExitLemmas.{exit-is}
use Rattle.press_bits.specs.Page.{Page}
use Rattle.press_files.specs.Edge.{input_called, inputs_called}
use Rattle.press_files.specs.Jobs.{HaveImages}
use Rattle.press_files.proofs.JobLemmas.{images-more, lacks-an-image}
use Rattle.press_files.proofs.jobs.images_named.Goals as goal

pub returns-in_err-image-clause-refused : goal.returns-in_err-image-clause-refused
returns-in_err-image-clause-refused g c =
    rw (exit-is c.from_residual.ensures.1)
    (inl (lacks-an-image (input_called g.I.Input.ReadDevice g.I.NamedInputs c.args.inputs.now) c.args.names.now c.loop-name.name-index _
    c.loop-name.images.items c.in_err-image.field-0.0 c.loop-name-test.true c.loop-name.invariant c.in_err-image.ensures.refused))

pub loop-name-preserved : goal.loop-name-preserved
loop-name-preserved g c =
    let names = c.args.names.now in
    let i = c.loop-name.name-index in
    let inside : i < length names = c.loop-name-test.true in
    let P : List Page → Type 0 =
    λ images. HaveImages (inputs_called g.I.Input.ReadDevice g.I.NamedInputs c.args.inputs.now (take (i + 1) names)) images in
    subst P (search rules)
    (images-more (input_called g.I.Input.ReadDevice g.I.NamedInputs c.args.inputs.now) names i _ c.loop-name.images.items c.in_ok-image.image inside
    c.loop-name.invariant c.in_ok-image.ensures.image)
