use Rattle.std.proofs.Common.{codes, subst, ap, ◌∙◌}
use Rattle.std.specs.Fmt.{decimal}
use Rattle.std.specs.Io.KnownBytes.{Appends}
use Rattle.press_devices.specs.Writing.{AppendsPrefix}
use Rattle.press_devices.proofs.WritesLemmas.{Writes-then, Writes-stopped}
use Rattle.press_pbm.proofs.writing.write_header.Goals as goal

pub returns-in_err-write_bytes-clause-written : goal.returns-in_err-write_bytes-clause-written
returns-in_err-write_bytes-clause-written g c = Writes-stopped _ _ _ (codes "P4\n") _ c.from_residual.ensures.0 c.in_err-write_bytes.ensures.written

pub returns-in_err-write_bytes-2-clause-written : goal.returns-in_err-write_bytes-2-clause-written
returns-in_err-write_bytes-2-clause-written g c =
    let width = c.as_bytes.ensures.value ∙ c.format.ensures.text ∙ ap decimal c.width.ensures.width in
    Writes-then _ _ _ _ (codes "P4\n") _ c.in_ok-write_bytes.ensures.written
    (Writes-stopped _ _ _ (decimal c.args.bitmap.now.width) _ c.from_residual-in_err-write_bytes-2.ensures.0 (subst (AppendsPrefix _ _) width c.in_err-write_bytes-2.ensures.written))

pub returns-in_err-write_bytes-3-clause-written : goal.returns-in_err-write_bytes-3-clause-written
returns-in_err-write_bytes-3-clause-written g c =
    let width = c.as_bytes.ensures.value ∙ c.format.ensures.text ∙ ap decimal c.width.ensures.width in
    Writes-then _ _ _ _ (codes "P4\n") _ c.in_ok-write_bytes.ensures.written
    (Writes-then _ _ _ _ (decimal c.args.bitmap.now.width) _ (subst (Appends _ _) width c.in_ok-write_bytes-2.ensures.written)
    (Writes-stopped _ _ _ (codes " ") _ c.from_residual-in_err-write_bytes-3.ensures.0 c.in_err-write_bytes-3.ensures.written))

pub returns-in_err-write_bytes-4-clause-written : goal.returns-in_err-write_bytes-4-clause-written
returns-in_err-write_bytes-4-clause-written g c =
    let width = c.as_bytes.ensures.value ∙ c.format.ensures.text ∙ ap decimal c.width.ensures.width in
    let height = c.as_bytes-2.ensures.value ∙ c.format-2.ensures.text ∙ ap decimal c.height.ensures.height in
    Writes-then _ _ _ _ (codes "P4\n") _ c.in_ok-write_bytes.ensures.written
    (Writes-then _ _ _ _ (decimal c.args.bitmap.now.width) _ (subst (Appends _ _) width c.in_ok-write_bytes-2.ensures.written)
    (Writes-then _ _ _ _ (codes " ") _ c.in_ok-write_bytes-3.ensures.written
    (Writes-stopped _ _ _ (decimal c.args.bitmap.now.height) _ c.from_residual-in_err-write_bytes-4.ensures.0 (subst (AppendsPrefix _ _) height c.in_err-write_bytes-4.ensures.written))))

pub returns-clause-written : goal.returns-clause-written
returns-clause-written g c =
    let width = c.as_bytes.ensures.value ∙ c.format.ensures.text ∙ ap decimal c.width.ensures.width in
    let height = c.as_bytes-2.ensures.value ∙ c.format-2.ensures.text ∙ ap decimal c.height.ensures.height in
    Writes-then _ _ _ _ (codes "P4\n") _ c.in_ok-write_bytes.ensures.written
    (Writes-then _ _ _ _ (decimal c.args.bitmap.now.width) _ (subst (Appends _ _) width c.in_ok-write_bytes-2.ensures.written)
    (Writes-then _ _ _ _ (codes " ") _ c.in_ok-write_bytes-3.ensures.written
    (Writes-then _ _ _ _ (decimal c.args.bitmap.now.height) _ (subst (Appends _ _) height c.in_ok-write_bytes-4.ensures.written) c.write_bytes-5.ensures.written)))
