use Rattle.std.proofs.Common.{◌≡◌, ◌++◌, ◌+◌, Some, true, sym, ap, ◌∙◌, subst, drop, length}
use Rattle.press_writer.specs.Inside.{left_of, AppendsSome}
use Rattle.press_writer.specs.Job.{commands_of_part}
use Rattle.press_writer.specs.Left.{GivesPiece, HasImages, rest_of_begun}
use Rattle.press_writer.specs.Plan.{plan_parts}
use Rattle.press_writer.proofs.LeftLemmas.{with_begun, next_part, next_fits, later_fit, begins, goes_on}
use Rattle.press_writer.proofs.job_writer.JobWriter.piece.Goals as goal

pub returns-in-Some-clause-ok : goal.returns-in-Some-clause-ok
returns-in-Some-clause-ok c =
    let images = c.args.images.now in
    let old = left_of c.self.inside in
    let before = c.args.out.now.items in
    let after = c.extend_from_slice.new.self.items in
    let bytes = c.go_on.new.out.items in
    let appends =
    subst (λ items. AppendsSome 3 (rest_of_begun images (Some c.in-Some.left)) (rest_of_begun images c.in_ok-begun.begun) items bytes)
    c.new-bytes.ensures.items c.in_ok-begun.ensures.appends in
    let appended : after ≡ before ++ bytes = c.in_ok-extend_from_slice.ensures.items ∙ ap (λ l. before ++ l) c.deref.ensures.value in
    subst (λ left. GivesPiece left images true (with_begun c.in_ok-begun.begun old.parts old) before after) c.self.view_is
    (goes_on old images c.in-Some.left c.in_ok-begun.begun bytes before after c.in-Some.is appends appended)

pub begin_part-requires : goal.begin_part-requires
begin_part-requires c =
    next_fits (length c.args.images.now) (left_of c.self.inside) c.part_at-part.result _
    (next_part (plan_parts c.self.inside.plan) c.self.inside.place c.part_at-part.result c.part_at-part.ensures)
    (subst (HasImages (length c.args.images.now)) (sym c.self.view_is) c.requires)

pub returns-clause-ok : goal.returns-clause-ok
returns-clause-ok c =
    let images = c.args.images.now in
    let old = left_of c.self.inside in
    let parts = drop (c.self.inside.place + 1) (plan_parts c.self.inside.plan) in
    let before = c.args.out.now.items in
    let after = c.extend_from_slice-2.new.self.items in
    let bytes = c.begin_part.new.out.items in
    let next = next_part (plan_parts c.self.inside.plan) c.self.inside.place c.part_at-part.result c.part_at-part.ensures in
    let appends =
    subst (λ items.
    AppendsSome 8 (commands_of_part old.medium images c.part_at-part.result) (rest_of_begun images c.in_ok-begun-2.begun) items
    bytes)
    c.new-bytes.ensures.items c.in_ok-begun-2.ensures.appends in
    let appended : after ≡ before ++ bytes = c.in_ok-extend_from_slice-2.ensures.items ∙ ap (λ l. before ++ l) c.deref-2.ensures.value in
    subst (λ left. GivesPiece left images true (with_begun c.in_ok-begun-2.begun parts old) before after) c.self.view_is
    (begins old images c.part_at-part.result parts c.in_ok-begun-2.begun bytes before after c.in_default.is next appends appended)

pub returns-clause-images : goal.returns-clause-images
returns-clause-images c =
    later_fit (length c.args.images.now) (left_of c.self.inside) c.part_at-part.result _ c.in_ok-begun-2.begun
    (next_part (plan_parts c.self.inside.plan) c.self.inside.place c.part_at-part.result c.part_at-part.ensures)
    c.in_ok-begun-2.ensures.fits
    (subst (HasImages (length c.args.images.now)) (sym c.self.view_is) c.requires)
