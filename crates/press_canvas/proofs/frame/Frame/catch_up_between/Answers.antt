use Rattle.std.proofs.Common.{arith}
use Rattle.std.proofs.Common.{◌≡◌, refl, sym, subst, ap, ◌∙◌, rules}
use Rattle.press_page.specs.declared.media.Orientation.{Orientation}
use Rattle.press_page.specs.declared.place.Extent.{Extent}
use Rattle.press_canvas.specs.Changes.{AgreeBesideLines}
use Rattle.press_canvas.specs.Turned.{extent, frame_page, page_of_frame}
use Rattle.press_canvas.proofs.CatchLemmas.{frames_beside, laid_extent}
use Rattle.press_canvas.proofs.frame.Frame.catch_up_between.Goals as goal

one : (c : goal.After-changed_between-arg-1) → c.args.self.now.orientation ≡ c.args.orientation
one c = search rules

other : (c : goal.After-changed_between-arg-1) → c.args.after.now.orientation ≡ c.args.orientation
other c = search rules

sized : (c : goal.After-changed_between-arg-1) → extent c.args.after.now.bitmap ≡ extent c.args.self.now.bitmap
sized c =
    let before = c.args.self.now in
    let after = c.args.after.now in
    grind (arith, laid_extent after.orientation before.orientation before.bitmap after.bitmap (frame_page before) refl (one c ∙ sym (other c)) c.requires.extent)

pub changed_between-requires-clause-width : goal.changed_between-requires-clause-width
changed_between-requires-clause-width c = ap (λ (e : Extent). e.width) (sized c)

pub changed_between-requires-clause-height : goal.changed_between-requires-clause-height
changed_between-requires-clause-height c = ap (λ (e : Extent). e.height) (sized c)

pub changed_between-requires-clause-beside : goal.changed_between-requires-clause-beside
changed_between-requires-clause-beside c =
    let before = c.args.self.now in
    let after = c.args.after.now in
    let o = c.args.orientation in
    let laid = subst (λ (p : Orientation). AgreeBesideLines o c.args.first c.args.end (page_of_frame p before.bitmap) (frame_page after)) (one c) c.requires.beside in
    frames_beside o before.bitmap after.bitmap c.args.first c.args.end (sized c)
    (subst (λ (p : Orientation). AgreeBesideLines o c.args.first c.args.end (page_of_frame o before.bitmap) (page_of_frame p after.bitmap)) (other c) laid)
