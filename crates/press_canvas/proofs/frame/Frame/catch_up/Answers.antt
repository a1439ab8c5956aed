use Rattle.std.proofs.Common.{◌≡◌, ap}
use Rattle.press_page.specs.declared.place.Extent.{Extent}
use Rattle.press_canvas.specs.Turned.{extent, frame_page}
use Rattle.press_canvas.proofs.CatchLemmas.{laid_extent}
use Rattle.press_canvas.proofs.frame.Frame.catch_up.Goals as goal

sized : (c : goal.After-changed-arg-1) → extent c.args.after.now.bitmap ≡ extent c.lie_as.new.self.bitmap
sized c =
    let after = c.args.after.now in
    let laid = c.lie_as.new.self in
    laid_extent after.orientation laid.orientation laid.bitmap after.bitmap (frame_page c.args.self.now) c.lie_as.ensures.same c.in_ok-lie_as.ensures.lies c.requires

pub changed-requires-clause-width : goal.changed-requires-clause-width
changed-requires-clause-width c = ap (λ (e : Extent). e.width) (sized c)

pub changed-requires-clause-height : goal.changed-requires-clause-height
changed-requires-clause-height c = ap (λ (e : Extent). e.height) (sized c)
