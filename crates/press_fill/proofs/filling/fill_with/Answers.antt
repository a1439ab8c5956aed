use Rattle.std.proofs.Common.{◌≡◌, ◌∙◌, ap, Result, Ok, Err, OnErr}
use Rattle.std.specs.declared.alloc.AllocError.{AllocError}
use Rattle.press_bits.specs.Page.{Page}
use Rattle.press_bits.specs.Mark.{Mark, painted}
use Rattle.press_bits.proofs.BandLemmas.{after_ok}
use Rattle.press_page.specs.declared.media.Orientation.{Orientation}
use Rattle.press_canvas.specs.Turned.{page_of_frame, on_page}
use Rattle.press_canvas.proofs.FrameLemmas.{painted_lying}
use Rattle.press_fill.specs.Fill.{rect_mark}
use Rattle.press_fill.proofs.filling.fill_with.Goals as goal

after_err : {X : Type 0} {P Q : Type 0} (result : Result X AllocError) → (P → Q) → OnErr result P → OnErr result Q
after_err (Ok x) step p = tt
after_err (Err e) step p = step p

pub returns : goal.returns
returns c =
    let mark : Mark = rect_mark c.args.rect c.args.brush.now.tile c.args.brush.now.mode in
    let frame : Page = c.lie_as.new.self.bitmap in
    let o : Orientation = c.lie_as.new.self.orientation in
    let after : Page = c.fill_rect.new.page in
    let before : Page = c.args.page.now in
    let same : page_of_frame o frame ≡ before = c.in_ok-lie_as.ensures.same ∙ c.frame-frame.ensures.value in
    record {
      filled =
          after_ok {P = after ≡ painted frame mark} {Q = page_of_frame o after ≡ painted before (on_page c.args.orientation before.width before.height mark)} c.fill_rect.result
          (λ is. ap (page_of_frame o) is ∙ painted_lying c.lie_as.new.self c.args.orientation before mark same c.in_ok-lie_as.ensures.lies)
          c.fill_rect.ensures.filled;
      unchanged =
          after_err {P = after ≡ frame} {Q = page_of_frame o after ≡ before} c.fill_rect.result
          (λ is. ap (page_of_frame o) is ∙ same)
          c.fill_rect.ensures.unchanged;
    }
