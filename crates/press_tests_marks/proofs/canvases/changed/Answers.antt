use Rattle.std.proofs.Common.{◌≡◌, ◌∙◌, sym, ap}
use Rattle.press_bits.specs.Page.{Page}
use Rattle.press_bits.proofs.PageLemmas.{height-blank, width-blank}
use Rattle.press_tests_marks.proofs.canvases.changed.Goals as goal

pub catch_up-requires : goal.catch_up-requires
catch_up-requires g c =
    let after = c.in_ok-after.after in
    let wide = sym (ap (λ (page : Page). page.width) c.in_ok-page.ensures ∙ width-blank after.width after.height) in
    let high = sym (ap (λ (page : Page). page.height) c.in_ok-page.ensures ∙ height-blank after.width after.height) in
    λ i. record { width = wide i; height = high i }
