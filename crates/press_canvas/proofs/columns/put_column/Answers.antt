use Rattle.std.proofs.Common.{◌≡◌, ℕ, ◌∙◌, ◌+◌, ◌-◌, ◌*◌, ◌%◌, ◌<◌, List, take, drop, refl, Bool, arith}
use Rattle.press_bits.specs.Page.{Page}
use Rattle.press_bits.specs.Mark.{row_dot}
use Rattle.press_bits.proofs.BandLemmas.{after_ok}
use Rattle.press_bits.proofs.LineLemmas.{row_dot-slice}
use Rattle.press_canvas.specs.Turned.{with_line}
use Rattle.press_canvas.specs.Strip.{place_at, strip_dot, with_column}
use Rattle.press_canvas.proofs.ColumnLemmas.{column_written, place_within}
use Rattle.press_canvas.proofs.columns.put_column.Goals as goal

line_dots : (strip bytes : List ℕ) (line count q : ℕ) → count ≡ 2048 → bytes ≡ take count (drop (line * 2112) strip) → q < 16384 → row_dot bytes q ≡ strip_dot strip line q
line_dots strip bytes line count q all is low =
    let at : 8 * (line * 2112) + q ≡ 16896 * line + q = omega arith in
    cc (is, all, row_dot-slice strip (line * 2112) 2048 q low, at)

pub returns-clause-put : goal.returns-clause-put
returns-clause-put c =
    let before : Page = c.args.page.now in
    let after : Page = c.put_row.new.page in
    let start : ℕ = c.args.column % 64 * 2112 in
    let bits : List ℕ = take (start + 2048 - start) (drop start c.args.strip.now) in
    let read : ℕ → Bool = λ x. row_dot bits (place_at c.args.back before.width x) in
    let dots : ℕ → Bool = λ x. strip_dot c.args.strip.now (c.args.column % 64) (place_at c.args.back before.width x) in
    let count : start + 2048 - start ≡ 2048 = omega arith in
    after_ok {P = after ≡ with_line before c.place_at.result read} {Q = after ≡ with_column before c.args.back c.args.columns c.args.column dots} c.put_row.result
    (λ is. is ∙ column_written before c.args.back c.args.columns c.args.column c.place_at.result read dots (omega (arith, c.if-column-columns.false)) c.place_at.ensures.is
    (λ x left.
    let low : place_at c.args.back before.width x < 16384 = omega (arith, place_within c.args.back before.width x left, c.requires.most) in
    line_dots c.args.strip.now bits (c.args.column % 64) (start + 2048 - start) (place_at c.args.back before.width x) count refl low))
    c.put_row.ensures.put
