use Rattle.std.specs.Prelude.{nat_eq, if◌then◌else◌}
use Rattle.std.proofs.lemmas.Bool.Decides.{nat_tests}
use Rattle.std.proofs.Common.{◌+◌, ◌≢◌, length, ◌≡◌, ◌*◌, ◌/◌, ◌∙◌, ℕ, arith}
use Rattle.std.proofs.lemmas.List.{with_items_is}
use Rattle.press_bits.specs.Mark.{Row, row, row_dot}
use Rattle.press_bits.specs.Page.{Page}
use Rattle.press_page.specs.declared.media.Orientation.TheVariants.{Portrait}
use Rattle.press_raster.proofs.AcrossLemmas.{covered_end}
use Rattle.press_raster.proofs.StripLemmas.{painted_raster}
use Rattle.press_raster.proofs.row_strip.paint_wide.Goals as goal

whole : (i : ℕ) → i ≡ i / 1
whole i = omega arith

pub returns-then-size-eq1-clause-painted : goal.returns-then-size-eq1-clause-painted
returns-then-size-eq1-clause-painted c =
    let across = c.args.across in
    let frame : Page = c.args.frame.now.page in
    let source : Row = row c.args.source in
    let columns = across.columns in
    c.paint_lines.ensures.painted
    ∙ painted_raster Portrait frame across.column c.args.lines across.size columns source (row_dot source.bits) c.args.brush.now
    (covered_end across.column (across.size * source.dots) frame.width columns c.requires.columns)
    (λ i _. grind (arith, whole i, c.if-size-eq1.true))

-- how long the room is, by what it is
room_is : (n columns size : ℕ) → size ≢ 1 → n ≡ (if nat_eq size 1 then 0 else columns / 8 + 8) → n ≡ columns / 8 + 8
room_is n columns size apart is = grind (arith, nat_tests)

pub returns-clause-painted : goal.returns-clause-painted
returns-clause-painted c =
    let across = c.args.across in
    let frame : Page = c.args.frame.now.page in
    let source : Row = row c.args.source in
    let columns = across.columns in
    let bits = c.widen.new.out in
    let read = c.deref.ensures.value ∙ with_items_is c.args.scratch.now bits (c.widen.auto.out ∙ c.deref_mut.ensures.len) in
    let long : length c.deref_mut.result.now ≡ columns / 8 + 8 = grind (arith, c.deref_mut.ensures.value, room_is _ columns across.size c.if-size-eq1.false c.requires.room.dots) in
    cc (
      c.paint_lines-2.ensures.painted,
      read,
      painted_raster Portrait frame across.column c.args.lines across.size columns source (row_dot bits) c.args.brush.now
          (covered_end across.column (across.size * source.dots) frame.width columns c.requires.columns) (λ i within. c.widen.ensures i (omega (arith, long, within))),
    )
