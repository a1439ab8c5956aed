use Rattle.std.proofs.Common.{◌*◌, ◌/◌, inl, inr, arith}
use Rattle.press_bits.specs.Mark.{Row, row, row_dot}
use Rattle.press_page.specs.declared.media.Orientation.TheVariants.{Portrait}
use Rattle.press_raster.proofs.AcrossLemmas.{painted_beside}
use Rattle.press_raster.proofs.StripLemmas.{painted_strip_white}
use Rattle.press_raster.proofs.row_strip.Across.marks_nothing.Goals as goal

pub returns-then-cut_length-eq0-clause-unmarked : goal.returns-then-cut_length-eq0-clause-unmarked
returns-then-cut_length-eq0-clause-unmarked c =
    let across = c.args.self in
    λ _. painted_beside c.args.frame.now.page across.column c.args.lines across.size across.columns (row c.args.source) c.args.brush.now
    c.height.ensures.inside c.requires.columns (inr (omega (arith, c.height.ensures.height, c.cut_length.ensures.same_end, c.if-cut_length-eq0.true)))

pub returns-then-self-eq0-clause-unmarked : goal.returns-then-self-eq0-clause-unmarked
returns-then-self-eq0-clause-unmarked c =
    let across = c.args.self in
    λ _. painted_beside c.args.frame.now.page across.column c.args.lines across.size across.columns (row c.args.source) c.args.brush.now
    c.height.ensures.inside c.requires.columns (inl c.if-self-eq0.true)

pub returns-then-not-brush-clause-unmarked : goal.returns-then-not-brush-clause-unmarked
returns-then-not-brush-clause-unmarked c =
    let source : Row = row c.args.source in
    let across = c.args.self in
    λ white.
    painted_strip_white Portrait c.args.frame.now.page across.column c.args.lines.first (across.size * source.dots) c.args.lines.count
    (λ i. row_dot source.bits (i / across.size)) c.args.brush.now.tile c.args.brush.now.mode
    c.height.ensures.inside c.if-not-brush.true (λ i. c.is_white.ensures white (i / across.size))
