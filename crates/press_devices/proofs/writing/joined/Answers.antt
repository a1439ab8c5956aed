use Rattle.std.proofs.Common.{rules, ◌++◌, ◌+◌, ◌∙◌, ap, sym, take, drop, length, arith}
use Rattle.std.proofs.lemmas.Slice.{take-put_mid}
use Rattle.press_devices.proofs.WritesLemmas.{bytes_of, pieces_next}
use Rattle.press_devices.proofs.writing.joined.Goals as goal

pub loop-piece-preserved : goal.loop-piece-preserved
loop-piece-preserved c =
    let (fits, split) = c.loop-piece.invariant in
    let copied = c.copy_from_slice.ensures.after in (
      search rules,
      pieces_next c.args.pieces.now c.loop-piece.piece-index _ (take c.loop-piece.count c.loop-piece.room) c.loop-piece-test.true split
          ∙ ap (λ front. front ++ bytes_of (drop (c.loop-piece.piece-index + 1) c.args.pieces.now))
          (sym (take-put_mid c.loop-piece.count _ c.loop-piece.room c.copy_from_slice.new.self _ (omega (arith, ap length copied)) fits ∙ ap (λ ys. take c.loop-piece.count c.loop-piece.room ++ ys) copied)),
    )
