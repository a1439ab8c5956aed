use Rattle.std.proofs.Common.{◌≡◌, ◌∙◌, inl, inr, sym, replicate, true, refl, true≢false, rules, arith}
use Rattle.press_bits.specs.Mark.{painted, row}
use Rattle.press_bits.proofs.MarkLemmas.{IsAllBlack-replicate}
use Rattle.press_fill.proofs.paint.paint_line.Goals as goal

pub returns-then-columns-gt0-clause-painted : goal.returns-then-columns-gt0-clause-painted
returns-then-columns-gt0-clause-painted c =
    let black : c.args.solid ≡ true = search rules in
    c.blacken.ensures.painted (record { bits = replicate 2048 255; dots = c.args.columns }) (row c.args.pattern) c.args.mode
    ((IsAllBlack-replicate 2048 c.args.columns (omega (arith, c.requires.narrow))).black, c.requires.solid black) refl

pub blacken-requires-clause-ready : goal.blacken-requires-clause-ready
blacken-requires-clause-ready c =
    let black : c.args.solid ≡ true = search rules in
    elim c.requires.ready [
      | inl white ↦ absurd (true≢false (sym (c.requires.solid black 0) ∙ white 0))
      | inr ready ↦ ready
    ]
