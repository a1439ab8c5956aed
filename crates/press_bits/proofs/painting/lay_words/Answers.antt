use Rattle.std.proofs.Common.{◌≡◌, ℕ, true, ◌+◌, ◌-◌, ◌*◌, ◌/◌, ap, subst, length, take, drop, arith, rules}
use Rattle.std.proofs.lemmas.List.{length-take, length-drop}
use Rattle.press_bits.specs.Mark.{row, row_dot, repeated}
use Rattle.press_bits.specs.Ranges.{IsPaintedFrom}
use Rattle.press_bits.proofs.AlongLemmas.{laid_bytes}
use Rattle.press_bits.proofs.painting.lay_words.Goals as goal

pub returns-clause-painted : goal.returns-clause-painted
returns-clause-painted c =
    let dot : ℕ = c.args.stroke.now.run.skip + (8 * c.args.first - (8 * c.args.line + c.args.stroke.now.run.first)) in
    let whole : dot ≡ 8 * (dot / 8) = omega (arith, c.if-dot-ne0.false) in
    let stop : 8 * (c.args.first + 8 * c.args.words) ≡ 8 * c.args.first + 64 * c.args.words = omega arith in
    let laid : c.args.stroke.now.laid ≡ true = search rules in
    let count : c.args.first + 8 * c.args.words - c.args.first ≡ dot / 8 + 8 * c.args.words - dot / 8 = omega arith in
    let bytes : c.copy_from_slice.new.self ≡ take (c.args.first + 8 * c.args.words - c.args.first) (drop (dot / 8) c.args.stroke.now.source.bits.now) = grind arith in
    let long : length c.copy_from_slice.new.self ≡ c.args.first + 8 * c.args.words - c.args.first =
    grind (
      arith,
      bytes,
      length-take (c.args.first + 8 * c.args.words - c.args.first) (drop (dot / 8) c.args.stroke.now.source.bits.now),
      length-drop (dot / 8) c.args.stroke.now.source.bits.now,
    ) in
    subst (IsPaintedFrom c.args.rows.now _ c.args.line c.args.stroke.now (8 * c.args.first)) stop
    (laid_bytes c.args.rows.now c.copy_from_slice.new.self c.args.stroke.now.source.bits.now c.args.stroke.now.mode
    (λ p. row_dot c.args.stroke.now.source.bits.now (c.args.stroke.now.run.skip + (p - (8 * c.args.line + c.args.stroke.now.run.first))))
    (λ p. repeated (row c.args.stroke.now.through.pattern) (p - 8 * c.args.line))
    (8 * c.args.first) c.args.first (c.args.first + 8 * c.args.words) (dot / 8) (omega arith) (omega arith) (omega (arith, c.requires.room)) long bytes
    (λ p reached left. ap (row_dot c.args.stroke.now.source.bits.now) (omega (arith, whole, c.requires.begun)))
    (c.args.stroke.now.opaque laid) (λ p. c.args.stroke.now.through_black laid (p - 8 * c.args.line)))
