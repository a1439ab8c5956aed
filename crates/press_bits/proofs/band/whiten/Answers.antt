use Rattle.std.proofs.Common.{rules, ℕ, ◌<◌, get_or, arith}
use Rattle.press_bits.proofs.WhiteLemmas.{unmarked_bytes, whitened_bytes}
use Rattle.press_bits.proofs.band.whiten.Goals as goal

pub returns-then-marked : goal.returns-then-marked
returns-then-marked c = grind (arith, whitened_bytes)

pub returns-else-marked : goal.returns-else-marked
returns-else-marked c =
    let small : (k : ℕ) → get_or c.args.bytes.now k 0 < 256 = λ k. search rules in
    unmarked_bytes c.args.marked c.args.bytes.now c.requires (omega (arith, c.if-marked.false)) small
