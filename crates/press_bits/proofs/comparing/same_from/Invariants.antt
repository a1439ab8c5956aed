use Rattle.std.proofs.Common.{◌≡◌, ℕ, ◌<◌, ◌≤◌, slice_index}
use Rattle.press_bits.proofs.comparing.same_from.Given as goal

abbrev pub invariant-loop-index : goal.invariant-loop-index
invariant-loop-index l =
    (l.fn.byte < l.end) × (l.end ≤ l.index)
    × ((k : ℕ) → l.end ≤ k → k < l.index → slice_index l.after k ≡ slice_index l.before k)
