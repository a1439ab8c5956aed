use Rattle.std.proofs.Common.{◌≡◌, ℕ, ◌+◌, ◌<◌, ◌≤◌, ◌⊎◌, get_or}
use Rattle.press_bits.proofs.word.put_word.Given as goal

-- the bytes so far
abbrev pub invariant-loop-place : goal.invariant-loop-place
invariant-loop-place l = record {
  here : (i : ℕ) → i < l.place → get_or l.rows (l.index + i) 0 ≡ get_or l.bytes i 0;
  elsewhere : (i : ℕ) → (i < l.index) ⊎ (l.index + l.place ≤ i) → get_or l.rows i 0 ≡ get_or l.initial.rows i 0;
}
