-- Bands that are whitened.
use Rattle.std.proofs.Common.{◌≡◌, ℕ, ◌+◌, ◌-◌, ◌*◌, ◌<◌, ◌≤◌, ◌⊎◌, false, List, length, replicate, take, drop, get_or, sym, ap, ◌∙◌, inl, inr, arith}
use Rattle.std.specs.Prelude.{nat_eq}
use Rattle.std.proofs.lemmas.Bool.{cases_lt}
use Rattle.std.proofs.lemmas.Grind.{same_number_lists}
use Rattle.std.proofs.lemmas.List.{get_or-replicate, length-replicate, length-append, length-take, length-drop}
use Rattle.std.proofs.lemmas.Nat.Bits.{bit_at-zero}
use borrow.Rule.Slice.PartMut.{put_mid}
use Rattle.press_bits.specs.Mark.{row_dot, byte_dot}
use Rattle.press_bits.specs.Bands.{HasDotsIn}
use Rattle.press_bits.specs.declared.comparing.Span.{Span}
use Rattle.press_bits.proofs.ByteLemmas.{row_dot-of_byte}
use Rattle.press_bits.proofs.RegionLemmas.{same_byte}
use Rattle.press_bits.proofs.WordLemmas.{put_at, put_below, put_above}

byte_dot-zero : (j : ℕ) → byte_dot 0 j ≡ false
unfolding byte_dot
byte_dot-zero j = ap (λ n. nat_eq n 1) (bit_at-zero (7 - j))

-- a byte whose dots are white
white_byte : (bytes : List ℕ) (k : ℕ) → get_or bytes k 0 < 256 → ((j : ℕ) → j < 8 → row_dot bytes (8 * k + j) ≡ false) → get_or bytes k 0 ≡ 0
white_byte bytes k small white =
    same_byte (get_or bytes k 0) 0 small (omega arith)
    (λ j low. grind (arith, row_dot-of_byte bytes k (8 * k + j), white j, byte_dot-zero j))

-- bytes that have no mark are white
pub unmarked_bytes : (marked : Span) (bytes : List ℕ) → HasDotsIn marked bytes → marked.right ≤ marked.left → ((k : ℕ) → get_or bytes k 0 < 256) → bytes ≡ replicate (length bytes) 0
unmarked_bytes marked bytes has none small = grind (arith, same_number_lists, length-replicate, white_byte, get_or-replicate)

-- bytes whose marks are whitened are white
pub whitened_bytes : (marked : Span) (rows zeros : List ℕ) → HasDotsIn marked rows → marked.left < marked.right → ((k : ℕ) → get_or rows k 0 < 256) →
    zeros ≡ replicate (length (take (marked.right - marked.left) (drop marked.left rows))) 0 → put_mid marked.left (marked.right - marked.left) rows zeros ≡ replicate (length rows) 0
whitened_bytes marked rows zeros has some small is =
    same_number_lists _ (replicate (length rows) 0) (put_long ∙ sym (length-replicate {A = ℕ} (length rows) 0))
    (λ k low. grind (arith, put_long, zero_at k, get_or-replicate {A = ℕ} (length rows) k 0 0))
  where
    count : length (take (marked.right - marked.left) (drop marked.left rows)) ≡ marked.right - marked.left
    count = omega (arith, has.within, length-take (marked.right - marked.left) (drop marked.left rows), length-drop marked.left rows)

    long : length zeros ≡ marked.right - marked.left
    long = ap length is ∙ length-replicate {A = ℕ} (length (take (marked.right - marked.left) (drop marked.left rows))) 0 ∙ count

    within : marked.left + (marked.right - marked.left) ≤ length rows
    within = omega (arith, has.within, some)

    put_long : length (put_mid marked.left (marked.right - marked.left) rows zeros) ≡ length rows
    put_long = grind (arith, length-append, within, long, length-take, length-drop)

    old_byte : (k : ℕ) → ((j : ℕ) → j < 8 → (8 * k + j < 8 * marked.left) ⊎ (8 * marked.right ≤ 8 * k + j)) → get_or rows k 0 ≡ 0
    old_byte k outside = white_byte rows k (small k) (λ j low. has.white (8 * k + j) (outside j low))

    zero_at : (k : ℕ) → get_or (put_mid marked.left (marked.right - marked.left) rows zeros) k 0 ≡ 0
    zero_at k =
        elim (cases_lt k marked.left) [
          | inl before ↦ grind (arith, put_below rows zeros marked.left (marked.right - marked.left) long within k, old_byte k (λ j low. inl (omega arith)))
          | inr reached ↦ elim (cases_lt k marked.right) [
            | inl left ↦
                grind (
                  arith,
                  put_at rows zeros marked.left (marked.right - marked.left) long within (k - marked.left),
                  get_or-replicate {A = ℕ} (length (take (marked.right - marked.left) (drop marked.left rows))) (k - marked.left) 0 0,
                  count,
                )
            | inr past ↦ grind (arith, put_above rows zeros marked.left (marked.right - marked.left) long within k, old_byte k (λ j low. inr (omega arith)))
          ]
        ]
