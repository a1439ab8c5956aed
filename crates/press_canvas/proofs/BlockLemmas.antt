-- Blocks whose lines and columns are exchanged by six steps.
use Rattle.std.proofs.Common.{◌≡◌, ℕ, zero, suc, ◌+◌, ◌-◌, ◌*◌, ◌/◌, ◌%◌, ◌^◌, ◌<◌, ◌≤◌, ◌≢◌, Bool, true, false}
use Rattle.std.proofs.Common.{◌&&◌, ◌||◌, not, List, length, get_or, set, w64, refl, sym, ap, ◌∙◌, inl, inr, arith}
use Rattle.std.specs.Prelude.{nat_eq, nat_le, nat_lt, bit_and, bit_or, if◌then◌else◌}
use Rattle.std.proofs.lemmas.Bool.{cases_eq, true≢false}
use Rattle.std.proofs.lemmas.Bool.Decides.{nat_tests}
use Rattle.std.specs.Int.{bit_not, swap_bytes, to_be_bytes, to_le_bytes}
use Rattle.std.proofs.Math.Nat.{mul_assoc, mul-le-mul_right}
use Rattle.std.specs.Int.Bits.{and_lt}
use Rattle.std.proofs.lemmas.List.{get_or-set_same, get_or-set_other, length-set}
use Rattle.press_bits.specs.Words.{word_dot}
use Rattle.press_bits.proofs.TriedLemmas.{every_at, same_of, same_test}
use Rattle.press_bits.proofs.WordLemmas.{byte_dot-to_be_bytes, word_dot-and, word_dot-or, word_dot-not, word_dot-shr, word_dot-shl}
use Rattle.press_canvas.specs.Block.{block_dot, dot_from, is_front, line_from, swapped_place, IsStep}

-- ---- steps

-- what a step and its mask do, tried place by place
abbrev tried : (step fronts j : ℕ) → Bool
tried step fronts j =
    same_test (word_dot fronts j) (is_front step j)
    && (if is_front step j
    then (nat_lt (j + step) 64 && not (is_front step (j + step))) && (nat_lt j step || not (is_front step (j - step)))
    else (nat_le step j && is_front step (j - step)) && is_front step (j + step))

place_is : (step fronts j : ℕ) → tried step fronts j ≡ true →
    (word_dot fronts j ≡ is_front step j) × (is_front step j ≡ true → (j + step < 64) × (is_front step (j + step) ≡ false))
    × (is_front step j ≡ false → (step ≤ j) × (is_front step (j - step) ≡ true)) × (is_front step j ≡ true → step ≤ j → is_front step (j - step) ≡ false)
    × (is_front step j ≡ false → is_front step (j + step) ≡ true)
place_is step fronts j all = grind (arith, nat_tests, same_of)

is_step : (step fronts : ℕ) → 1 ≤ step → step < 64 → 32 / step * step ≡ 32 → fronts < 18446744073709551616 → ((j : ℕ) → j < 64 → tried step fronts j ≡ true) → IsStep step fronts
is_step step fronts some small halves fits all = record {
  some = some;
  small = small;
  halves = halves;
  fits = fits;
  mask = λ j low. (place_is step fronts j (all j low)).0;
  front = λ j low. (place_is step fronts j (all j low)).1;
  rear = λ j low. (place_is step fronts j (all j low)).2;
  before_front = λ j low. (place_is step fronts j (all j low)).3;
  behind_rear = λ j low. (place_is step fronts j (all j low)).4;
}

pub step_32 : IsStep 32 18446744069414584320
unfolding word_dot
step_32 = is_step 32 18446744069414584320 (omega arith) (omega arith) refl (omega arith) (λ j. every_at (tried 32 18446744069414584320) 64 j refl)

pub step_16 : IsStep 16 18446462603027742720
unfolding word_dot
step_16 = is_step 16 18446462603027742720 (omega arith) (omega arith) refl (omega arith) (λ j. every_at (tried 16 18446462603027742720) 64 j refl)

pub step_8 : IsStep 8 18374966859414961920
unfolding word_dot
step_8 = is_step 8 18374966859414961920 (omega arith) (omega arith) refl (omega arith) (λ j. every_at (tried 8 18374966859414961920) 64 j refl)

pub step_4 : IsStep 4 17361641481138401520
unfolding word_dot
step_4 = is_step 4 17361641481138401520 (omega arith) (omega arith) refl (omega arith) (λ j. every_at (tried 4 17361641481138401520) 64 j refl)

pub step_2 : IsStep 2 14757395258967641292
unfolding word_dot
step_2 = is_step 2 14757395258967641292 (omega arith) (omega arith) refl (omega arith) (λ j. every_at (tried 2 14757395258967641292) 64 j refl)

pub step_1 : IsStep 1 12297829382473034410
unfolding word_dot
step_1 = is_step 1 12297829382473034410 (omega arith) (omega arith) refl (omega arith) (λ j. every_at (tried 1 12297829382473034410) 64 j refl)

pub rear_test : (n : ℕ) → n ≢ 0 → nat_eq n 0 ≡ false
rear_test n apart = grind (arith, nat_tests)

-- ---- pairs of lines

-- a dot of the front line, and one of the rear line, from the tests of its place
front_test : (f a b m n : Bool) (step j : ℕ) → m ≡ f → (f ≡ true → step ≤ j → n ≡ false) → (f ≡ false → (step ≤ j) × (n ≡ true)) →
    ((a && m) || (nat_le step j && (b && n))) ≡ (if f then a else b)
front_test f a b m n step j same front rear = grind (arith, nat_tests)

rear_test_of : (f a b m n : Bool) (step j : ℕ) → m ≡ f → (f ≡ true → (step + j < 64) × (n ≡ true)) → (f ≡ false → step + j < 64 → n ≡ false) →
    ((nat_lt (step + j) 64 && (a && n)) || (b && not m)) ≡ (if f then a else b)
rear_test_of f a b m n step j same front rear = grind (arith, nat_tests)

module _ (step fronts : ℕ) (is : IsStep step fronts) (front rear j : ℕ) (low : j < 64) where
  pub front_dot : front < 2 ^ 64 → rear < 2 ^ 64 → word_dot (bit_or (bit_and front fronts) (bit_and rear fronts / 2 ^ step)) j
      ≡ (if is_front step j then word_dot front j else word_dot rear (j - step))
  front_dot small_prefix small_rear =
      let back : ℕ = j - step in
      cc (
        word_dot-or (bit_and front fronts) (bit_and rear fronts / 2 ^ step) j,
        word_dot-and front fronts j,
        word_dot-shr (bit_and rear fronts) step j (and_lt 64 rear fronts small_rear is.fits) low,
        word_dot-and rear fronts back,
        front_test (is_front step j) (word_dot front j) (word_dot rear back) (word_dot fronts j) (word_dot fronts back) step j (is.mask j low)
            (λ f reached. is.mask back (omega arith) ∙ is.before_front j low f reached) (λ r. ((is.rear j low r).0, is.mask back (omega arith) ∙ (is.rear j low r).1)),
      )

  pub rear_dot : front < 2 ^ 64 → rear < 2 ^ 64 → word_dot (bit_or (bit_and front (bit_not w64 fronts) * 2 ^ step % 2 ^ 64) (bit_and rear (bit_not w64 fronts))) j
      ≡ (if is_front step j then word_dot front (j + step) else word_dot rear j)
  rear_dot small_prefix small_rear =
      let on : ℕ = step + j in
      let turned : on ≡ j + step = omega arith in
      cc (
        turned,
        word_dot-or (bit_and front (bit_not w64 fronts) * 2 ^ step % 2 ^ 64) (bit_and rear (bit_not w64 fronts)) j,
        word_dot-shl (bit_and front (bit_not w64 fronts)) step j low,
        word_dot-and front (bit_not w64 fronts) on,
        word_dot-and rear (bit_not w64 fronts) j,
        word_dot-not fronts j is.fits low,
        rear_test_of (is_front step j) (word_dot front on) (word_dot rear j) (word_dot fronts j) (word_dot (bit_not w64 fronts) on) step j (is.mask j low)
            (λ f. let within = (is.front j low f).0 in (omega (arith, within), word_dot-not fronts on is.fits (omega (arith, within)) ∙ ap not (ap (word_dot fronts) turned ∙ is.mask (j + step) within ∙ (is.front j low f).1)))
            (λ r within. word_dot-not fronts on is.fits within ∙ ap not (ap (word_dot fronts) turned ∙ is.mask (j + step) (omega (arith, within)) ∙ is.behind_rear j low r)),
      )

-- ---- lines of a block, pair by pair

-- whether a line of a block was exchanged, where the pairs so far were whose front lines lie above a line
abbrev pub is_done : (step line i : ℕ) → Bool
is_done step line i = nat_lt (if is_front step i then i else i - step) line

abbrev pub IsExchanged : (step : ℕ) → (old words : List ℕ) → (line : ℕ) → Type 0
IsExchanged step old words line = (i j : ℕ) → i < 64 → j < 64 → block_dot words i j
    ≡ (if is_done step line i then block_dot old (line_from step i j) (dot_from step i j) else block_dot old i j)

pub all_exchanged : (step : ℕ) (old words : List ℕ) (line : ℕ) → 64 ≤ line → IsExchanged step old words line → (i j : ℕ) → i < 64 → j < 64 →
    block_dot words i j ≡ block_dot old (line_from step i j) (dot_from step i j)
all_exchanged step old words line all so_far i j low_i low_j = grind (arith, nat_tests)

-- a line whose pair is another one
still : (test : Bool) (i step line : ℕ) (a b : Bool) → (test ≡ true → i ≢ line) → (test ≡ false → i - step ≢ line) →
    (if nat_lt (if test then i else i - step) line then a else b) ≡ (if nat_lt (if test then i else i - step) (line + 1) then a else b)
still test i step line a b apart h2 = grind arith

-- past lines of which none is a front line nothing changes
passed : (test : Bool) (i step line past : ℕ) (a b : Bool) → line ≤ past → (test ≡ true → line ≤ i → i < past → ⊥) → (test ≡ false → line ≤ i - step → i - step < past → ⊥) →
    (if nat_lt (if test then i else i - step) line then a else b) ≡ (if nat_lt (if test then i else i - step) past then a else b)
passed test i step line past a b more none h3 = grind arith

exchanged_past : (step fronts : ℕ) (old words : List ℕ) (line past : ℕ) → IsStep step fronts → line ≤ past → ((l : ℕ) → line ≤ l → l < past → is_front step l ≡ false) →
    IsExchanged step old words line → IsExchanged step old words past
exchanged_past step fronts old words line past is more rear so_far i j low_i low_j =
    so_far i j low_i low_j
    ∙ passed (is_front step i) i step line past (block_dot old (line_from step i j) (dot_from step i j)) (block_dot old i j) more
    (λ test reached before. true≢false (sym test ∙ rear i reached before))
    (λ test reached before. true≢false (sym ((is.rear i low_i test).1) ∙ rear (i - step) reached before))

undone_front : (t : Bool) (line step : ℕ) (a b : Bool) → t ≡ true → (if nat_lt (if t then line else line - step) line then a else b) ≡ b
undone_front t line step a b wrong = grind arith

undone_rear : (t : Bool) (line step : ℕ) (a b : Bool) → t ≡ false → (if nat_lt (if t then line + step else line + step - step) line then a else b) ≡ b
undone_rear t line step a b wrong = grind arith

done_front : (t : Bool) (line step : ℕ) (a b : Bool) → t ≡ true → a ≡ (if nat_lt (if t then line else line - step) (line + 1) then a else b)
done_front t line step a b wrong = grind arith

done_rear : (t : Bool) (line step : ℕ) (a b : Bool) → t ≡ false → a ≡ (if nat_lt (if t then line + step else line + step - step) (line + 1) then a else b)
done_rear t line step a b wrong = grind arith

-- a dot that is chosen from two lines, by where it comes from
from_front : (old : List ℕ) (step line j : ℕ) (a b dot : Bool) → is_front step line ≡ true → a ≡ block_dot old line j → b ≡ block_dot old (line + step) (j - step) →
    dot ≡ (if is_front step j then a else b) → dot ≡ block_dot old (line_from step line j) (dot_from step line j)
from_front old step line j a b dot test here there is = grind arith

from_rear : (old : List ℕ) (step line j : ℕ) (a b dot : Bool) → is_front step (line + step) ≡ false → (is_front step j ≡ true → a ≡ block_dot old line (j + step)) →
    b ≡ block_dot old (line + step) j → dot ≡ (if is_front step j then a else b) → dot ≡ block_dot old (line_from step (line + step) j) (dot_from step (line + step) j)
from_rear old step line j a b dot test here there is = grind arith

module _ (step fronts : ℕ) (old words : List ℕ) (line front rear : ℕ) (is : IsStep step fronts) (long : length words ≡ 64) (low : line < 64) (test : is_front step line ≡ true)
    (fronts_are : (j : ℕ) → j < 64 → word_dot front j ≡ (if is_front step j then word_dot (get_or words line 0) j else word_dot (get_or words (line + step) 0) (j - step)))
    (rears_are : (j : ℕ) → j < 64 → word_dot rear j ≡ (if is_front step j then word_dot (get_or words line 0) (j + step) else word_dot (get_or words (line + step) 0) j))
    (so_far : IsExchanged step old words line) where
  abbrev pub next : List ℕ
  next = set (set words line front) (line + step) rear

  pair : is_front step (line + step) ≡ false
  pair = (is.front line low test).1

  inside : line + step < 64
  inside = (is.front line low test).0

  -- the two lines of the pair are still as they were
  front_old : (j : ℕ) → j < 64 → word_dot (get_or words line 0) j ≡ block_dot old line j
  front_old j low_j = so_far line j low low_j ∙ undone_front (is_front step line) line step _ _ test

  rear_old : (j : ℕ) → j < 64 → word_dot (get_or words (line + step) 0) j ≡ block_dot old (line + step) j
  rear_old j low_j = so_far (line + step) j inside low_j ∙ undone_rear (is_front step (line + step)) line step _ _ pair

  front_next : (j : ℕ) → j < 64 → word_dot front j ≡ block_dot old (line_from step line j) (dot_from step line j)
  front_next j low_j =
      from_front old step line j (word_dot (get_or words line 0) j) (word_dot (get_or words (line + step) 0) (j - step)) (word_dot front j) test
      (front_old j low_j) (rear_old (j - step) (omega (arith, low_j))) (fronts_are j low_j)

  rear_next : (j : ℕ) → j < 64 → word_dot rear j ≡ block_dot old (line_from step (line + step) j) (dot_from step (line + step) j)
  rear_next j low_j =
      from_rear old step line j (word_dot (get_or words line 0) (j + step)) (word_dot (get_or words (line + step) 0) j) (word_dot rear j) pair
      (λ f. front_old (j + step) ((is.front j low_j f).0)) (rear_old j low_j) (rears_are j low_j)

  pub exchanged_more : IsExchanged step old next (line + 1)
  exchanged_more i j low_i low_j =
      elim (cases_eq i line) [
        | inl here ↦
            ap (λ k. block_dot next k j) here
            ∙ ap (λ w. word_dot w j)
            (get_or-set_other (set words line front) (line + step) line rear 0 (λ same. absurd (omega (arith, same, is.some)))
            ∙ get_or-set_same words line front 0 (omega (arith, long)))
            ∙ front_next j low_j
            ∙ done_front (is_front step line) line step _ (block_dot old line j) test
            ∙ ap (λ k. if is_done step (line + 1) k then block_dot old (line_from step k j) (dot_from step k j) else block_dot old k j) (sym here)
        | inr apart ↦ elim (cases_eq i (line + step)) [
          | inl here ↦
              ap (λ k. block_dot next k j) here
              ∙ ap (λ w. word_dot w j) (get_or-set_same (set words line front) (line + step) rear 0 (omega (arith, inside, long, length-set words line front)))
              ∙ rear_next j low_j
              ∙ done_rear (is_front step (line + step)) line step _ (block_dot old (line + step) j) pair
              ∙ ap (λ k. if is_done step (line + 1) k then block_dot old (line_from step k j) (dot_from step k j) else block_dot old k j) (sym here)
          | inr other ↦
              ap (λ w. word_dot w j) (get_or-set_other (set words line front) (line + step) i rear 0 other ∙ get_or-set_other words line i front 0 apart)
              ∙ so_far i j low_i low_j
              ∙ still (is_front step i) i step line (block_dot old (line_from step i j) (dot_from step i j)) (block_dot old i j)
              (λ _. apart)
              (λ at same. other (omega (arith, same, (is.rear i low_i at).0)))
        ]
      ]

-- ---- stretches of front lines and of rear lines, one behind another

-- the stretch in which a line lies
stretch : (step n line : ℕ) → 1 ≤ step → n * step ≤ line → line < n * step + step → line / step ≡ n
stretch step n line some from before = grind arith

pub front_here : (step pair line : ℕ) → 1 ≤ step → 2 * pair * step ≤ line → line < 2 * pair * step + step → is_front step line ≡ true
front_here step pair line some from before = grind (arith, stretch)

next_stretch : (n step : ℕ) → (n + 1) * step ≡ n * step + step
next_stretch n step = grind arith

-- the lines of a pair of stretches lie in the block
pub pair_fits : (step fronts pair : ℕ) → IsStep step fronts → pair < 32 / step → 2 * pair * step + 2 * step ≤ 64
pair_fits step fronts pair is low =
    let less : (pair + 1) * step ≤ 32 / step * step = mul-le-mul_right step (omega (arith, low)) in
    omega (arith, less, is.halves, next_stretch pair step, mul_assoc 2 pair step)

-- the next pair, where the front lines of one are exchanged
pub exchanged_pair : (step fronts : ℕ) (old words : List ℕ) (pair line : ℕ) → IsStep step fronts → line ≡ 2 * pair * step + step →
    IsExchanged step old words line → IsExchanged step old words (2 * (pair + 1) * step)
exchanged_pair step fronts old words pair line is here so_far =
    let one : (2 * pair + 1) * step ≡ 2 * pair * step + step = next_stretch (2 * pair) step in
    let two : 2 * (pair + 1) * step ≡ line + step = ap (λ n. n * step) next ∙ next_stretch (2 * pair + 1) step ∙ omega (arith, one, here) in
    exchanged_past step fronts old words line (2 * (pair + 1) * step) is (omega (arith, two))
    (λ l from before. rear_test (l / step % 2) (odd l (stretch step (2 * pair + 1) l is.some (omega (arith, one, here, from)) (omega (arith, one, here, two, before))))) so_far
  where
    next : 2 * (pair + 1) ≡ 2 * pair + 1 + 1
    next = omega arith

    odd : (l : ℕ) → l / step ≡ 2 * pair + 1 → l / step % 2 ≢ 0
    odd l at none = omega (arith, at, none)

-- all pairs
pub all_pairs : (step fronts pair : ℕ) → IsStep step fronts → 32 / step ≤ pair → 64 ≤ 2 * pair * step
all_pairs step fronts pair is all =
    let more : 32 / step * step ≤ pair * step = mul-le-mul_right step all in
    omega (arith, more, is.halves, mul_assoc 2 pair step)

-- ---- six steps

-- A block after the steps down to squares of so many: the places of its dots within these are as they were, and the squares have changed
-- places.
abbrev pub IsTurnedDown : (size : ℕ) → (old words : List ℕ) → Type 0
IsTurnedDown size old words = (i j : ℕ) → i < 64 → j < 64 → block_dot words i j ≡ block_dot old (j / size * size + i % size) (i / size * size + j % size)

abbrev pub Exchanges : (step : ℕ) → (words new : List ℕ) → Type 0
Exchanges step words new = (i j : ℕ) → i < 64 → j < 64 → block_dot new i j ≡ block_dot words (line_from step i j) (dot_from step i j)

pub down_32 : (old words new : List ℕ) → IsTurnedDown 64 old words → Exchanges 32 words new → IsTurnedDown 32 old new
down_32 old words new = grind arith

pub down_16 : (old words new : List ℕ) → IsTurnedDown 32 old words → Exchanges 16 words new → IsTurnedDown 16 old new
down_16 old words new = grind (arith, nat_tests)

pub down_8 : (old words new : List ℕ) → IsTurnedDown 16 old words → Exchanges 8 words new → IsTurnedDown 8 old new
down_8 old words new = grind (arith, nat_tests)

pub down_4 : (old words new : List ℕ) → IsTurnedDown 8 old words → Exchanges 4 words new → IsTurnedDown 4 old new
down_4 old words new = grind (arith, nat_tests)

pub down_2 : (old words new : List ℕ) → IsTurnedDown 4 old words → Exchanges 2 words new → IsTurnedDown 2 old new
down_2 old words new = grind (arith, nat_tests)

pub down_1 : (old words new : List ℕ) → IsTurnedDown 2 old words → Exchanges 1 words new → IsTurnedDown 1 old new
down_1 old words new = grind (arith, nat_tests)

pub not_turned : (old : List ℕ) → IsTurnedDown 64 old old
not_turned old i j low_i low_j =
    let line : i ≡ j / 64 * 64 + i % 64 = omega (arith, low_i, low_j) in
    let dot : j ≡ i / 64 * 64 + j % 64 = omega (arith, low_i, low_j) in
    λ t. block_dot old (line t) (dot t)

pub turned_whole : (old words : List ℕ) → IsTurnedDown 1 old words → (i j : ℕ) → i < 64 → j < 64 → block_dot words i j ≡ block_dot old j i
turned_whole old words down i j low_i low_j = grind arith

-- ---- words that are read backwards

pub chosen_dot : (test : Bool) (word j step : ℕ) (a b : Bool) → a ≡ (if test then word_dot word (j + step) else b) →
    (if test then a else word_dot word (j - step)) ≡ word_dot word (if test then j + step else j - step)
chosen_dot test word j step a b is = grind arith

-- A word after the steps up to stretches of so many: each of these is read backwards.
abbrev pub IsMirrored : (size old word : ℕ) → Type 0
IsMirrored size old word = (j : ℕ) → j < 64 → word_dot word j ≡ word_dot old (j / size * size + (size - 1 - j % size))

abbrev pub Swaps : (step word new : ℕ) → Type 0
Swaps step word new = (j : ℕ) → j < 64 → word_dot new j ≡ word_dot word (swapped_place step j)

mirrored : (step size old word new : ℕ) → ((j : ℕ) → j < 64 → swapped_place step j < 64) →
    ((j : ℕ) → j < 64 → swapped_place step j / step * step + (step - 1 - swapped_place step j % step) ≡ j / size * size + (size - 1 - j % size)) →
    IsMirrored step old word → Swaps step word new → IsMirrored size old new
mirrored step size old word new small place before swaps j low = grind (arith, swaps j low, before (swapped_place step j) (small j low), place j low)

pub mirrored_2 : (old new : ℕ) → Swaps 1 old new → IsMirrored 2 old new
mirrored_2 old new = grind arith

pub mirrored_4 : (old word new : ℕ) → IsMirrored 2 old word → Swaps 2 word new → IsMirrored 4 old new
mirrored_4 old word new = mirrored 2 4 old word new (λ j low. grind (arith, nat_tests)) (λ j low. grind (arith, nat_tests))

pub mirrored_8 : (old word new : ℕ) → IsMirrored 4 old word → Swaps 4 word new → IsMirrored 8 old new
mirrored_8 old word new = mirrored 4 8 old word new (λ j low. grind (arith, nat_tests)) (λ j low. grind (arith, nat_tests))

-- the bytes of a word in the other order
other_byte : (n i : ℕ) → i < 8 → get_or (to_le_bytes w64 n) i 0 ≡ get_or (to_be_bytes w64 n) (7 - i) 0
other_byte n zero within = refl
other_byte n (suc zero) within = refl
other_byte n (suc (suc zero)) within = refl
other_byte n (suc (suc (suc zero))) within = refl
other_byte n (suc (suc (suc (suc zero)))) within = refl
other_byte n (suc (suc (suc (suc (suc zero))))) within = refl
other_byte n (suc (suc (suc (suc (suc (suc zero)))))) within = refl
other_byte n (suc (suc (suc (suc (suc (suc (suc zero))))))) within = refl
other_byte n (suc (suc (suc (suc (suc (suc (suc (suc i)))))))) within = absurd (omega arith)

to_be_bytes-swap_bytes : (n : ℕ) → to_be_bytes w64 (swap_bytes w64 n) ≡ to_le_bytes w64 n
to_be_bytes-swap_bytes n = grind arith

swapped_bytes : (word j : ℕ) → j < 64 → word_dot (swap_bytes w64 word) j ≡ word_dot word ((63 - j) / 8 * 8 + j % 8)
swapped_bytes word j low =
    grind (
      arith,
      byte_dot-to_be_bytes (swap_bytes w64 word) (j / 8) (j % 8),
      to_be_bytes-swap_bytes word,
      other_byte word (j / 8),
      byte_dot-to_be_bytes word (7 - j / 8) (j % 8),
    )

pub mirrored_whole : (old word : ℕ) → IsMirrored 8 old word → (j : ℕ) → j < 64 → word_dot (swap_bytes w64 word) j ≡ word_dot old (63 - j)
mirrored_whole old word bytes j low =
    grind (arith, swapped_bytes word j low, bytes ((63 - j) / 8 * 8 + j % 8))
