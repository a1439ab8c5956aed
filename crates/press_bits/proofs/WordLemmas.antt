-- The dots of words, and how many of them are black.
use Rattle.std.proofs.Common.{◌≡◌, ℕ, ◌+◌, ◌-◌, ◌*◌, ◌/◌, ◌%◌, ◌^◌, ◌<◌, ◌≤◌, ◌⊎◌, zero, suc, true, false, not, ◌&&◌, ◌||◌}
use Rattle.std.proofs.Common.{List, [], ◌∷◌, length, take, drop, get_or, refl, ap, ◌∙◌, count_ones, w64, arith}
use Rattle.std.specs.Prelude.{nat_lt, nat_le, nat_eq, bit_and, bit_or}
use Rattle.std.specs.Int.{bit_at, bit_not, to_le_bytes, to_be_bytes, from_be_bytes, swap_bytes}
use Rattle.std.specs.List.{range_with_len, count_by}
use Rattle.std.proofs.lemmas.Bool.Decides.{nat_tests}
use Rattle.std.proofs.lemmas.List.{ext_get_or, get_or_past, get_or-take, get_or-drop, get_or_append_left, get_or-append_right, length-drop, length-take}
use Rattle.std.proofs.lemmas.Nat.{ones_cat, be_bytes_8, and_le_l, pow_pos}
use Rattle.std.proofs.lemmas.Nat.Bits.{bit_at_and, bit_at_or, bit_at_not, bit_at_ones, bit_at-zero, bit_at-lt, bit_at_above, bit_at_cat_low, bit_at_cat_high}
use borrow.Rule.Slice.PartMut.{put_mid}
use Rattle.press_bits.specs.DotRows.{mixed_dot}
use Rattle.press_bits.specs.Mark.{row_dot, byte_dot}
use Rattle.press_bits.specs.Words.{word_dot}
use Rattle.press_bits.specs.declared.mode.Mode.{Mode}
use Rattle.press_bits.proofs.ByteLemmas.{bit_at-shr, low_bits, row_dot-of_byte}
use Rattle.press_bits.proofs.CountLemmas.{byte_more}
use Rattle.press_bits.proofs.MixLemmas.{neither}

-- ---- the eight bytes of a word

byte_of : (n t i j : ℕ) → t + 8 * i ≡ 56 → j < 8 → byte_dot (n / 2 ^ t % 256) j ≡ word_dot n (8 * i + j)
unfolding byte_dot word_dot
byte_of n t i j place low = grind (arith, low_bits (n / 2 ^ t) (7 - j) (omega arith), bit_at-shr n t (7 - j))

pub byte_dot-to_be_bytes : (n i j : ℕ) → i < 8 → j < 8 → byte_dot (get_or (to_be_bytes w64 n) i 0) j ≡ word_dot n (8 * i + j)
byte_dot-to_be_bytes n zero j within low = byte_of n 56 0 j refl low
byte_dot-to_be_bytes n (suc zero) j within low = byte_of n 48 1 j refl low
byte_dot-to_be_bytes n (suc (suc zero)) j within low = byte_of n 40 2 j refl low
byte_dot-to_be_bytes n (suc (suc (suc zero))) j within low = byte_of n 32 3 j refl low
byte_dot-to_be_bytes n (suc (suc (suc (suc zero)))) j within low = byte_of n 24 4 j refl low
byte_dot-to_be_bytes n (suc (suc (suc (suc (suc zero))))) j within low = byte_of n 16 5 j refl low
byte_dot-to_be_bytes n (suc (suc (suc (suc (suc (suc zero)))))) j within low = byte_of n 8 6 j refl low
byte_dot-to_be_bytes n (suc (suc (suc (suc (suc (suc (suc zero))))))) j within low = grind (arith, byte_of n 0 7 j refl low)
byte_dot-to_be_bytes n (suc (suc (suc (suc (suc (suc (suc (suc i)))))))) j within low = absurd (omega arith)

-- the bytes of a number whose bytes are turned round
pub to_le_bytes-swap_bytes : (n : ℕ) → to_le_bytes w64 (swap_bytes w64 n) ≡ to_be_bytes w64 n
to_le_bytes-swap_bytes n = grind arith

-- the eight bytes from byte k on, 0 past the last one
abbrev pub eight_bytes : List ℕ → ℕ → List ℕ
eight_bytes bits k =
    get_or bits k 0 ∷ get_or bits (k + 1) 0 ∷ get_or bits (k + 2) 0 ∷ get_or bits (k + 3) 0 ∷ get_or bits (k + 4) 0 ∷ get_or bits (k + 5) 0 ∷ get_or bits (k + 6) 0 ∷ get_or bits (k + 7) 0 ∷ []

get_or-eight_bytes : (bits : List ℕ) (k i : ℕ) → i < 8 → get_or (eight_bytes bits k) i 0 ≡ get_or bits (k + i) 0
get_or-eight_bytes bits k i within = grind arith

-- where all eight are there, they are taken
pub eight_taken : (bits : List ℕ) (k : ℕ) → k + 8 ≤ length bits → take 8 (drop k bits) ≡ eight_bytes bits k
eight_taken bits k room =
    ext_get_or 0 (take 8 (drop k bits)) (eight_bytes bits k) long
    (λ i within. grind (arith, long, get_or-take 8 (drop k bits) i 0, get_or-drop k bits i 0, get_or-eight_bytes bits k i))
  where
    long : length (take 8 (drop k bits)) ≡ 8
    long = omega (arith, room, length-take 8 (drop k bits), length-drop k bits)

small_eight : (bits : List ℕ) (k i : ℕ) → ((m : ℕ) → get_or bits m 0 < 256) → get_or (eight_bytes bits k) i 0 < 256
small_eight bits k i small = grind (arith, get_or-eight_bytes bits k i, small (k + i), get_or_past (eight_bytes bits k) i 0)

pub word_dots : (bits : List ℕ) (k n j : ℕ) → ((m : ℕ) → get_or bits m 0 < 256) → n ≡ from_be_bytes w64 (eight_bytes bits k) → j < 64 → word_dot n j ≡ row_dot bits (8 * k + j)
word_dots bits k n j small is within =
    let below : j / 8 < 8 = omega arith in
    grind (arith, byte_dot-to_be_bytes n (j / 8) (j % 8) below (omega arith), be_bytes_8 (eight_bytes bits k) n refl (λ i. small_eight bits k i small) is, get_or-eight_bytes bits k (j / 8) below, row_dot-of_byte bits (k + j / 8) (8 * k + j) (omega arith))

-- the dots of a word of two bytes, and white ones behind them
pub two_bytes : (bits : List ℕ) (a b n j : ℕ) → a < 256 → b < 256 → a ≡ get_or bits 0 0 → b ≡ get_or bits 1 0
    → n ≡ from_be_bytes w64 (a ∷ b ∷ 0 ∷ 0 ∷ 0 ∷ 0 ∷ 0 ∷ 0 ∷ []) → j < 16 → word_dot n j ≡ row_dot bits j
two_bytes bits a b n j first_small second_small first second is within =
    grind (arith, word_dots two 0 n j fits is, row_dot-of_byte two 0 j, row_dot-of_byte bits 0 j, row_dot-of_byte two 1 j, row_dot-of_byte bits 1 j)
  where
    two : List ℕ
    two = a ∷ b ∷ 0 ∷ 0 ∷ 0 ∷ 0 ∷ 0 ∷ 0 ∷ []

    fits : (m : ℕ) → get_or two m 0 < 256
    fits m = grind arith

pub word_dot-zeros : (j : ℕ) → word_dot 0 j ≡ false
unfolding word_dot
word_dot-zeros j = ap (λ n. nat_eq n 1) (bit_at-zero (63 - j))

-- ---- the black dots of a word

ones_joined : (n high low : ℕ) → low < 256 → n ≡ high * 2 ^ 8 + low → count_ones n ≡ count_ones high + count_ones low
ones_joined n high low small is = ap count_ones is ∙ ones_cat 8 high low small

-- the dots of one byte more, whichever way their numbers are written
byte_on : (bits : List ℕ) (k from to : ℕ) → ((m : ℕ) → get_or bits m 0 < 256) → from ≡ 8 * k → to ≡ from + 8 →
    count_by (row_dot bits) (range_with_len 0 to) ≡ count_by (row_dot bits) (range_with_len 0 from) + count_ones (get_or bits k 0)
byte_on bits k from to small begin end = grind (arith, byte_more bits k (small k), begin)

pub word_more : (bits : List ℕ) (k n : ℕ) → ((m : ℕ) → get_or bits m 0 < 256) → n ≡ from_be_bytes w64 (eight_bytes bits k) →
    count_by (row_dot bits) (range_with_len 0 (8 * (k + 8))) ≡ count_by (row_dot bits) (range_with_len 0 (8 * k)) + count_ones n
word_more bits k n small is =
    let two : ℕ = get_or bits k 0 * 2 ^ 8 + get_or bits (k + 1) 0 in
    let three : ℕ = two * 2 ^ 8 + get_or bits (k + 2) 0 in
    let four : ℕ = three * 2 ^ 8 + get_or bits (k + 3) 0 in
    let five : ℕ = four * 2 ^ 8 + get_or bits (k + 4) 0 in
    let six : ℕ = five * 2 ^ 8 + get_or bits (k + 5) 0 in
    let seven : ℕ = six * 2 ^ 8 + get_or bits (k + 6) 0 in
    let all : n ≡ seven * 2 ^ 8 + get_or bits (k + 7) 0 = omega (arith, is) in
    omega (
      arith,
      ones_joined two (get_or bits k 0) (get_or bits (k + 1) 0) (small (k + 1)) refl,
      ones_joined three two (get_or bits (k + 2) 0) (small (k + 2)) refl,
      ones_joined four three (get_or bits (k + 3) 0) (small (k + 3)) refl,
      ones_joined five four (get_or bits (k + 4) 0) (small (k + 4)) refl,
      ones_joined six five (get_or bits (k + 5) 0) (small (k + 5)) refl,
      ones_joined seven six (get_or bits (k + 6) 0) (small (k + 6)) refl,
      ones_joined n seven (get_or bits (k + 7) 0) (small (k + 7)) all,
      byte_on bits k (8 * k) (8 * k + 8) small refl refl,
      byte_on bits (k + 1) (8 * k + 8) (8 * k + 16) small (omega arith) (omega arith),
      byte_on bits (k + 2) (8 * k + 16) (8 * k + 24) small (omega arith) (omega arith),
      byte_on bits (k + 3) (8 * k + 24) (8 * k + 32) small (omega arith) (omega arith),
      byte_on bits (k + 4) (8 * k + 32) (8 * k + 40) small (omega arith) (omega arith),
      byte_on bits (k + 5) (8 * k + 40) (8 * k + 48) small (omega arith) (omega arith),
      byte_on bits (k + 6) (8 * k + 48) (8 * k + 56) small (omega arith) (omega arith),
      byte_on bits (k + 7) (8 * k + 56) (8 * (k + 8)) small (omega arith) (omega arith),
    )

-- ---- words laid over each other

pub word_dot-and : (a b j : ℕ) → word_dot (bit_and a b) j ≡ (word_dot a j && word_dot b j)
unfolding word_dot
word_dot-and a b j = grind (arith, bit_at_and a b (63 - j), nat_tests, bit_at-lt a (63 - j), bit_at-lt b (63 - j))

pub word_dot-or : (a b j : ℕ) → word_dot (bit_or a b) j ≡ (word_dot a j || word_dot b j)
unfolding word_dot
word_dot-or a b j = grind (arith, bit_at_or a b (63 - j), nat_tests, bit_at-lt a (63 - j), bit_at-lt b (63 - j))

pub word_dot-not : (a j : ℕ) → a < 2 ^ 64 → j < 64 → word_dot (bit_not w64 a) j ≡ not (word_dot a j)
unfolding word_dot
word_dot-not a j small within = grind (arith, bit_at_not w64 a (63 - j) small (omega arith), nat_tests, bit_at-lt a (63 - j))

pub word_dot-ones : (j : ℕ) → word_dot (2 ^ 64 - 1) j ≡ true
unfolding word_dot
word_dot-ones j = ap (λ n. nat_eq n 1) (bit_at_ones 64 (63 - j) (omega arith))

-- what a word's logic makes of a dot is the dot rule
pub mixed_words : (before source pattern mask so po j : ℕ) (mode : Mode) → j < 64 → source < 2 ^ 64 → pattern < 2 ^ 64 → mask < 2 ^ 64
    → word_dot so j ≡ mode.source_opaque → word_dot po j ≡ mode.pattern_opaque →
    word_dot (bit_or (bit_and before
    (bit_not w64 (bit_and mask (bit_or (bit_and so (bit_not w64 source)) (bit_and po (bit_and source (bit_not w64 pattern)))))))
    (bit_and mask (bit_and source pattern))) j
    ≡ mixed_dot (word_dot mask j) mode (word_dot source j) (word_dot pattern j) (word_dot before j)
mixed_words before source pattern mask so po j mode within small_source small_pattern small_mask opaque_source opaque_pattern =
    let no_source : ℕ = bit_and so (bit_not w64 source) in
    let no_pattern : ℕ = bit_and po (bit_and source (bit_not w64 pattern)) in
    let white : ℕ = bit_and mask (bit_or no_source no_pattern) in
    let small : white < 2 ^ 64 = omega (arith, and_le_l mask (bit_or no_source no_pattern)) in
    let by_source : word_dot no_source j ≡ (mode.source_opaque && not (word_dot source j)) =
    word_dot-and so (bit_not w64 source) j ∙ (λ i. opaque_source i && word_dot-not source j small_source within i) in
    let by_pattern : word_dot no_pattern j ≡ (mode.pattern_opaque && (word_dot source j && not (word_dot pattern j))) =
    word_dot-and po (bit_and source (bit_not w64 pattern)) j
    ∙ (λ i. opaque_pattern i && (word_dot-and source (bit_not w64 pattern) j ∙ ap (λ t. word_dot source j && t) (word_dot-not pattern j small_pattern within)) i) in
    let whitened : word_dot white j ≡ (word_dot mask j && ((mode.source_opaque && not (word_dot source j)) || (mode.pattern_opaque && (word_dot source j && not (word_dot pattern j))))) =
    word_dot-and mask (bit_or no_source no_pattern) j
    ∙ ap (λ t. word_dot mask j && t) (word_dot-or no_source no_pattern j ∙ (λ i. by_source i || by_pattern i)) in
    word_dot-or (bit_and before (bit_not w64 white)) (bit_and mask (bit_and source pattern)) j
    ∙ (λ i.
    (word_dot-and before (bit_not w64 white) j ∙ ap (λ t. word_dot before j && t) (word_dot-not white j small within ∙ ap not whitened)) i
    || (word_dot-and mask (bit_and source pattern) j ∙ ap (λ t. word_dot mask j && t) (word_dot-and source pattern j)) i)
    ∙ grind arith

-- where white changes nothing, the black dots are laid over the others
pub blackened_words : (before source pattern mask j : ℕ) (mode : Mode) → (mode.source_opaque || mode.pattern_opaque) ≡ false →
    word_dot (bit_or before (bit_and mask (bit_and source pattern))) j ≡ mixed_dot (word_dot mask j) mode (word_dot source j) (word_dot pattern j) (word_dot before j)
blackened_words before source pattern mask j mode none =
    grind (arith, word_dot-or, word_dot-and, neither mode.source_opaque mode.pattern_opaque none)

-- ---- words that are shifted

-- the dots of a word that is shifted to the right, with white before them
pub shifted_right : (n t j : ℕ) → t ≤ j → j < 64 → word_dot (n / 2 ^ t) j ≡ word_dot n (j - t)
unfolding word_dot
shifted_right n t j reached within = grind (arith, bit_at-shr n t (63 - j))

pub word_dot-shr : (n t j : ℕ) → n < 2 ^ 64 → j < 64 → word_dot (n / 2 ^ t) j ≡ (nat_le t j && word_dot n (j - t))
unfolding word_dot
word_dot-shr n t j small within = grind (arith, nat_tests, bit_at-shr n t (63 - j), bit_at_above n 64 (t + (63 - j)) small)

-- the sixty-four low bits of a number
low_word : (n i : ℕ) → i < 64 → bit_at (n % 2 ^ 64) i ≡ bit_at n i
low_word n i within = grind (arith, bit_at_cat_low (n / 2 ^ 64) 64 (n % 2 ^ 64) i within)

-- the dots of a word that is shifted to the left, with white behind them
pub word_dot-shl : (n s j : ℕ) → j < 64 → word_dot (n * 2 ^ s % 2 ^ 64) j ≡ (nat_lt (s + j) 64 && word_dot n (s + j))
unfolding word_dot
word_dot-shl n s j within =
    grind (arith, nat_tests, low_word (n * 2 ^ s) (63 - j), bit_at_cat_high n s 0 (63 - j) (pow_pos s), bit_at_cat_low n s 0 (63 - j), bit_at-zero (63 - j))

-- a byte that is shifted into the end of a word
word_dot-byte : (byte s j : ℕ) → byte < 256 → s < 8 → j < 64 → word_dot (byte / 2 ^ (8 - s)) j ≡ (nat_le 64 (s + j) && byte_dot byte (s + j - 64))
unfolding word_dot byte_dot
word_dot-byte byte s j small low within = grind (arith, nat_tests, bit_at-shr byte (8 - s) (63 - j), bit_at_above byte 8 ((8 - s) + (63 - j)) small)

-- the dots of nine bytes, from one of the first eight on
pub nine_bytes : (bits : List ℕ) (index shift left right j : ℕ) → shift < 8 → right < 256 → ((i : ℕ) → i < 64 → word_dot left i ≡ row_dot bits (8 * index + i)) → right ≡ get_or bits (index + 8) 0 → j < 64 →
    word_dot (bit_or (left * 2 ^ shift % 2 ^ 64) (right / 2 ^ (8 - shift))) j ≡ row_dot bits (8 * index + shift + j)
nine_bytes bits index shift left right j few small dots is within =
    grind (
      arith,
      nat_tests,
      word_dot-or (left * 2 ^ shift % 2 ^ 64) (right / 2 ^ (8 - shift)) j,
      word_dot-shl left shift j within,
      word_dot-byte right shift j small few within,
      dots (shift + j),
      row_dot-of_byte bits (index + 8) (8 * index + shift + j),
    )

-- the front of one word, and behind it another
pub joined_prefix : (prefix rest count j : ℕ) → prefix < 2 ^ 64 → rest < 2 ^ 64 → count < 64 → j < count
    → word_dot (bit_or (prefix / 2 ^ (64 - count) * 2 ^ (64 - count) % 2 ^ 64) (rest / 2 ^ count)) j ≡ word_dot prefix j
joined_prefix prefix rest count j small small_rest few before = grind (arith, nat_tests, word_dot-or, word_dot-shl, word_dot-shr)

pub joined_rest : (prefix rest count j : ℕ) → rest < 2 ^ 64 → count < 64 → count ≤ j → j < 64
    → word_dot (bit_or (prefix / 2 ^ (64 - count) * 2 ^ (64 - count) % 2 ^ 64) (rest / 2 ^ count)) j ≡ word_dot rest (j - count)
joined_rest prefix rest count j small few behind within = grind (arith, nat_tests, word_dot-or, word_dot-shl, word_dot-shr)

-- of sixty-four dots from `start` on, those from `from` on and before `to`
pub masked : (start from to j : ℕ) → start ≤ from → to ≤ start + 64 → j < 64 →
    word_dot (bit_and ((2 ^ 64 - 1) / 2 ^ (from - start)) ((2 ^ 64 - 1) * 2 ^ (start + 64 - to) % 2 ^ 64)) j ≡ (nat_le from (start + j) && nat_lt (start + j) to)
masked start from to j begun within low =
    grind (arith, nat_tests, word_dot-and, word_dot-shr (2 ^ 64 - 1) (from - start) j (omega arith) low, word_dot-shl (2 ^ 64 - 1) (start + 64 - to) j low, word_dot-ones)

-- ---- bytes that are put into rows

-- a dot whose byte stays
pub dot_stays : (old new : List ℕ) (p : ℕ) → get_or new (p / 8) 0 ≡ get_or old (p / 8) 0 → row_dot new p ≡ row_dot old p
dot_stays old new p same = grind (arith, row_dot-of_byte new (p / 8) p refl, same, row_dot-of_byte old (p / 8) p refl)

module _ (rows bytes : List ℕ) (index k : ℕ) (long : length bytes ≡ k) (room : index + k ≤ length rows) where
  prefix_long : length (take index rows) ≡ index
  prefix_long = omega (arith, length-take index rows, room)

  pub put_at : (i : ℕ) → i < k → get_or (put_mid index k rows bytes) (index + i) 0 ≡ get_or bytes i 0
  put_at i within = grind (arith, get_or-append_right, prefix_long, get_or_append_left)

  pub put_below : (i : ℕ) → i < index → get_or (put_mid index k rows bytes) i 0 ≡ get_or rows i 0
  put_below i before = get_or_append_left (take index rows) _ 0 i (omega (arith, prefix_long)) ∙ get_or-take index rows i 0 before

  pub put_above : (i : ℕ) → index + k ≤ i → get_or (put_mid index k rows bytes) i 0 ≡ get_or rows i 0
  put_above i past = grind (arith, get_or-append_right, prefix_long, get_or-drop)

  pub put_elsewhere : (p : ℕ) → (p < 8 * index) ⊎ (8 * index + 8 * k ≤ p) → row_dot (put_mid index k rows bytes) p ≡ row_dot rows p
  put_elsewhere p h1 = grind (arith, dot_stays, put_below, put_above)

-- the eight bytes of a word, put into a row from byte `index` on
pub word_here : (row : List ℕ) (index word j : ℕ) → ((i : ℕ) → i < 8 → get_or row (index + i) 0 ≡ get_or (to_be_bytes w64 word) i 0) → j < 64
    → row_dot row (8 * index + j) ≡ word_dot word j
word_here row index word j is within =
    grind (arith, row_dot-of_byte row (index + j / 8) (8 * index + j) (omega arith), is (j / 8) (omega arith), byte_dot-to_be_bytes word (j / 8) (j % 8) (omega arith) (omega arith))
