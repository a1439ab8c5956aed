-- The bytes of a line, from its dots.
use Rattle.std.proofs.Common.{inl, inr, ◌≡◌, ℕ, ◌+◌, ◌-◌, ◌*◌, ◌/◌, ◌<◌, ◌≤◌, ◌⊎◌, min, zero, suc, Bool, List, rules}
use Rattle.std.proofs.Common.{◌++◌, take, drop, get_or, map, sym, ap, ◌∙◌, arith, subst, append_assoc, take-append-drop}
use Rattle.std.specs.Prelude.{nat_eq, if◌then◌else◌}
use Rattle.std.specs.Int.{bit_at}
use Rattle.std.specs.List.{fold, flat_map, range_with_len}
use Rattle.std.proofs.lemmas.List.{same_lists, get_or_default, nil_from_length, length-drop, get_or-take, get_or-drop, get_or_past, drop-drop}
use Rattle.std.proofs.lemmas.List.FromFn.{length-map-range_with_len, get_or-map-range_with_len}
use Rattle.std.proofs.lemmas.Bool.{cases_lt}
use Rattle.std.proofs.lemmas.Nat.Bits.{bit_at-suc, bit_at_lowest}
use Rattle.press_bits.specs.Page.{Page, black_at, HasNoDotOutside}
use Rattle.press_bits.specs.Mark.{row_dot, byte_dot}
use Rattle.press_bits.specs.Lines.{bytes_per_line, ArePageLines, IsPageLine}
use Rattle.press_pbm.specs.Spelling.{byte_of_dots, line_bytes}

-- a dot as a binary digit
abbrev pub bit : Bool → ℕ
bit dot = if dot then 1 else 0

-- n more dots, from dot a on, behind the bits of a number
abbrev with_dots : (ℕ → Bool) → ℕ → List ℕ → ℕ
with_dots dots n js = fold (λ byte j. 2 * byte + bit (dots j)) n js

bit_at-lowest_more : (n b : ℕ) → b ≤ 1 → bit_at (2 * n + b) 0 ≡ b
bit_at-lowest_more n b small = bit_at_lowest (2 * n + b) ∙ omega arith

bit_at-higher_more : (n b i : ℕ) → b ≤ 1 → bit_at (2 * n + b) (suc i) ≡ bit_at n i
bit_at-higher_more n b i small = let half : (2 * n + b) / 2 ≡ n = omega arith in bit_at-suc (2 * n + b) i ∙ ap (λ m. bit_at m i) half

-- the bits above those of the dots are the number's
with_dots-above : (dots : ℕ → Bool) (number a n i j : ℕ) → i ≡ n + j → bit_at (with_dots dots number (range_with_len a n)) i ≡ bit_at number j
with_dots-above dots number a zero i j is = ap (bit_at number) (omega arith)
with_dots-above dots number a (suc n) i j is =
    grind (arith, bit_at-higher_more, with_dots-above dots (2 * number + bit (dots a)) (a + 1) n i (suc j) (omega arith))

-- the bits of the dots, the last one lowest
with_dots-bits : (dots : ℕ → Bool) (number a n i j : ℕ) → i + j + 1 ≡ a + n → a ≤ j → bit_at (with_dots dots number (range_with_len a n)) i ≡ bit (dots j)
with_dots-bits dots number a zero i j is reached = absurd (omega arith)
with_dots-bits dots number a (suc n) i j is reached =
    grind (
      arith,
      with_dots-bits dots (2 * number + bit (dots a)) (a + 1) n i j,
      with_dots-above dots (2 * number + bit (dots a)) (a + 1) n i 0,
      bit_at-lowest_more number (bit (dots a)),
    )

-- the dots of a byte that was made of dots
pub byte_dot-byte_of_dots : (dots : ℕ → Bool) (j : ℕ) → j < 8 → byte_dot (byte_of_dots dots) j ≡ dots j
unfolding byte_of_dots byte_dot
byte_dot-byte_of_dots dots j within = ap (λ n. nat_eq n 1) (with_dots-bits dots 0 0 8 (7 - j) j (omega arith) (omega arith)) ∙ grind arith

bit_of_test : (n : ℕ) → n < 2 → n ≡ bit (nat_eq n 1)
bit_of_test n small = grind arith

-- a byte is made of its dots
byte_of_dots-byte_dot : (byte : ℕ) (dots : ℕ → Bool) → byte < 256 → ((j : ℕ) → j < 8 → byte_dot byte j ≡ dots j) → byte ≡ byte_of_dots dots
unfolding byte_of_dots byte_dot
byte_of_dots-byte_dot byte dots small same = grind (arith, bit_of_test)

row_dot-byte : (bytes : List ℕ) (i j : ℕ) → j < 8 → byte_dot (get_or bytes i 0) j ≡ row_dot bytes (8 * i + j)
unfolding row_dot
row_dot-byte bytes i j within = search rules

-- a line of bytes is what the page's dots make
pub IsPageLine-line_bytes : (page : Page) (y : ℕ) (bytes : List ℕ) → HasNoDotOutside page → ((i : ℕ) → get_or bytes i 0 < 256) → IsPageLine page y bytes → bytes ≡ line_bytes page y
unfolding line_bytes
IsPageLine-line_bytes page y bytes none small is =
    same_lists bytes (map byte (range_with_len 0 n)) (is.long ∙ sym (length-map-range_with_len byte 0 n))
    (λ i d within. grind (
      arith,
      get_or_default bytes i d 0 within,
      byte_of_dots-byte_dot (get_or bytes i 0) (λ j. black_at page (8 * i + j) y) (small i) (λ j inside. row_dot-byte bytes i j inside ∙ dot (8 * i + j)),
      get_or-map-range_with_len byte 0 n i i d (subst (λ l. i < l) is.long within) (omega arith),
    ))
  where
    n : ℕ
    n = bytes_per_line page.width

    byte : ℕ → ℕ
    byte i = byte_of_dots (λ j. black_at page (8 * i + j) y)

    dot : (x : ℕ) → row_dot bytes x ≡ black_at page x y
    dot x = elim (cases_lt x page.width) [ inl left ↦ is.dots x left | inr right ↦ is.padding x right ∙ search rules ]

-- lines that stand one after the other are what the page's dots make
pub ArePageLines-line_bytes : (page : Page) (count y : ℕ) (bytes : List ℕ) → HasNoDotOutside page → ((i : ℕ) → get_or bytes i 0 < 256)
    → ArePageLines page y count bytes → bytes ≡ flat_map (line_bytes page) (range_with_len y count)
ArePageLines-line_bytes page zero y bytes none small are = nil_from_length bytes (are.long ∙ omega arith)
ArePageLines-line_bytes page (suc count) y bytes none small are =
    let b : ℕ = bytes_per_line page.width in
    let begin : 0 * b ≡ 0 = omega arith in
    let line : y + 0 ≡ y = omega arith in
    let first : take b bytes ≡ line_bytes page y =
    IsPageLine-line_bytes page y (take b bytes) none (λ i. small_prefix i (cases_lt i b))
    (subst (λ k. IsPageLine page y (take b (drop k bytes))) begin (subst (λ k. IsPageLine page k (take b (drop (0 * b) bytes))) line (are.lines 0 (omega arith)))) in
    let others : ArePageLines page (y + 1) count (drop b bytes) = record {
      long = length-drop b bytes ∙ omega (arith, are.long, more count b);
      lines = λ n low.
          let next : y + suc n ≡ y + 1 + n = omega arith in
          let place : b + n * b ≡ suc n * b = sym (more n b) in
          subst (λ k. IsPageLine page k (take b (drop (n * b) (drop b bytes)))) next
          (subst (λ rest. IsPageLine page (y + suc n) (take b rest)) (sym (drop-drop (n * b) b bytes ∙ ap (λ k. drop k bytes) place)) (are.lines (suc n) (omega arith)));
    } in
    sym (take-append-drop b bytes)
    ∙ (λ i. first i ++ ArePageLines-line_bytes page count (y + 1) (drop b bytes) none (λ i. omega (arith, get_or-drop b bytes i 0, small (b + i))) others i)
  where
    more : (n b : ℕ) → suc n * b ≡ b + n * b
    more n b = omega arith

    small_prefix : (i : ℕ) → (i < bytes_per_line page.width) ⊎ (bytes_per_line page.width ≤ i) → get_or (take (bytes_per_line page.width) bytes) i 0 < 256
    small_prefix i h1 = grind (arith, get_or-take, get_or_past)

-- some lines, and those below them
lines_split : (line : ℕ → List ℕ) (count rest y : ℕ) → flat_map line (range_with_len y (count + rest)) ≡ flat_map line (range_with_len y count) ++ flat_map line (range_with_len (y + count) rest)
lines_split line zero rest y = search rules
lines_split line (suc count) rest y =
    ap (λ n. flat_map line (range_with_len y n)) (more count rest)
    ∙ ap (λ l. line y ++ l) (lines_split line count rest (y + 1) ∙ ap (λ n. flat_map line (range_with_len (y + 1) count) ++ flat_map line (range_with_len n rest)) (next y count))
    ∙ sym (append_assoc (line y) (flat_map line (range_with_len (y + 1) count)) (flat_map line (range_with_len (y + suc count) rest)))
  where
    more : (count rest : ℕ) → suc count + rest ≡ suc (count + rest)
    more count rest = omega arith

    next : (y count : ℕ) → y + 1 + count ≡ y + suc count
    next y count = omega arith

-- the lines of a band that come next behind others
pub lines_grow : (line : ℕ → List ℕ) (all done bytes : List ℕ) (k height : ℕ) → 64 * k < height → bytes ≡ flat_map line (range_with_len (64 * k) (min 64 (height - 64 * k))) →
    all ≡ done ++ flat_map line (range_with_len (64 * k) (height - 64 * k)) → all ≡ (done ++ bytes) ++ flat_map line (range_with_len (64 * (k + 1)) (height - 64 * (k + 1)))
lines_grow line all done bytes k height below is split =
    let rest : List ℕ = flat_map line (range_with_len (64 * (k + 1)) (height - 64 * (k + 1))) in
    let whole : height - 64 * k ≡ min 64 (height - 64 * k) + (height - 64 * (k + 1)) = omega arith in
    grind (arith, whole, lines_split line (min 64 (height - 64 * k)) (height - 64 * (k + 1)) (64 * k), append_assoc done bytes rest)
