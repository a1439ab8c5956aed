-- Digits, one byte after another.
use Rattle.std.proofs.Common.{◌≡◌, ◌<◌, ◌+◌, ◌/◌, ◌%◌, ℕ, List, [], ◌∷◌, ◌++◌, length, get_or, take, refl, ap, append_assoc, arith}
use Rattle.std.specs.Prelude.{slice_index}
use Rattle.std.proofs.lemmas.List.{take_more}
use Rattle.hex.specs.Hex.{encode_with, encode_upper, upper_digits}

pub digits-nil : encode_upper [] ≡ []
unfolding encode_with
digits-nil = refl

pub digits-append : (xs ys : List ℕ) → encode_upper (xs ++ ys) ≡ encode_upper xs ++ encode_upper ys
unfolding encode_with
digits-append [] ys = refl
digits-append (b ∷ xs) ys = ap (λ d. slice_index upper_digits (b / 16) ∷ slice_index upper_digits (b % 16) ∷ d) (digits-append xs ys)

pub digits-one : (b : ℕ) → encode_upper (b ∷ []) ≡ slice_index upper_digits (b / 16) ∷ slice_index upper_digits (b % 16) ∷ []
unfolding encode_with
digits-one b = refl

-- the digits of one byte more
pub digits_more : (bytes : List ℕ) (i : ℕ) → i < length bytes
    → encode_upper (take (i + 1) bytes) ≡ encode_upper (take i bytes) ++ (slice_index upper_digits (get_or bytes i 0 / 16) ∷ slice_index upper_digits (get_or bytes i 0 % 16) ∷ [])
digits_more bytes i h = grind (arith, take_more bytes i 0 h, digits-append (take i bytes) (get_or bytes i 0 ∷ []), digits-one (get_or bytes i 0))

-- what was written, and the digits of one byte more
pub more_digits : (bytes : List ℕ) (i high low : ℕ) (old out : List ℕ) → i < length bytes → high ≡ get_or bytes i 0 / 16 → low ≡ get_or bytes i 0 % 16
    → out ≡ old ++ encode_upper (take i bytes) → out ++ (slice_index upper_digits high ∷ slice_index upper_digits low ∷ []) ≡ old ++ encode_upper (take (i + 1) bytes)
more_digits bytes i high low old out h first second so_far = grind (arith, append_assoc, digits_more)

-- the digits of a first byte stand first
pub digits_first : (b : ℕ) (bytes : List ℕ) → encode_upper (b ∷ bytes) ≡ slice_index upper_digits (b / 16) ∷ slice_index upper_digits (b % 16) ∷ encode_upper bytes
unfolding encode_with
digits_first b bytes = refl
