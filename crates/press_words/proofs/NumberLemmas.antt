-- Numbers of words, digit by digit.
use Rattle.std.proofs.Common.{◌≡◌, ◌∙◌, ◌<◌, ◌≤◌, ◌+◌, ◌-◌, ◌*◌, ℕ, List, [], ◌∷◌, ◌++◌, Bool, cond, length, take, drop, get_or, Some, None, sym, ap, subst, arith}
use Rattle.std.specs.Prelude.{◌&&◌, nat_le}
use Rattle.std.specs.Char.{is_ascii_digit}
use Rattle.std.specs.List.{fold, list_all}
use Rattle.std.proofs.lemmas.List.{take_more, take-append-drop}
use Rattle.std.proofs.lemmas.List.Sums.{fold-append}
use Rattle.press_units.specs.Limits.{greatest_of_64_bits}
use Rattle.press_units.specs.Value.{number_of}
use Rattle.press_words.specs.Lines.{number_in}

-- more digits make no smaller number
grows : (number : ℕ) (digits : List ℕ) → number ≤ fold (λ number digit. 10 * number + (digit - 48)) number digits
grows number [] = omega arith
grows number (digit ∷ digits) = let more = grows (10 * number + (digit - 48)) digits in omega (arith, more)

grows-then : (digits others : List ℕ) → number_of digits ≤ number_of (digits ++ others)
grows-then digits others = grind (arith, fold-append, grows)

-- one digit more
pub number-more : (word : List ℕ) (i : ℕ) → i < length word → number_of (take (i + 1) word) ≡ 10 * number_of (take i word) + (get_or word i 0 - 48)
number-more word i inside = ap number_of (take_more word i 0 inside) ∙ fold-append (λ number digit. 10 * number + (digit - 48)) 0 (take i word) (get_or word i 0 ∷ [])

no_number : (all : Bool) (number : ℕ) → greatest_of_64_bits < number → cond (all && nat_le number greatest_of_64_bits) (Some number) None ≡ None
no_number all number great = grind arith

-- a number that is too great, at one of its digits
pub too_great : (word : List ℕ) (i : ℕ) → i < length word → greatest_of_64_bits < 10 * number_of (take i word) + (get_or word i 0 - 48) → None ≡ number_in word
too_great word i inside great =
    let so_far = number-more word i inside in
    let more = subst (λ (n : List ℕ). number_of (take (i + 1) word) ≤ number_of n) (take-append-drop (i + 1) word) (grows-then (take (i + 1) word) (drop (i + 1) word)) in
    sym (no_number (list_all is_ascii_digit word) (number_of word) (omega (arith, so_far, more, great)))
