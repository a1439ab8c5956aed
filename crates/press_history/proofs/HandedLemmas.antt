-- What was handed out under a number.
use Rattle.std.proofs.Common.{◌≡◌, ◌++◌, ◌==◌, ℕ, true, false, List, [], ◌∷◌, refl, ap, arith, rules}
use Rattle.press_sink.specs.declared.delivery.Delivery.{Delivery}
use Rattle.press_sink.specs.Sending.{under_tag}
use Rattle.press_bits.specs.PrintedSheet.{PrintedSheet}
use Rattle.press_history.specs.History.{sheets_under}

pub handed-append : (n : ℕ) (one other : List Delivery) → sheets_under n (one ++ other) ≡ sheets_under n one ++ sheets_under n other
handed-append n [] other = refl
handed-append n (d ∷ one) other = grind (arith, handed-append n one other)

pub handed-own : (n : ℕ) (sheets : List PrintedSheet) → sheets_under n (under_tag n sheets) ≡ sheets
handed-own n [] = refl
handed-own n (sheet ∷ sheets) = let here : (n == n) ≡ true = grind (arith, rules) in rw here (ap (λ l. sheet ∷ l) (handed-own n sheets))

pub handed-other : (number n : ℕ) (sheets : List PrintedSheet) → (number == n) ≡ false → sheets_under n (under_tag number sheets) ≡ []
handed-other number n [] apart = refl
handed-other number n (sheet ∷ sheets) apart = rw apart (handed-other number n sheets apart)
