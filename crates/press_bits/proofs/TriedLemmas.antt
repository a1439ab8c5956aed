-- What holds of each number below a bound, tried one by one.
use Rattle.std.proofs.Common.{◌≡◌, ℕ, ◌<◌, zero, suc, Bool, true, false, ◌&&◌, not, ap, ◌∙◌, inl, inr, arith}
use Rattle.std.proofs.lemmas.Bool.{cases_eq}

abbrev pub every : (ℕ → Bool) → ℕ → Bool
every p zero = true
every p (suc n) = p n && every p n

pub every_at : (p : ℕ → Bool) (n k : ℕ) → every p n ≡ true → k < n → p k ≡ true
every_at p zero k all below = absurd (omega arith)
every_at p (suc n) k all below =
    elim (cases_eq k n) [
      | inl here ↦ ap p here ∙ grind arith
      | inr apart ↦ every_at p n k (grind arith) (omega arith)
    ]

abbrev pub same_test : Bool → Bool → Bool
same_test true b = b
same_test false b = not b

pub same_of : (a b : Bool) → same_test a b ≡ true → a ≡ b
same_of a b same = grind arith
