-- Numbers that were cut to one above the most.
use Rattle.std.proofs.Common.{◌≡◌, ℕ, min, arith}
use Rattle.std.proofs.lemmas.Grind.{common_steps}
use Rattle.press_page.specs.Settings.{most_copies}
use Rattle.press_pjl.specs.Variables.{between}

-- cut to 1,000 a number is from 1 to the most copies where it was
pub within_cut : (n : ℕ) → between 1 most_copies (min n 1000) ≡ between 1 most_copies n
within_cut n = grind (arith, common_steps)
