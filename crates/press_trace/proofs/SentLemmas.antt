-- How many sheets go out.
use Rattle.std.proofs.Common.{◌≡◌, ◌∙◌, ◌+◌, ℕ, zero, suc, List, ◌∷◌, ◌++◌, length, min, Option, refl, ap, arith}
use Rattle.std.proofs.lemmas.List.{length-append}
use Rattle.press_units.specs.Limits.{greatest_of_64_bits}
use Rattle.press_sink.specs.Sending.{Output, sheets_of}
use Rattle.press_bits.specs.PrintedSheet.{PrintedSheet}
use Rattle.press_sink.proofs.SendingLemmas.{sheets_of-append}
use Rattle.press_table.specs.declared.effect.Sent.{Sent}
use Rattle.press_table.specs.Outputs.{copies_out, next_count, all_outputs, outputs_of}

sheets-append : (outputs others : List Output) → length (sheets_of (outputs ++ others)) ≡ length (sheets_of outputs) + length (sheets_of others)
sheets-append outputs others = ap length (sheets_of-append outputs others) ∙ length-append (sheets_of outputs) (sheets_of others)

pub count_copies : (sheet : PrintedSheet) (copies : ℕ) (count : Option ℕ) → copies ≡ length (sheets_of (copies_out sheet copies count))
count_copies sheet zero count = refl
count_copies sheet (suc copies) count = grind (arith, count_copies sheet copies (next_count count))

-- a part more
pub count_more : (part : Sent) (rest : List Sent) (count part_count new all : ℕ) → part_count ≡ length (sheets_of (outputs_of part)) → new ≡ min (count + part_count) greatest_of_64_bits
    → min (count + length (sheets_of (all_outputs (part ∷ rest)))) greatest_of_64_bits ≡ all → min (new + length (sheets_of (all_outputs rest))) greatest_of_64_bits ≡ all
count_more part rest count part_count new all is counted so_far = grind (arith, sheets-append)
