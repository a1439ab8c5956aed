use Rattle.std.proofs.Common.{◌≡◌, ◌+◌, ◌≤◌, drop, length, min}
use Rattle.press_units.specs.Limits.{greatest_of_64_bits}
use Rattle.press_sink.specs.Sending.{sheets_of}
use Rattle.press_table.specs.Outputs.{all_outputs}
use Rattle.press_trace.proofs.sent.sheets_in.Given as goal

-- the count with the sheets of the others is that of all
abbrev pub invariant-loop-part : goal.invariant-loop-part
invariant-loop-part l =
    (l.count ≤ greatest_of_64_bits)
    × (min (l.count + length (sheets_of (all_outputs (drop l.part-index l.sent)))) greatest_of_64_bits
    ≡ min (length (sheets_of (all_outputs l.sent))) greatest_of_64_bits)
