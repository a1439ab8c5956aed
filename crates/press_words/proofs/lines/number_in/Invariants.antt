use Rattle.std.proofs.Common.{◌≡◌, ◌≤◌, true, take}
use Rattle.std.specs.Char.{is_ascii_digit}
use Rattle.std.specs.List.{list_all}
use Rattle.press_units.specs.Limits.{greatest_of_64_bits}
use Rattle.press_units.specs.Value.{number_of}
use Rattle.press_words.proofs.lines.number_in.Given as goal

-- the number of the digits so far
abbrev pub invariant-loop-byte : goal.invariant-loop-byte
invariant-loop-byte l =
    record {
      number : l.number ≡ number_of (take l.byte-index l.word);
      small : l.number ≤ greatest_of_64_bits;
      digits : list_all is_ascii_digit (take l.byte-index l.word) ≡ true;
    }
