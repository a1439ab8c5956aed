-- The form of a line is read by its first four bytes.
use Rattle.std.proofs.Common.{◌≡◌, ℕ, List, false, length, take, drop, min, arith}
use Rattle.std.specs.Prelude.{codes, bytes_eq}
use Rattle.press_asm.specs.Reading.{named_in, is_blank, form_of}

pub take_least : (n : ℕ) (xs : List ℕ) → n ≡ min (length xs) 4 → take n xs ≡ take 4 xs
take_least n xs e = grind arith

pub drop_least : (n : ℕ) (xs : List ℕ) → n ≡ min (length xs) 4 → drop n xs ≡ drop 4 xs
drop_least n xs e = grind arith

pub named-form_of : (line name rest : List ℕ) → name ≡ take 4 line → rest ≡ drop 4 line → is_blank line ≡ false → bytes_eq line (codes "uel") ≡ false
    → named_in name rest ≡ form_of line
named-form_of line name rest prefix back full other = grind arith
