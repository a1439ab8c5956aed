use Rattle.std.proofs.lemmas.Fmt.{decimal-digits_of}
use Rattle.std.proofs.lemmas.List.{append_cancel_right}
use Rattle.std.proofs.lemmas.List.{append_cancel_left}
use Rattle.std.proofs.Common.{arith}
use Rattle.press_sink.proofs.template.is_side_name.Goals as goal

pub returns-in-Some-between-clause-test : goal.returns-in-Some-between-clause-test
returns-in-Some-between-clause-test c =
    grind (arith, append_cancel_left, append_cancel_right, c.in-Some.ensures, c.in-Some-between.ensures, c.is_written.ensures)

pub returns-in-Some-between-clause-sides : goal.returns-in-Some-between-clause-sides
returns-in-Some-between-clause-sides c =
    let test = returns-in-Some-between-clause-test c in
    λ parts number is some small named. test.1 (grind (arith, decimal-digits_of))
