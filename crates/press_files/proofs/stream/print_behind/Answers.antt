use Rattle.press_units.proofs.ExitLemmas.{exit-is}
use Rattle.press_files.proofs.PrintedLemmas.{Printed-no_memory}
use Rattle.press_files.proofs.stream.print_behind.Goals as goal

pub returns-in_err-printed-clause-printed : goal.returns-in_err-printed-clause-printed
returns-in_err-printed-clause-printed g c =
    let same = c.in_err-printed.ensures.nothing in
    rw (exit-is c.from_residual.ensures.1, same.0, same.1, same.2)
    (Printed-no_memory c.chain.ensures.prints c.args.front.now (g.R.ReadDevice.remaining c.args.reader.now) c.args.tag _)
