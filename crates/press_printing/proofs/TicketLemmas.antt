-- The job of a ticket prints it.
use Rattle.press_printing.specs.PrintingLaw.{JobsPrintTheirTickets}
use Rattle.press_printing.proofs.PaintLemmas.{picture-paints}
use Rattle.press_printing.proofs.PrintingLemmas.{job-prints}

pub jobs-print : JobsPrintTheirTickets
jobs-print = job-prints picture-paints
