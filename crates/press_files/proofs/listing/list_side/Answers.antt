use Rattle.press_devices.proofs.WritesLemmas.{Writes-then, Writes-stopped}
use Rattle.press_files.specs.Listing.{line_end, measured_line, measures_text}
use Rattle.press_files.proofs.listing.list_side.Goals as goal

pub returns-in_err-list_measures-clause-written : goal.returns-in_err-list_measures-clause-written
unfolding measured_line
returns-in_err-list_measures-clause-written g c =
    Writes-stopped _ _ _ (measures_text c.args.number c.args.side.now c.args.measures.now) (line_end c.args.measures.now.digest)
    c.from_residual.ensures.0 c.in_err-list_measures.ensures.written

pub returns-clause-written : goal.returns-clause-written
unfolding measured_line
returns-clause-written g c =
    Writes-then _ _ _ _ (measures_text c.args.number c.args.side.now c.args.measures.now) (line_end c.args.measures.now.digest)
    c.in_ok-list_measures.ensures.written c.end_line.ensures.written
