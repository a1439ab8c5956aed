use Rattle.press_memory.specs.Written.{StandBefore}
use Rattle.press_memory.proofs.job.images_in.Given as goal

-- the images so far, and what is left behind them
abbrev pub invariant-loop : goal.invariant-loop
invariant-loop l = StandBefore l.files l.rest l.images.items
