use Rattle.std.proofs.Common.{List, ℕ}
use Rattle.press_canvas.proofs.BlockLemmas.{down_1, down_2, down_4, down_8, down_16, down_32, not_turned, step_1, step_2, step_4, step_8, step_16, step_32, turned_whole}
use Rattle.press_canvas.proofs.block.transpose.Goals as goal

pub exchange-requires-clause-step : goal.exchange-requires-clause-step
exchange-requires-clause-step c = step_32

pub exchange-requires-2-clause-step : goal.exchange-requires-2-clause-step
exchange-requires-2-clause-step c = step_16

pub exchange-requires-3-clause-step : goal.exchange-requires-3-clause-step
exchange-requires-3-clause-step c = step_8

pub exchange-requires-4-clause-step : goal.exchange-requires-4-clause-step
exchange-requires-4-clause-step c = step_4

pub exchange-requires-5-clause-step : goal.exchange-requires-5-clause-step
exchange-requires-5-clause-step c = step_2

pub exchange-requires-6-clause-step : goal.exchange-requires-6-clause-step
exchange-requires-6-clause-step c = step_1

pub returns-clause-dots : goal.returns-clause-dots
returns-clause-dots c =
    let old : List ℕ = c.args.words.now in
    turned_whole old c.exchange-6.new.words
    (down_1 old c.exchange-5.new.words c.exchange-6.new.words
    (down_2 old c.exchange-4.new.words c.exchange-5.new.words
    (down_4 old c.exchange-3.new.words c.exchange-4.new.words
    (down_8 old c.exchange-2.new.words c.exchange-3.new.words
    (down_16 old c.exchange.new.words c.exchange-2.new.words
    (down_32 old old c.exchange.new.words (not_turned old) c.exchange.ensures.dots)
    c.exchange-2.ensures.dots)
    c.exchange-3.ensures.dots)
    c.exchange-4.ensures.dots)
    c.exchange-5.ensures.dots)
    c.exchange-6.ensures.dots)
