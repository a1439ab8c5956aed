use Rattle.std.proofs.Common.{◌≡◌, ◌*◌, length}
use Rattle.press_canvas.proofs.BlockLemmas.{IsExchanged}
use Rattle.press_canvas.proofs.block.exchange.Given as goal

-- the pairs so far are exchanged
abbrev pub invariant-loop-pair : goal.invariant-loop-pair
invariant-loop-pair l = record {
  long : length l.words ≡ 64;
  dots : IsExchanged l.step l.fn.words l.words (2 * l.pair * l.step);
}

abbrev pub invariant-loop-line : goal.invariant-loop-line
invariant-loop-line l = record {
  long : length l.words ≡ 64;
  dots : IsExchanged l.step l.fn.words l.words l.line;
}
