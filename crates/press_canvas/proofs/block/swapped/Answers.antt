use Rattle.std.proofs.Common.{arith}
use Rattle.press_canvas.specs.Block.{is_front}
use Rattle.press_canvas.proofs.BlockLemmas.{chosen_dot}
use Rattle.press_canvas.proofs.block.swapped.Goals as goal

pub returns : goal.returns
returns c = λ j low.
    grind (arith, c.front_line.ensures j low, chosen_dot (is_front c.args.step j) c.args.word j c.args.step _ _ (c.rear_line.ensures j low))
