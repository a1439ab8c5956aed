use Rattle.std.proofs.Common.{rules}
use Rattle.press_canvas.proofs.BlockLemmas.{front_dot}
use Rattle.press_canvas.proofs.block.front_line.Goals as goal

pub returns : goal.returns
returns c = λ j low. front_dot c.args.step c.args.fronts c.requires c.args.front c.args.rear j low (search rules) (search rules)
