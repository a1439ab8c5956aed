use Rattle.std.proofs.Common.{◌≡◌, ◌+◌, ◌*◌, ℕ, ◌∙◌, arith}
use Rattle.std.proofs.lemmas.List.{length-set}
use Rattle.press_canvas.proofs.BlockLemmas.{all_exchanged, all_pairs, exchanged_more, exchanged_pair, front_here, pair_fits}
use Rattle.press_canvas.proofs.block.exchange.Goals as goal

pub loop-line-preserved : goal.loop-line-preserved
loop-line-preserved c =
    let line : ℕ = c.loop-line.line in
    let pair : ℕ = c.loop-pair.pair in
    let step : ℕ = c.args.step in record {
      long = length-set _ _ _ ∙ length-set _ _ _ ∙ c.loop-line.invariant.long;
      dots =
          exchanged_more step c.args.fronts c.args.words.now c.loop-line.words line c.front_line.result c.rear_line.result c.requires.step c.loop-line.invariant.long
          (omega (arith, pair_fits step c.args.fronts pair c.requires.step c.loop-pair-test.true, c.loop-line-test.true))
          (front_here step pair line c.requires.step.some c.loop-line.auto.line c.loop-line-test.true) c.front_line.ensures c.rear_line.ensures c.loop-line.invariant.dots;
    }

pub loop-pair-preserved : goal.loop-pair-preserved
loop-pair-preserved c =
    let last : c.loop-line.line ≡ 2 * c.loop-pair.pair * c.args.step + c.args.step = omega arith in record {
      long = c.loop-line.invariant.long;
      dots = exchanged_pair c.args.step c.args.fronts c.args.words.now c.loop-line.words c.loop-pair.pair c.loop-line.line c.requires.step last c.loop-line.invariant.dots;
    }

pub returns-clause-dots : goal.returns-clause-dots
returns-clause-dots c =
    all_exchanged c.args.step c.args.words.now c.loop-pair.words (2 * c.loop-pair.pair * c.args.step)
    (all_pairs c.args.step c.args.fronts c.loop-pair.pair c.requires.step (omega arith)) c.loop-pair.invariant.dots
