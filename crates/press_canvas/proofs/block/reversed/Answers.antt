use Rattle.std.proofs.Common.{ℕ, ◌∙◌, ap}
use Rattle.press_bits.specs.Words.{word_dot}
use Rattle.press_canvas.proofs.BlockLemmas.{mirrored_2, mirrored_4, mirrored_8, mirrored_whole, step_1, step_2, step_4}
use Rattle.press_canvas.proofs.block.reversed.Goals as goal

pub swapped-pairs-requires : goal.swapped-pairs-requires
swapped-pairs-requires c = step_1

pub swapped-fours-requires : goal.swapped-fours-requires
swapped-fours-requires c = step_2

pub swapped-requires : goal.swapped-requires
swapped-requires c = step_4

pub returns : goal.returns
returns c = λ j low.
    let word : ℕ = c.args.word in
    ap (λ n. word_dot n j) c.swap_bytes.ensures
    ∙ mirrored_whole word c.swapped.result
    (mirrored_8 word c.swapped-fours.result c.swapped.result
    (mirrored_4 word c.swapped-pairs.result c.swapped-fours.result
    (mirrored_2 word c.swapped-pairs.result c.swapped-pairs.ensures)
    c.swapped-fours.ensures)
    c.swapped.ensures) j low
