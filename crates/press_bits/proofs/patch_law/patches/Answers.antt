use Rattle.press_bits.proofs.PatchLemmas.{patches_are_the_page, rows_are_the_patch}
use Rattle.press_bits.proofs.patch_law.patches.Goals as goal

pub returns-clause-page : goal.returns-clause-page
returns-clause-page c = patches_are_the_page

pub returns-clause-rows : goal.returns-clause-rows
returns-clause-rows c = rows_are_the_patch
