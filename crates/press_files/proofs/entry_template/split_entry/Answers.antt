use Rattle.press_files.proofs.MarkLemmas.{finds_nowhere, stands_once, stands_twice}
use Rattle.press_files.proofs.EntryTemplateLemmas.{q_is_no_percent}
use Rattle.press_files.proofs.entry_template.split_entry.Goals as goal

pub returns-in_err-before : goal.returns-in_err-before
returns-in_err-before c = rw c.from_residual.ensures (λ round once. finds_nowhere _ _ q_is_no_percent _ c.in_err-before.ensures.cases round once.spells)

pub returns-then-contains : goal.returns-then-contains
returns-then-contains c =
    let (i, j, found, f, b, _, _, _) = c.in_ok-before.ensures.cases in
    let (m, n, again, _, _) = c.if-contains.ensures.cases in
    stands_twice _ _ q_is_no_percent _ _ _ i j m n found f b again

pub returns : goal.returns
returns c =
    let (i, j, found, f, b, _, at, _) = c.in_ok-before.ensures.cases in
    stands_once _ _ q_is_no_percent _ _ _ i j found f b at c.if-contains.ensures.cases
