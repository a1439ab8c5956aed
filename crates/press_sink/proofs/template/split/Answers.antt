use Rattle.press_sink.proofs.TemplateLemmas.{first_alone, found_twice, found_nowhere}
use Rattle.press_sink.proofs.template.split.Goals as goal

pub returns-in_err-front : goal.returns-in_err-front
returns-in_err-front c = rw c.from_residual.ensures (found_nowhere _ c.in_err-front.ensures.cases)

pub returns-then-contains : goal.returns-then-contains
returns-then-contains c =
    let (i, j, found, f, b, _, _, _) = c.in_ok-front.ensures.cases in
    let (m, n, again, _, _) = c.if-contains.ensures.cases in
    found_twice _ _ _ i j m n found f b again

pub returns : goal.returns
returns c =
    let (i, j, found, f, b, _, at, _) = c.in_ok-front.ensures.cases in
    first_alone _ _ _ i j found f b at c.if-contains.ensures.cases
