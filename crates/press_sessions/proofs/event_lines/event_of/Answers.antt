use Rattle.std.proofs.Common.{◌∙◌, List, ℕ, Bor, map, ap, sym}
use Rattle.press_sessions.proofs.WordLemmas.{event-named}
use Rattle.press_sessions.proofs.event_lines.event_of.Goals as goal

pub returns : goal.returns
returns c =
    let now : List (Bor (List ℕ)) → List (List ℕ) = map {A = Bor (List ℕ)} {B = List ℕ} (λ word. word.now) in
    event-named (now c.args.words.now) c.in_ok-first.first.now.now (now c.in_ok-first.others.now) c.in_ok-kind_named.field-0 _
    (sym c.has_empty.ensures ∙ c.if-has_empty.false) (ap now c.in_ok-first.ensures.cases.0) (sym c.kind_named.ensures ∙ c.in_ok-kind_named.was) c.asked_by.ensures
