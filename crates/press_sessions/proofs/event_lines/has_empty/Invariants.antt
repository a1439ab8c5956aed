use Rattle.std.proofs.Common.{◌≡◌, ℕ, List, Bor, false, map, take}
use Rattle.std.specs.List.{list_any}
use Rattle.press_sessions.specs.EventLines.{is_empty}
use Rattle.press_sessions.proofs.event_lines.has_empty.Given as goal

-- no word so far is empty
abbrev pub invariant-loop-word : goal.invariant-loop-word
invariant-loop-word l = list_any is_empty (map {A = Bor (List ℕ)} {B = List ℕ} (λ word. word.now) (take l.word-index l.words)) ≡ false
