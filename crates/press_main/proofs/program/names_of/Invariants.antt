use Rattle.std.proofs.Common.{◌≡◌, ℕ, List, Bor, map, take}
use Rattle.press_main.proofs.program.names_of.Given as goal

-- the names of the texts so far
abbrev pub invariant-loop-text : goal.invariant-loop-text
invariant-loop-text l = map {A = Bor (List ℕ)} {B = List ℕ} (λ name. name.now) l.names.items ≡ map {A = Bor (List ℕ)} {B = List ℕ} (λ text. text.now) (take l.text-index l.texts)
