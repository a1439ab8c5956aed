use Rattle.std.proofs.Common.{arith}
use Rattle.std.proofs.Common.{◌≡◌, ◌≤◌, ℕ, List, [], ◌∷◌, length, drop, false, refl, sym}
use Rattle.std.proofs.lemmas.List.{drop_all}
use Rattle.std.proofs.lemmas.Bool.{ltb-false}
use Rattle.press_cmd.specs.Grammar.{differs}
use Rattle.press_cmd.proofs.marks.differs.Goals as goal

differs-nothing : (text : List ℕ) → differs text [] ≡ false
differs-nothing [] = refl
differs-nothing (byte ∷ text) = refl

pub returns-in-None : goal.returns-in-None
returns-in-None c =
    let past : length c.args.bytes.now ≤ c.loop-place.place = ltb-false _ _ (sym c.in-None.ensures.lookup.0) in
    grind (arith, c.loop-place.invariant, drop_all c.loop-place.place c.args.bytes.now past, differs-nothing (drop c.loop-place.place c.args.text.now))
