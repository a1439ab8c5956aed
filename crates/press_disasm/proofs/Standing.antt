-- Lines that stand for commands, one each, give these commands and no others.
use Rattle.std.proofs.Common.{◌≡◌, ◌∙◌, ℕ, List, [], ◌∷◌, refl, sym, arith}
use Rattle.press_cmd.specs.Token.{Token}
use Rattle.press_asm.specs.Text.{LinesGive, LinesStand}
use Rattle.press_asm.proofs.FormLaws.{one_form}

-- they give them
pub stand_give : (lines : List (List ℕ)) (cs : List Token) → LinesStand lines cs → LinesGive lines cs
stand_give [] cs h = h
stand_give (line ∷ lines) [] h = absurd h
stand_give (line ∷ lines) (c ∷ cs) h = (h.0.0, c ∷ [], cs, h.0.1, grind (arith, h.0.2), refl, stand_give lines cs h.1)

-- and no others
pub one_give : (lines : List (List ℕ)) (cs : List Token) → LinesStand lines cs → (ds : List Token) → LinesGive lines ds → ds ≡ cs
one_give [] cs h ds g = g ∙ sym h
one_give (line ∷ lines) [] h ds g = absurd h
one_give (line ∷ lines) (c ∷ cs) h ds g = grind (arith, one_form, one_give lines cs h.1 g.2 g.6)
