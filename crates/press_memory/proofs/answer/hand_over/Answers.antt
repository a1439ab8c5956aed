use Rattle.std.proofs.Common.{◌≡◌, [], length, min, refl, sym, subst, arith}
use Rattle.press_memory.specs.Answers.{HandedTo}
use Rattle.press_memory.specs.declared.answer.RombixelaAnswer.{RombixelaAnswer}
use Rattle.press_memory.proofs.answer.hand_over.Goals as goal

pub returns-clause-handed : goal.returns-clause-handed
returns-clause-handed c =
    let none : 0 ≡ min 0 (length c.args.room.now) = omega arith in
    c.hand_more.ensures.handed [] c.args.room.now
    (subst (λ (answer : RombixelaAnswer). HandedTo [] c.args.room.now c.args.room.now answer) (sym c.nothing-answer.ensures)
    (record { bytes = refl; put = none; room = refl }))
