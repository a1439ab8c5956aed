use Rattle.std.proofs.Common.{◌∙◌, ◌<◌, length, arith, sym, ap, subst}
use Rattle.std.proofs.lemmas.Bool.{eqb-false}
use Rattle.press_asm.specs.declared.fault.AssembleError.{AssembleError}
use Rattle.press_asm.specs.Text.{Refuses}
use Rattle.press_asm.proofs.Assembling.{refused, one_more, after_shorter}
use Rattle.press_asm.proofs.assembler.assemble.Goals as goal

pub returns-in-Err-clause-refused : goal.returns-in-Err-clause-refused
returns-in-Err-clause-refused c =
    let other = eqb-false (length c.loop-rest.rest.now) 0 (sym c.is_empty.ensures ∙ c.loop-rest-test.true) in
    let some_ : 0 < length c.loop-rest.rest.now = omega (arith, other) in
    subst (λ (e : AssembleError). Refuses c.args.text.now e) (sym c.at.ensures)
    (refused c.args.text.now c.loop-rest.rest.now c.loop-rest.out.items c.loop-rest.number c.split_line.result.0.now c.split_line.result.1.now c.in-Err.fault some_
    c.split_line.ensures.line c.split_line.ensures.rest c.loop-rest.invariant.so_far c.in-Err.ensures.err)

pub loop-rest-preserved : goal.loop-rest-preserved
loop-rest-preserved c =
    let other = eqb-false (length c.loop-rest.rest.now) 0 (sym c.is_empty.ensures ∙ c.loop-rest-test.true) in
    let some_ : 0 < length c.loop-rest.rest.now = omega (arith, other) in
    let shorter = after_shorter c.loop-rest.rest.now some_ in
    record {
      so_far = one_more c.args.text.now c.loop-rest.rest.now c.loop-rest.out.items _ c.loop-rest.number c.split_line.result.0.now c.split_line.result.1.now some_
          c.split_line.ensures.line c.split_line.ensures.rest c.loop-rest.invariant.so_far c.in-Ok.ensures.ok;
      counted = let after = ap length c.split_line.ensures.rest in omega (arith, shorter, after, c.loop-rest.invariant.counted);
    }
