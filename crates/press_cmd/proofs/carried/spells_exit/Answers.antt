use Rattle.std.proofs.lemmas.Bool.{ne_eqb}
use Rattle.press_cmd.proofs.ExitTest.{exit_decides, other_field, other_end}
use Rattle.press_cmd.proofs.carried.spells_exit.Goals as goal

pub returns-then-eq : goal.returns-then-eq
returns-then-eq c =
    exit_decides c.args.character c.args.group c.args.field.now c.args.end c.args.payload.now c.as_slice.result.now c.if-is_none.ensures
    c.requires.end_class c.as_slice.ensures c.is_empty.result c.if-character-eq37.true c.if-end-eq88.true c.if-eq.ensures
    c.is_empty.ensures

pub returns-else-eq : goal.returns-else-eq
returns-else-eq c =
    other_field c.args.character c.args.group c.args.field.now c.args.end c.args.payload.now c.as_slice.result.now c.if-is_none.ensures
    c.requires.end_class c.as_slice.ensures c.eq.result c.if-eq.ensures c.if-eq.false

pub returns-else-end-eq88 : goal.returns-else-end-eq88
returns-else-end-eq88 c =
    other_end c.args.character c.args.group c.args.field.now c.args.end c.args.payload.now c.if-is_none.ensures c.requires.end_class _ (ne_eqb c.args.end 88 c.if-end-eq88.false) c.if-end-eq88.false
