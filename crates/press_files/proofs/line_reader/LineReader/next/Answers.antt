use Rattle.std.proofs.Common.{arith}
use Rattle.press_units.proofs.ExitLemmas.{exit-is}
use Rattle.press_files.specs.LineReading.{held}
use Rattle.press_files.proofs.LineLemmas.{gathers-more, gives-line, gives-last, gives-none, leaves-none}
use Rattle.press_files.proofs.line_reader.LineReader.next.Goals as goal

pub returns-in_err-refill-clause-line : goal.returns-in_err-refill-clause-line
returns-in_err-refill-clause-line g c =
    rw (exit-is c.from_residual-in_err-refill.ensures.1) (gives-none c.in_err-refill.field-0.0 (held c.args.self.now) _ _ _
    c.loop-self.line.items (held c.loop-self.self) (held c.take_line.new.self) _ (held c.refill.new.self) (held c.refill.new.self) _
    c.if-not-branch.true c.loop-self.invariant.line c.in_ok-take_line.ensures.line c.in_err-refill.ensures.piece)

pub returns-then-not-branch-2-clause-line : goal.returns-then-not-branch-2-clause-line
returns-then-not-branch-2-clause-line g c =
    gives-last (held c.args.self.now) _ _ _ c.loop-self.line.items (held c.loop-self.self) (held c.take_line.new.self) _
    (held c.refill.new.self) (held c.refill.new.self) _ _ c.if-not-branch.true c.if-not-branch-2.true c.loop-self.invariant.line
    c.in_ok-take_line.ensures.line c.in_ok-refill.ensures.piece

pub loop-self-preserved : goal.loop-self-preserved
loop-self-preserved g c = grind (arith, leaves-none, gathers-more)

pub returns-clause-line : goal.returns-clause-line
returns-clause-line g c =
    gives-line (held c.args.self.now) _ _ c.loop-self.line.items (held c.loop-self.self) _ _ _ c.if-not-branch.false c.loop-self.invariant.line c.in_ok-take_line.ensures.line
