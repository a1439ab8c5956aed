use Rattle.std.proofs.Common.{Option, ℕ, option_map, Vec, Global, subst, arith}
use Rattle.press_units.proofs.ExitLemmas.{exit-is}
use Rattle.press_trace.specs.Tracing.{TellsBy}
use Rattle.press_trace.proofs.RunLemmas.{next_by, none_by}
use Rattle.press_trace.proofs.Telling.{further, no_memory, no_output, one_since, since_here}
use Rattle.press_trace.proofs.tracing.tell_steps.Goals as goal

pub loop-line-init : goal.loop-line-init
loop-line-init g c = since_here c.args.by c.args.tracer.now (g.W.WriteDevice.contents c.args.out.now) c.requires.sound

pub returns-in_err-line-clause-further : goal.returns-in_err-line-clause-further
returns-in_err-line-clause-further g c =
    rw (exit-is c.from_residual.ensures.1)
    (λ bytes old told. no_memory c.args.by bytes old (g.W.WriteDevice.contents c.loop-line.out) c.loop-line.tracer (c.loop-line.invariant.told bytes old told))

pub returns-in_err-write_whole-clause-further : goal.returns-in_err-write_whole-clause-further
returns-in_err-write_whole-clause-further g c =
    let tells =
    next_by c.args.by c.loop-line.tracer c.in-Some.line.items c.next.new.self c.loop-line.invariant.sound.within
    (subst (λ (line : Option (Vec ℕ Global)).
    TellsBy c.args.by c.loop-line.tracer (option_map (λ (text : Vec ℕ Global). text.items) line) c.next.new.self)
    c.in-Some.is c.in_ok-line.ensures.tells) in
    rw (exit-is c.from_residual-in_err-write_whole.ensures.1)
    (λ bytes old told. no_output c.args.by bytes old (g.W.WriteDevice.contents c.loop-line.out) c.loop-line.tracer
    (c.loop-line.invariant.told bytes old told)
    c.next.new.self c.in-Some.line.items tells (g.W.WriteDevice.contents c.write_whole.new.output) _
    (rw c.deref.ensures.value at c.in_err-write_whole.ensures.written))

pub loop-line-smaller : goal.loop-line-smaller
loop-line-smaller g c =
    (next_by c.args.by c.loop-line.tracer c.in-Some.line.items c.next.new.self c.loop-line.invariant.sound.within
    (subst (λ (line : Option (Vec ℕ Global)).
    TellsBy c.args.by c.loop-line.tracer (option_map (λ (text : Vec ℕ Global). text.items) line) c.next.new.self)
    c.in-Some.is c.in_ok-line.ensures.tells)).fewer

pub loop-line-preserved : goal.loop-line-preserved
loop-line-preserved g c =
    let tells =
    next_by c.args.by c.loop-line.tracer c.in-Some.line.items c.next.new.self c.loop-line.invariant.sound.within
    (subst (λ (line : Option (Vec ℕ Global)).
    TellsBy c.args.by c.loop-line.tracer (option_map (λ (text : Vec ℕ Global). text.items) line) c.next.new.self)
    c.in-Some.is c.in_ok-line.ensures.tells) in
    one_since c.args.by c.args.tracer.now (g.W.WriteDevice.contents c.args.out.now) c.loop-line.tracer (g.W.WriteDevice.contents c.loop-line.out)
    c.loop-line.invariant
    c.next.new.self c.in-Some.line.items (g.W.WriteDevice.contents c.write_whole.new.output) tells c.in_ok-line.ensures.sound
    (rw c.deref.ensures.value at c.in_ok-write_whole.ensures.written)

pub returns-clause-further : goal.returns-clause-further
returns-clause-further g c = grind (arith, none_by, further)
