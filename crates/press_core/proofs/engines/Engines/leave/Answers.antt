use Rattle.std.proofs.Common.{◌<◌, arith, ◌∙◌, ap, get_or, if◌then◌else◌, length, None}
use Rattle.std.specs.Prelude.{slice_set}
use Rattle.std.proofs.lemmas.List.{get_or_default, length-set}
use Rattle.std.proofs.lemmas.List.Edits.{map_over_more}
use Rattle.press_core.specs.Engines.{is_number}
use Rattle.press_core.proofs.EngineLemmas.{left_front}
use Rattle.press_core.proofs.engines.Engines.leave.Goals as goal

pub loop-engine-preserved : goal.loop-engine-preserved
loop-engine-preserved c =
    let i = c.loop-engine.engine in
    let now = c.loop-engine.self-inside.running in
    let so_far = c.loop-engine.invariant in
    let within : i < length c.self.inside.running = omega (arith, c.loop-engine-test.true, so_far.count, c.self.invariant) in
    record {
      so_far =
          ap (λ e. slice_set now i e) c.after_leaving.ensures
          ∙ map_over_more (λ entry. if is_number c.args.number entry then None else entry) c.self.inside.running now i (get_or now i None) within so_far.so_far
          (get_or_default now i None (get_or now i None) (omega (arith, within, so_far.long)));
      long = length-set now i c.after_leaving.result ∙ so_far.long;
      count = so_far.count;
    }

pub returns : goal.returns
returns c = grind (arith, left_front)
