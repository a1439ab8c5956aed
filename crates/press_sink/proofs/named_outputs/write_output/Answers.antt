use Rattle.std.proofs.Common.{refl, [], sym, arith}
use Rattle.std.proofs.lemmas.List.{append-nil}
use Rattle.press_sink.proofs.OutputsLemmas.{ok_whole, made_prefix, made_given_up}
use Rattle.press_sink.proofs.named_outputs.write_output.Goals as goal

pub returns-in-Ok-clause-made : goal.returns-in-Ok-clause-made
returns-in-Ok-clause-made g c = grind (arith, ok_whole)

pub returns-in-Ok-clause-fault : goal.returns-in-Ok-clause-fault
returns-in-Ok-clause-fault g c =
    grind (
      arith,
      made_prefix c.close.result _ _ _ _ _ _ _ _ refl c.in_ok-output.ensures.made c.in_ok-output.ensures.empty
          (c.args.bytes.now, [], sym (append-nil c.args.bytes.now), c.in-Ok.ensures.written) c.close.ensures.closes,
    )

pub returns-in-Err-clause-fault : goal.returns-in-Err-clause-fault
returns-in-Err-clause-fault g c =
    made_given_up _ _ _ _ _ _ _ _ refl c.in_ok-output.ensures.made c.in_ok-output.ensures.empty c.in-Err.ensures.written c.abandon.ensures.gives
