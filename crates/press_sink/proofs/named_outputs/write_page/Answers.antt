use Rattle.std.proofs.Common.{rules, refl, [], sym}
use Rattle.std.proofs.lemmas.List.{append-nil}
use Rattle.press_pbm.specs.Spelling.{file_of}
use Rattle.press_sink.proofs.OutputsLemmas.{made_whole, made_prefix, made_given_up}
use Rattle.press_sink.proofs.named_outputs.write_page.Goals as goal

pub returns-in-Err-clause-fault : goal.returns-in-Err-clause-fault
returns-in-Err-clause-fault g c =
    made_given_up _ _ _ _ _ _ _ _ refl c.in-Ok.ensures.made c.in-Ok.ensures.empty c.in-Err.ensures.fault c.abandon.ensures.gives

pub returns-in-Ok-close-clause-made : goal.returns-in-Ok-close-clause-made
returns-in-Ok-close-clause-made g c =
    made_whole c.close.result _ _ _ _ _ _ _ _ (search rules) refl c.in-Ok.ensures.made c.in-Ok.ensures.empty c.in_default-write_pbm.ensures.ok c.close.ensures.closes

pub returns-in-Err-close-clause-fault : goal.returns-in-Err-close-clause-fault
returns-in-Err-close-clause-fault g c =
    let file = file_of c.args.page.now in
    made_prefix c.close.result _ _ _ _ _ _ _ _ refl c.in-Ok.ensures.made c.in-Ok.ensures.empty (file, [], sym (append-nil file), c.in_default-write_pbm.ensures.ok) c.close.ensures.closes
