use Rattle.std.proofs.Common.{◌∙◌, ap}
use Rattle.press_disk.specs.Kept.{spared_of, store_of}
use Rattle.press_disk.proofs.DiskLemmas.{LeavesFiles-next}
use Rattle.press_disk.proofs.TurnLemmas.{tried-next}
use Rattle.press_disk.proofs.file_outputs.FileOutputs.open_part.Goals as goal

pub returns-in_err-part-clause-leaves : goal.returns-in_err-part-clause-leaves
returns-in_err-part-clause-leaves g c =
    let named = c.in_ok-name_part.ensures.others in
    LeavesFiles-next _ _ _ _ _ _ (ap (λ store. g.S.FileSystem.disk store) (ap store_of named)) (ap spared_of named ∙ ap spared_of c.loop-number.invariant.others)
    c.loop-number.invariant.leaves c.make_part.ensures.leaves

pub returns-in-Some-clause-leaves : goal.returns-in-Some-clause-leaves
returns-in-Some-clause-leaves g c =
    let named = c.in_ok-name_part.ensures.others in
    LeavesFiles-next _ _ _ _ _ _ (ap (λ store. g.S.FileSystem.disk store) (ap store_of named)) (ap spared_of named ∙ ap spared_of c.loop-number.invariant.others)
    c.loop-number.invariant.leaves c.make_part.ensures.leaves

pub loop-number-preserved : goal.loop-number-preserved
loop-number-preserved g c =
    let named = c.in_ok-name_part.ensures.others in
    record {
      leaves =
          LeavesFiles-next _ _ _ _ _ _ (ap (λ store. g.S.FileSystem.disk store) (ap store_of named)) (ap spared_of named ∙ ap spared_of c.loop-number.invariant.others)
          c.loop-number.invariant.leaves c.make_part.ensures.leaves;
      others = tried-next c.args.self.now c.loop-number.self c.name_part.new.self c.make_part.new.self c.loop-number.invariant.others named c.make_part.ensures.others;
    }
