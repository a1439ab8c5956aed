use Rattle.std.proofs.lemmas.Grind.{same_number_lists}
use Rattle.std.proofs.Common.{rules, ◌≢◌, arith}
use Rattle.press_bits.proofs.RegionLemmas.{span_is}
use Rattle.press_bits.proofs.comparing.differing.Goals as goal

pub same_from-right-requires-clause-within : goal.same_from-right-requires-clause-within
same_from-right-requires-clause-within c =
    let apart : c.args.before.now ≢ c.args.after.now = search rules in
    grind (arith, same_number_lists, c.requires, c.same_before-left.ensures.same)

pub returns : goal.returns
returns c =
    let within = c.same_from-right.ensures in
    span_is c.args.before.now c.args.after.now c.same_before-left.result c.same_from-right.result c.requires within.behind within.within
    c.same_before-left.ensures.same within.same (c.same_before-left.ensures.other (omega (arith, within.behind, within.within))) (search rules) (search rules)
