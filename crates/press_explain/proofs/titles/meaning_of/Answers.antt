use Rattle.std.proofs.Common.{◌∙◌, option_map, map, refl, ap, rules, tests}
use Rattle.std.proofs.lemmas.Iterator.{YieldsList-from_slice}
use Rattle.std.proofs.lemmas.Iterator.Search.{find_from_yields_List}
use Rattle.std.specs.Str.{bytes_eq}
use Rattle.press_explain.specs.Titles.{meanings}
use Rattle.press_explain.proofs.TitleLemmas.{plain, text-found}
use Rattle.press_explain.proofs.titles.meaning_of.Goals as goal

pub returns-in_err-row : goal.returns-in_err-row
returns-in_err-row c =
    let finds = find_from_yields_List (λ row. bytes_eq row.0.now c.args.key.now) _ _ c.find.result c.find.ensures.ran (YieldsList-from_slice _ refl) (λ x b q k. search (rules, tests)) in
    ap (option_map (λ text. text.now)) c.from_residual.ensures
    ∙ rw c.in_err-row.was at (text-found c.args.key.now c.iter.result.rest.now c.find.result meanings finds (ap (map plain) c.iter.ensures.rest))

pub returns : goal.returns
returns c =
    let finds = find_from_yields_List (λ row. bytes_eq row.0.now c.args.key.now) _ _ c.find.result c.find.ensures.ran (YieldsList-from_slice _ refl) (λ x b q k. search (rules, tests)) in
    rw c.in_ok-row.was at (text-found c.args.key.now c.iter.result.rest.now c.find.result meanings finds (ap (map plain) c.iter.ensures.rest))
