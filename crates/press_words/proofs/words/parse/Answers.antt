use Rattle.std.proofs.Common.{◌≡◌, IfOk, List, Result, Ok, Err, true, map, refl, subst}
use Rattle.clap.specs.Simple.{is_simple}
use Rattle.clap.specs.Walk.{Text}
use Rattle.clap.specs.Words.{App, HasMatchesOf, fault_of, is_simple_and_free, subcommand_of, subcommand_rows_of, FailsBy}
use Rattle.clap.specs.declared.error.Error.{Error}
use Rattle.clap.specs.declared.parser.matches.ArgMatches.{ArgMatches}
use Rattle.press_words.specs.Words.{press_app}
use Rattle.press_words.proofs.words.parse.Goals as goal

-- no word of the command line hangs on another
simple : is_simple_and_free press_app ≡ true
simple = refl

-- its rows are those that the words give
rows_of_words : (result : Result ArgMatches Error) (words : List Text) → IfOk result (HasMatchesOf press_app words)
    → IfOk result (λ matches. subcommand_rows_of matches ≡ subcommand_of press_app words)
rows_of_words (Ok matches) words has = let is : is_simple press_app ≡ true = refl in (has is).1
rows_of_words (Err error) words has = tt

pub returns-clause-rows : goal.returns-clause-rows
returns-clause-rows c =
    let words = map (λ word. word.now) c.args.words.now in
    let P : App → Type 0 = λ app. IfOk c.try_get_matches_from.result (HasMatchesOf app words) in
    rows_of_words c.try_get_matches_from.result words (subst P c.in_ok-command.ensures c.try_get_matches_from.ensures.matches)

pub returns-clause-fault : goal.returns-clause-fault
returns-clause-fault c =
    let P : App → Type 0 = λ app. is_simple_and_free app ≡ true → FailsBy (fault_of app (map (λ word. word.now) c.args.words.now)) c.try_get_matches_from.result in
    subst P c.in_ok-command.ensures c.try_get_matches_from.ensures.kinds simple
