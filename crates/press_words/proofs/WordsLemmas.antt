-- What the words of the command line come to.
use Rattle.std.proofs.Common.{false, ◌≡◌, ◌∙◌, ◌⊎◌, ◌<◌, List, [], ◌∷◌, length, Option, Some, None, option_map, Result, Ok, Err, IfOk, IfErr, IsErrAnd, refl, ap, inl, inr, arith}
use Rattle.std.specs.Prelude.{option_and_then, ok_or}
use Rattle.clap.specs.Built.{AddsSubcommand}
use Rattle.clap.specs.declared.builder.command.Command.{Command}
use Rattle.clap.specs.declared.builder.command.Command.TheViews.{out-Command}
use Rattle.clap.specs.Words.{App, app_of, shape_of, with_subcommand, Row, Text, all_of, first_of, first_value, matched_of, raw_values, rows_of, fault_of, subcommand_name_of, subcommand_of, subcommand_rows_of, IsAmong, HasKind, kind_of}
use Rattle.clap.specs.declared.error.Error.{Error}
use Rattle.clap.specs.declared.error.kind.ErrorKind.{ErrorKind}
use Rattle.clap.specs.declared.parser.matches.ArgMatches.{ArgMatches}
use Rattle.clap.specs.declared.parser.matches.Found.{Found}
use Rattle.clap.proofs.WalkLemmas.{first_value-rows, raw_values-rows}
use Rattle.press_words.specs.declared.words.Request.{Request}
use Rattle.press_words.specs.declared.words.Refusal.{Refusal}
use Rattle.press_words.specs.declared.words.Refusal.TheVariants.{Words}
use Rattle.press_words.specs.View.{request_seen, IsForMemory}
use Rattle.press_words.specs.Words.{Arguments, arguments, arguments_by, arguments_without, press_app}

-- the first value of a word, as the rows of the matches have it
pub value_by_rows : (found : Found) (id : Text) → first_value found id ≡ first_of id (rows_of found)
value_by_rows found id = first_value-rows found id

-- and all of them
pub values_by_rows : (found : Found) (id : Text) → option_map raw_values (matched_of found id) ≡ all_of id (rows_of found)
values_by_rows found id = raw_values-rows found id

-- the name of the subcommand that was used, and its rows, are what the matches have of it
pub subcommand_rows-is : (matches : ArgMatches) (name : Text) (rows : List Row) → Some name ≡ subcommand_name_of matches
    → Some rows ≡ option_map (λ found. found.1) (subcommand_rows_of matches) → subcommand_rows_of matches ≡ Some (name, rows)
subcommand_rows-is matches name rows is has = grind arith

-- a command line with one subcommand more
pub subcommand_added : (old sub new : Command) (before app : App) → AddsSubcommand old sub new → (out-Command sub).has_globals ≡ false
    → app_of old ≡ before → app_of sub ≡ app → app_of new ≡ with_subcommand before app.top
subcommand_added old sub new before app adds local p q = adds.shape local ∙ ap (λ (one : App). with_subcommand one (shape_of sub)) p ∙ ap (λ (one : App). with_subcommand before one.top) q

-- with a word behind the program's name, what the command line makes of them
asked_with_words : (words : List Text) → 1 < length words → arguments words ≡ arguments_without (fault_of press_app words) words
asked_with_words words more = grind arith

-- words in which the command line finds no fault ask for what its matches do
pub asked-matches : (words : List Text) (rows : Option (Text × List Row)) (seen : Option Arguments) → 1 < length words
    → fault_of press_app words ≡ [] → rows ≡ subcommand_of press_app words
    → seen ≡ option_and_then (λ found. arguments_by found.0 found.1) rows → arguments words ≡ seen
asked-matches words rows seen more no_fault same sees = grind arith

-- words in which it finds a fault ask for nothing
asked-faulty : (words : List Text) (kind : ErrorKind) → 1 < length words → IsAmong kind (fault_of press_app words) → arguments words ≡ None
asked-faulty words kind more fault = asked_with_words words more ∙ nothing (fault_of press_app words) fault where
  nothing : (faults : List ErrorKind) → IsAmong kind faults → arguments_without faults words ≡ None
  nothing [] among = absurd among
  nothing (first ∷ faults) among = refl

-- an answer by an option, where words ask for what it shows
pub asked-ok : (words : List Text) (found : Option Request) (refusal : Refusal) (result : Result Request Refusal)
    → result ≡ ok_or found refusal → arguments words ≡ option_map request_seen found
    → IfOk result (λ request. arguments words ≡ Some (request_seen request))
asked-ok words found refusal result is asks = grind arith

-- an answer that is the error of the command line
pub asked-err-kinds : (words : List Text) (result : Result Request Refusal) (error : Error) → 1 < length words
    → HasKind (fault_of press_app words) error → IsErrAnd result (λ refusal. refusal ≡ Words error)
    → IfErr result (λ refusal. IsForMemory refusal ⊎ (arguments words ≡ None))
asked-err-kinds words (Ok request) error more kinds is = tt
asked-err-kinds words (Err refusal) error more kinds is =
    rw is (elim kinds [ inl memory ↦ inl memory | inr among ↦ inr (asked-faulty words (kind_of error) more among) ])
