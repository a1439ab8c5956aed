-- What bytes mean is one result: they have one split, and are closed by one list of commands. What is printed to its end is that.
use Rattle.std.proofs.Common.{◌≡◌, ◌∙◌, ℕ, List, ◌++◌, Option, Some, None, refl, sym, ap, subst}
use Rattle.std.proofs.lemmas.List.{append-nil}
use Rattle.press_cmd.specs.ParserState.{Exit}
use Rattle.press_cmd.specs.Token.{Token}
use Rattle.press_cmd.specs.Split.{Closed, closing}
use Rattle.press_cmd.proofs.Splits.{closed_once, one_split, some_split}
use Rattle.press_sink.specs.SinkLog.{SinkLog, under}
use Rattle.press_sink.specs.Sending.{Complete, HandsOut}
use Rattle.press_sink.proofs.SendingLemmas.{Took-went}
use Rattle.press_engine.specs.declared.machine.Machine.{Machine}
use Rattle.press_stream.specs.Answers.{Reads}
use Rattle.press_stream.specs.Meaning.{meaning_of, with_exit, IsMeaning, IsMeaningAtEnd, IsOfOne, EachHasOneMeaning}
use Rattle.press_stream.specs.Printed.{Prints, Printed, TellsMeaning}

one_so_far : (bytes : List ℕ) → IsOfOne (IsMeaning bytes)
one_so_far bytes =
    let found = some_split Exit bytes in (
      meaning_of found.commands,
      (found.commands, found.mode, found.rest, found.split, refl),
      λ other is. is.4 ∙ ap meaning_of (one_split Exit bytes is.0 found.commands is.1 found.mode is.2 found.rest is.3 found.split).0,
    )

one_at_end : (bytes : List ℕ) → IsOfOne (IsMeaningAtEnd bytes)
one_at_end bytes =
    let found = some_split Exit bytes in
    let commands = found.commands ++ closing found.mode found.rest in
    let closed : Closed bytes commands = (found.commands, found.mode, found.rest, found.split, refl) in (
      meaning_of (with_exit commands),
      (commands, closed, refl),
      λ other is. is.2 ∙ ap (λ (these : List Token). meaning_of (with_exit these)) (closed_once Exit bytes is.0 commands is.1 closed),
    )

pub each_has_one_meaning : EachHasOneMeaning
each_has_one_meaning = record { so_far = one_so_far; at_end = one_at_end }

-- a stream that was printed to its end
pub printed-means : (bytes : List ℕ) (new : Option Machine) (tag : ℕ) (before after : SinkLog)
    → HandsOut Complete (Prints bytes Complete new) (under tag before after) → TellsMeaning bytes new (under tag before after)
printed-means bytes new tag before after prints =
    let meaning = meaning_of (with_exit prints.is.commands) in
    record {
      meaning = meaning;
      is = (prints.is.commands, prints.is.closed, refl);
      machine = prints.is.left refl;
      told = Took-went tag meaning.outputs prints.went Complete before after prints.is.goes prints.took;
    }

-- what was read of a reader that tells its bytes, to its end, is all of them
pub read_all : (bytes : List ℕ) (left : Option (List ℕ)) (read : List ℕ) → Reads (Some bytes) left None read → read ≡ bytes
read_all bytes None read reads = absurd reads.lost
read_all bytes (Some rest) read reads = sym (reads.lost ∙ ap (λ last. read ++ last) (reads.at_end refl) ∙ append-nil read)

-- one that such a reader had behind these bytes
pub reader-means : (front read : List ℕ) (left : Option (List ℕ)) (new : Option Machine) (tag : ℕ) (before after : SinkLog)
    → HandsOut Complete (Printed front (Some read) left None new) (under tag before after) → TellsMeaning (front ++ read) new (under tag before after)
reader-means front read left new tag before after prints =
    printed-means (front ++ read) new tag before after (record {
      went = prints.went;
      is = subst (λ (these : List ℕ). Prints (front ++ these) Complete new prints.went) (read_all read left prints.is.bytes prints.is.read) prints.is.printed;
      took = prints.took;
    })
