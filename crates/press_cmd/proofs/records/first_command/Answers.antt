use Rattle.std.proofs.Common.{◌==◌, ◌∙◌, Some, length, slice_get, sym, ap}
use Rattle.press_cmd.proofs.RecordLemmas.{first-record, used-up}
use Rattle.press_cmd.proofs.records.first_command.Goals as goal

pub returns-then-is_empty : goal.returns-then-is_empty
returns-then-is_empty c records =
    let none = sym (ap (λ bytes. length bytes == 0) records.spelled) ∙ sym c.is_empty.ensures ∙ c.if-is_empty.true in
    sym (ap (λ list. slice_get list 0) ((used-up records.commands).0 none))

pub slice_bounds-stored-count : goal.slice_bounds-stored-count
slice_bounds-stored-count c = (first-record _ c.requires.records _ c.is_empty.ensures c.if-is_empty.false _ (c.requires.count c.requires.records)).head

pub slice_bounds-stored-start : goal.slice_bounds-stored-start
slice_bounds-stored-start c = (first-record _ c.requires.records _ c.is_empty.ensures c.if-is_empty.false _ (c.requires.count c.requires.records)).head

pub slice_bounds-stored-end : goal.slice_bounds-stored-end
slice_bounds-stored-end c = (first-record _ c.requires.records _ c.is_empty.ensures c.if-is_empty.false _ (c.requires.count c.requires.records)).within

pub stored-requires-clause-bytes : goal.stored-requires-clause-bytes
stored-requires-clause-bytes c = (first-record _ c.requires.records _ c.is_empty.ensures c.if-is_empty.false _ (c.requires.count c.requires.records)).stored

pub stored-requires-clause-sound : goal.stored-requires-clause-sound
stored-requires-clause-sound c = (first-record _ c.requires.records _ c.is_empty.ensures c.if-is_empty.false _ (c.requires.count c.requires.records)).sound

pub returns : goal.returns
returns c records = ap Some c.stored.ensures ∙ (first-record _ records _ c.is_empty.ensures c.if-is_empty.false _ (c.requires.count records)).given
