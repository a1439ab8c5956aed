use Rattle.std.proofs.Common.{◌≡◌, ◌∙◌, ℕ, ◌+◌, List, [], ◌∷◌, ◌++◌, sym, ap, subst, arith}
use Rattle.std.specs.List.{All}
use Rattle.std.proofs.lemmas.List.{length-map, map_push}
use Rattle.std.proofs.lemmas.List.Elements.{All-append, All-cons, All-nil}
use Rattle.press_sink.specs.Template.{side_count}
use Rattle.press_files.specs.declared.entry_sheets.EntryCount.{EntryCount}
use Rattle.press_files.specs.declared.entry_sheets.EntrySheet.{EntrySheet}
use Rattle.press_files.specs.EntryKept.{ArePlaced, entries_of, entry_deliveries_of, numbers_of}
use Rattle.press_files.specs.Listed.{delivery_of}
use Rattle.press_files.specs.Numbering.{occurrences_of, numbers_after, sides_of}
use Rattle.press_files.proofs.NumberingLemmas.{counts-push, numbered-push, occurrences_of-other, occurrences_of-same, occurrences_of-within, placed-push, pushed}
use Rattle.press_files.proofs.NumberingLemmas.{side_count-small, sides_of-other, sides_of-same, sides_of-within}
use Rattle.press_files.proofs.entry_sheets.EntrySheets.put.Goals as goal

pub overflow_add-count : goal.overflow_add-count
overflow_add-count c = grind (arith, occurrences_of-within, length-map)

pub overflow_add-count-2 : goal.overflow_add-count-2
overflow_add-count-2 c = grind (arith, sides_of-within, length-map, side_count-small)

pub overflow_add-before : goal.overflow_add-before
overflow_add-before c = grind (arith, sides_of-within, length-map)

pub invariant_of-self : goal.invariant_of-self
invariant_of-self c =
    let old = c.args.self.now in
    let kept = old.sheets in
    let tag = c.args.sheet.tag in
    let count : EntryCount = record { sheets = c.count-before.result.sheets + 1; sides = c.count-before.result.sides + c.sides.result } in
    let one : EntrySheet = record { number = c.count-before.result.sheets + 1; side = c.count-before.result.sides + 1; sheet = c.args.sheet } in
    let all : c.push.new.self.items ≡ kept.items ++ one ∷ [] =
    pushed c.push.result kept.items c.push.new.self.items one c.push.ensures.items (c.push.ensures.succeeds c.requires.room.0) in
    let next : one.number ≡ occurrences_of tag (entries_of kept.items) + 1 = ap (λ (n : ℕ). n + 1) c.count-before.ensures.sheets in
    let side : one.side ≡ sides_of tag (entry_deliveries_of kept.items) + 1 = ap (λ (n : ℕ). n + 1) c.count-before.ensures.sides in
    let Numbered : List EntrySheet → Type 0 = λ sheets. numbers_of sheets ≡ numbers_after [] (entries_of sheets) in
    let Summed : EntrySheet → Type 0 = λ each. each.sheet.sums ≡ old.sums in
    let entries : entries_of c.push.new.self.items ≡ entries_of kept.items ++ tag ∷ [] =
    ap entries_of all ∙ map_push (λ (each : EntrySheet). each.sheet.tag) kept.items one in
    let deliveries : entry_deliveries_of c.push.new.self.items ≡ entry_deliveries_of kept.items ++ delivery_of c.args.sheet ∷ [] =
    ap entry_deliveries_of all ∙ map_push (λ (each : EntrySheet). delivery_of each.sheet) kept.items one in
    let sides : count.sides ≡ sides_of tag (entry_deliveries_of kept.items) + side_count c.args.sheet.sheet.value =
    omega (arith, c.count-before.ensures.sides, c.sides.ensures) in
    record {
      numbered = subst Numbered (sym all) (numbered-push kept.items one old.numbered next);
      placed = subst ArePlaced (sym all) (placed-push kept.items one old.placed next side);
      counted =
          counts-push (λ (n : EntryCount). n.sheets) (λ (e : ℕ). occurrences_of e (entries_of kept.items)) (λ (e : ℕ). occurrences_of e (entries_of c.push.new.self.items))
          old.counts.entries c.insert.new.self.entries tag count old.counted c.in-Ok.ensures.updates.0
          (next ∙ sym (ap (occurrences_of tag) entries ∙ occurrences_of-same tag (entries_of kept.items)))
          (λ e other. ap (occurrences_of e) entries ∙ occurrences_of-other e tag (entries_of kept.items) other);
      sided =
          counts-push (λ (n : EntryCount). n.sides) (λ (e : ℕ). sides_of e (entry_deliveries_of kept.items)) (λ (e : ℕ). sides_of e (entry_deliveries_of c.push.new.self.items))
          old.counts.entries c.insert.new.self.entries tag count old.sided c.in-Ok.ensures.updates.0
          (sides ∙ sym (ap (sides_of tag) deliveries ∙ sides_of-same (entry_deliveries_of kept.items) (delivery_of c.args.sheet)))
          (λ e other. ap (sides_of e) deliveries ∙ sides_of-other e (entry_deliveries_of kept.items) (delivery_of c.args.sheet) other);
      summed =
          subst (All Summed) (sym all)
          (All-append Summed kept.items (one ∷ []) old.summed (All-cons Summed one [] c.requires.sums (All-nil Summed)));
    }
