use Rattle.std.proofs.Common.{◌≡◌, ◌∙◌, [], ℕ, List, Bor, map, sym, subst}
use Rattle.std.specs.List.{flat_map}
use Rattle.std.proofs.lemmas.List.{take_all}
use Rattle.press_words.specs.Defaults.{default_line}
use Rattle.press_words.proofs.DefaultsLemmas.{default_lines-more, prefix_of-some}
use Rattle.press_memory.proofs.settings.prefix_of.Goals as goal

pub loop-word-init : goal.loop-word-init
loop-word-init c = c.new-prefix.ensures.items

pub loop-word-preserved : goal.loop-word-preserved
loop-word-preserved c =
    default_lines-more c.args.words.now c.loop-word.word-index (record { ref_ptr = (0, 0); now = [] }) c.loop-word.prefix.items
    c.append_default.new.prefix.items c.loop-word-test.true c.loop-word.invariant
    c.in_ok-append_default.ensures

pub returns : goal.returns
returns c =
    let all =
    subst (λ (words : List (Bor (List ℕ))). c.loop-word.prefix.items ≡ flat_map default_line (map (λ word. word.now) words))
    (take_all c.loop-word.word-index c.args.words.now c.loop-word-test.false) c.loop-word.invariant in
    prefix_of-some c.args.words.now c.loop-word.prefix.items c.extend_from_slice.new.self.items (sym c.is_empty.ensures ∙ c.if-is_empty.false) all c.in_ok-extend_from_slice.ensures.items
