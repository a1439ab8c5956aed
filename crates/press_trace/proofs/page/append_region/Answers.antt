use Rattle.std.proofs.Common.{rules, ◌≡◌, ◌∙◌, ◌++◌, ◌*◌, ◌-◌, List, ℕ, false, true, min, Some, codes, ap}
use Rattle.serde_json.specs.Data.{number, unsigned, array}
use Rattle.serde_json.specs.View.{items_of}
use Rattle.press_bits.specs.Page.{Page}
use Rattle.press_bits.specs.declared.region.Region.{Region}
use Rattle.press_trace.specs.Pages.{patch_slots, rows_of}
use Rattle.press_trace.specs.Slots.{member_text, texts_of}
use Rattle.press_trace.proofs.TextLemmas.{all_five_ended}
use Rattle.press_trace.proofs.page.append_region.Goals as goal

pub returns : goal.returns
returns c =
    let page : Page = c.args.page.now in
    let region : Region = c.args.region in
    let lines : c.from.result ≡ region.bottom - region.top = search rules in
    let dots : c.min-right.result - 8 * region.left ≡ min (8 * region.right) page.width - 8 * region.left = search rules in
    let top : c.from-2.result ≡ region.top = search rules in
    let height : List ℕ = member_text false (codes "height") (Some (number (unsigned (region.bottom - region.top)))) in
    let rows : List ℕ = member_text true (codes "rows") (Some (array (items_of (rows_of page region)))) in
    let width : List ℕ = member_text true (codes "width") (Some (number (unsigned (min (8 * region.right) page.width - 8 * region.left)))) in
    let x : List ℕ = member_text true (codes "x") (Some (number (unsigned (8 * region.left)))) in
    let y : List ℕ = member_text true (codes "y") (Some (number (unsigned region.top))) in
    let all : c.append_number_member-4.new.text.items ≡ c.args.text.now.items ++ texts_of false (patch_slots page region) =
    all_five_ended c.args.text.now.items _ _ _ _ _ height rows width x y
    (c.in_ok-append_number_member.ensures ∙ ap (λ n. c.args.text.now.items ++ member_text false (codes "height") (Some (number (unsigned n)))) lines)
    c.in_ok-append_rows_member.ensures
    (c.in_ok-append_number_member-2.ensures ∙ ap (λ n. c.append_rows_member.new.text.items ++ member_text true (codes "width") (Some (number (unsigned n)))) dots)
    c.in_ok-append_number_member-3.ensures
    (c.in_ok-append_number_member-4.ensures ∙ ap (λ n. c.append_number_member-3.new.text.items ++ member_text true (codes "y") (Some (number (unsigned n)))) top) in
    all
