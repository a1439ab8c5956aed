use Rattle.std.proofs.Common.{◌≡◌, ℕ, ◌+◌, ◌-◌, ◌≤◌, List, ◌++◌, arith, length, take, slice_range, sym, ap, ◌∙◌, subst, le_refl, drop_at, length-take-le}
use Rattle.std.proofs.lemmas.Slice.{take-put_mid_below}
use Rattle.std.specs.Io.KnownBytes.{Consumes}
use Rattle.std.proofs.KnownBytes.{Consumes-trans}
use borrow.Rule.Slice.PartMut.{put_mid, post_of, same_len_mid}
use lib.Seq.{take-add, take-append-le}
use Rattle.press_pbm.proofs.ReadingLemmas.{or_both}
use Rattle.press_pbm.proofs.reading.fill.Goals as goal

take_split : (a b : ℕ) (old new : List ℕ) → a ≤ b → take a new ≡ take a old → take a old ++ slice_range new a b ≡ take b new
take_split a b old new h prefix =
    let same : a + (b - a) ≡ b = omega arith in
    ap (λ l. l ++ slice_range new a b) (sym prefix) ∙ sym (take-add a (b - a) new) ∙ ap (λ n. take n new) same

slice_range-put_mid : (a k n : ℕ) (xs ys : List ℕ) → a ≤ length xs → n ≤ length ys → slice_range (put_mid a k xs ys) a (a + n) ≡ take n ys
slice_range-put_mid a k n xs ys within fits =
    let same : (a + n) - a ≡ n = omega arith in
    let after = post_of a k xs in
    ap (take ((a + n) - a)) (drop_at (take a xs) (ys ++ after) a (length-take-le a xs within)) ∙ ap (λ m. take m (ys ++ after)) same ∙ take-append-le n ys after fits

pub loop-filled-preserved : goal.loop-filled-preserved
loop-filled-preserved g c =
    let from = c.loop-filled.filled in
    let held = c.loop-filled.invariant in
    let old = c.loop-filled.buffer in
    let piece = c.read_next.new.piece in
    let room = length old - from in
    let kept = same_len_mid from room old piece c.read_next.auto.piece in
    let below = take-put_mid_below from room old piece from (le_refl _) held.within in
    let (fits, given, ends) = c.in-Ok.ensures.piece in
    let part = slice_range-put_mid from room c.in-Ok.length old piece held.within fits in
    let joined = take_split from (from + c.in-Ok.length) old (put_mid from room old piece) (omega arith) below in
    let whole = ap (λ l. take from old ++ l) (sym part) ∙ joined in
    record {
      long = kept ∙ held.long;
      within = omega (arith, kept);
      given = subst (Consumes _ _) whole (Consumes-trans _ _ _ _ _ held.given given);
      stays = λ was. c.read_next.ensures.stays (held.stays was);
      few = or_both c.read_next.ensures.stays held.few c.read_next.ensures.few (λ before one. omega arith);
    }
