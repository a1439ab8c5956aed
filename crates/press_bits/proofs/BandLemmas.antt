-- Pages in bands: bands that are made are white, and a row that is painted into one is its mark.
use Rattle.std.proofs.Common.{◌≡◌, ℕ, ◌+◌, ◌-◌, ◌*◌, ◌/◌, ◌%◌, ◌<◌, ◌≤◌, ◌⊎◌, min, max, Bool, true}
use Rattle.std.proofs.Common.{false, ◌&&◌, suc, List, [], ◌∷◌, length, map, replicate, take, drop, get_or}
use Rattle.std.proofs.Common.{set, Result, OnOk, refl, sym, ap, ◌∙◌, subst, inl, inr, arith}
use Rattle.std.specs.Prelude.{nat_lt, nat_le, ℤ, pos, ◌+ℤ◌, int_le, int_lt}
use Rattle.std.specs.declared.alloc.AllocError.{AllocError}
use Rattle.std.proofs.Math.ListN.{get_or-map}
use Rattle.std.proofs.lemmas.Bool.{cases_eq}
use Rattle.std.proofs.lemmas.Bool.Decides.{nat_tests}
use Rattle.std.proofs.lemmas.List.{length-replicate, length-take, length-drop, take-take, drop-take, take-replicate, drop-replicate, length-set, get_or-set_same, get_or-set_other, get_or_past}
use Rattle.press_bits.specs.Page.{HasNoDotOutside, black_at, black_in_line, blank, is_page_size}
use Rattle.press_bits.specs.DotRule.{dot_after}
use Rattle.press_bits.specs.Mark.{IsWhite, Mark, Row, effect_at, painted, row_dot, repeated, row_mark}
use Rattle.press_bits.specs.declared.mode.Mode.{Mode}
use Rattle.press_bits.specs.DotRows.{mixed_dot}
use Rattle.press_bits.specs.Lines.{bytes_per_line, ArePageLines, IsPageLine}
use Rattle.std.specs.List.{count_by, range_with_len}
use Rattle.std.proofs.lemmas.Int.{ints}
use Rattle.std.proofs.Math.Nat.{zero-add, mul-le-mul_right}
use Rattle.press_bits.proofs.CountLemmas.{count_padded, count-line}
use Rattle.press_bits.proofs.PageLemmas.{blank_is, width-page_where, height-page_where, page_where-HasNoDotOutside, black_at-page_where, page_where_alike}
use Rattle.press_bits.proofs.DotRowsLemmas.{row_dot-replicate_zero}
use Rattle.press_bits.proofs.MarkLemmas.{painted_by_effects, row_lands, row_off_line, white_stays}
use Rattle.press_bits.proofs.MixLemmas.{line_before}
use Rattle.press_bits.proofs.LineLemmas.{row_dot-slice, row_dot-past}
use Rattle.press_bits.proofs.PaintLemmas.{position}
use Rattle.press_bits.specs.Bands.{BandedPage, banded, is_ready, AreReady, is_there, band_at, line_dot, page_of_bands, HasBands, MakesBands}

pub width-page_of_bands : (w h : ℕ) (bands : List (List ℕ)) → (page_of_bands w h bands).width ≡ w
unfolding page_of_bands
width-page_of_bands w h bands = width-page_where w h (line_dot (bytes_per_line w) bands)

pub height-page_of_bands : (w h : ℕ) (bands : List (List ℕ)) → (page_of_bands w h bands).height ≡ h
unfolding page_of_bands
height-page_of_bands w h bands = height-page_where w h (line_dot (bytes_per_line w) bands)

pub no_dot_outside : (w h : ℕ) (bands : List (List ℕ)) → HasNoDotOutside (page_of_bands w h bands)
unfolding page_of_bands
no_dot_outside w h bands = page_where-HasNoDotOutside w h (line_dot (bytes_per_line w) bands)

pub black_at-page_of_bands : (w h : ℕ) (bands : List (List ℕ)) (x y : ℕ) → x < w → y < h → black_at (page_of_bands w h bands) x y ≡ line_dot (bytes_per_line w) bands x y
unfolding page_of_bands
black_at-page_of_bands w h bands x y = black_at-page_where w h (line_dot (bytes_per_line w) bands) x y

-- ---- bands that are made

pub row_dot-nothing : (p : ℕ) → row_dot [] p ≡ false
row_dot-nothing p = row_dot-replicate_zero 0 p

pub made_page : (w h : ℕ) (old new : List (List ℕ)) (first end count : ℕ) (result : Result (Unit {0}) AllocError)
    → MakesBands old new first end count result → page_of_bands w h new ≡ page_of_bands w h old
unfolding page_of_bands
made_page w h old new first end count result makes =
    page_where_alike w h (line_dot (bytes_per_line w) new) (line_dot (bytes_per_line w) old)
    (λ x y _ _. grind (arith, row_dot-replicate_zero, row_dot-nothing))

pub made_bands : (w h : ℕ) (old new : List (List ℕ)) (first end count : ℕ) (result : Result (Unit {0}) AllocError)
    → count ≡ 64 * bytes_per_line w → length new ≤ (h + 63) / 64 → HasBands w h old → MakesBands old new first end count result
    → HasBands w h new
made_bands w h old new first end count result size room has makes = record {
  some_width = has.some_width;
  most_width = has.most_width;
  some_height = has.some_height;
  most_height = has.most_height;
  most_bands = room;
  whole = λ k. grind (arith, makes.each k, has.whole k, length-replicate {A = ℕ} count 0);
  padding = λ y x inside right within. grind (arith, row_dot-replicate_zero, row_dot-nothing) ∙ has.padding y x inside right within;
}

-- the flag of a band
pub ready_of : (bands : List (List ℕ)) (k : ℕ) → get_or (map is_there bands) k false ≡ is_there (band_at bands k)
ready_of bands k = get_or-map is_there bands k []

-- a band that is there is one of the bands
pub there_within : (bands : List (List ℕ)) (k : ℕ) → is_there (band_at bands k) ≡ true → k < length bands
there_within bands k there = grind (arith, get_or_past)

-- a band that is there has bytes for all its lines
pub there_long : (w h : ℕ) (bands : List (List ℕ)) (k : ℕ) → HasBands w h bands → is_there (band_at bands k) ≡ true → length (band_at bands k) ≡ 64 * bytes_per_line w
there_long w h bands k has there = grind arith

pub in_band : (w b left count dots skip m : ℕ) → b ≡ bytes_per_line w → m < 64 → count ≡ min (dots - skip) (w - left) → 0 < count → 8 * (m * b) + left + count ≤ 8 * (64 * b)
in_band w b left count dots skip m is low clipped some = grind arith

-- a run that lies in a line of its page lies in the bytes of a band, whichever of its lines it is
pub in_bytes : (w b left count dots skip m size : ℕ) → b ≡ bytes_per_line w → size ≡ 64 * bytes_per_line w → m < 64
    → count ≡ min (dots - skip) (w - left) → 0 < count → 8 * (m * b) + left + count ≤ 8 * size
in_bytes w b left count dots skip m size is long low clipped some = omega (arith, in_band w b left count dots skip m is low clipped some, is, long)

-- ---- a row that is painted into a band

-- bands whose dots have the effects of a mark are those of the painted page
painted_bands : (w h : ℕ) (bands new : List (List ℕ)) (mark : Mark)
    → ((column n : ℕ) → column < w → n < h → line_dot (bytes_per_line w) new column n ≡ dot_after (effect_at mark column n) (line_dot (bytes_per_line w) bands column n))
    → page_of_bands w h new ≡ painted (page_of_bands w h bands) mark
painted_bands w h bands new mark dots =
    painted_by_effects (page_of_bands w h bands) (page_of_bands w h new) mark (no_dot_outside w h new) (grind (arith, width-page_of_bands)) (grind (arith, height-page_of_bands))
    (λ column n wide high. grind (arith, width-page_of_bands, height-page_of_bands, black_at-page_of_bands, dots column n))

module _ (w h : ℕ) (bands : List (List ℕ)) (band : List ℕ) (x y : ℤ) (source pattern : Row) (mode : Mode) where
  pub painted_band : (left skip count m : ℕ) →
      pos left ≡ x +ℤ pos skip → (left ≡ 0) ⊎ (skip ≡ 0) → pos m ≡ y → count ≡ min (source.dots - skip) (w - left) → 0 < count → m / 64 < length bands →
      ((p : ℕ) → row_dot band p
      ≡ mixed_dot (nat_le (8 * (m % 64 * bytes_per_line w) + left) p && nat_lt p (8 * (m % 64 * bytes_per_line w) + left + count)) mode
      (row_dot source.bits (skip + (p - (8 * (m % 64 * bytes_per_line w) + left)))) (repeated pattern (p - 8 * (m % 64 * bytes_per_line w))) (row_dot (band_at bands (m / 64)) p)) →
      page_of_bands w h (set bands (m / 64) band) ≡ painted (page_of_bands w h bands) (row_mark x y source pattern mode)
  painted_band left skip count m place first at_line clipped some there laid =
      painted_bands w h bands (set bands (m / 64) band) (row_mark x y source pattern mode) (λ column n wide high.
      elim (cases_eq (n / 64) (m / 64)) [
        | inl here ↦
            grind (
              arith,
              nat_tests,
              get_or-set_same bands (m / 64) band [] there,
              laid (8 * (n % 64 * bytes_per_line w) + column),
              position (bytes_per_line w) (m % 64) (n % 64) left column count (omega arith) (grind arith),
              row_lands x y source pattern mode left skip count m w column n place first at_line clipped wide,
            )
        | inr apart ↦ grind (arith, get_or-set_other, row_off_line, at_line)
      ])

pub after_ok : {X : Type 0} {P Q : Type 0} (result : Result X AllocError) → (P → Q) → OnOk result P → OnOk result Q
after_ok result step p = grind arith

-- the flags of bands of the same lengths
pub same_flags : (old new : List (List ℕ)) → length new ≡ length old → ((k : ℕ) → length (band_at new k) ≡ length (band_at old k)) → map is_there new ≡ map is_there old
same_flags [] [] long sizes = refl
same_flags [] (b ∷ bs) long sizes = absurd (omega arith)
same_flags (a ∷ others) [] long sizes = absurd (omega arith)
same_flags (a ∷ others) (b ∷ bs) long sizes = (λ i. nat_lt 0 (sizes 0 i) ∷ same_flags others bs (omega arith) (λ k. sizes (suc k)) i)

-- where a band is put in the place of one as long
pub put_flags : (k : ℕ) (bands : List (List ℕ)) (band : List ℕ) → k < length bands → length band ≡ length (band_at bands k) → map is_there (set bands k band) ≡ map is_there bands
put_flags k bands band within long = grind (arith, same_flags, length-set, get_or-set_same, get_or-set_other)

-- a line's band is there, where the line is ready
pub band_ready : (w h : ℕ) (bands : List (List ℕ)) (value : BandedPage) (line : ℕ) → banded w h bands ≡ value → is_ready value line → is_there (band_at bands (line / 64)) ≡ true
band_ready w h bands value line is ready = sym (ready_of bands (line / 64)) ∙ subst (λ (b : BandedPage). is_ready b line) (sym is) ready

-- a line of the page that is ready alone
pub at_line : (y : ℤ) (n : ℕ) → pos n ≡ y → (int_le y (pos n) ≡ true) × (int_lt (pos n) (y +ℤ pos 1) ≡ true)
at_line y n here = grind arith

-- the lines of a run are those of the page among so many from y on
pub in_run : (y : ℤ) (first skip lines count h n : ℕ) → pos first ≡ y +ℤ pos skip → (first ≡ 0) ⊎ (skip ≡ 0) → count ≡ min (lines - skip) (h - first) →
    int_le y (pos n) ≡ true → int_lt (pos n) (y +ℤ pos lines) ≡ true → n < h → (first ≤ n) × (n < first + count)
in_run y first skip lines count h n place ends clipped from before high = grind arith

-- a line of a run is one of so many from y on
pub of_run : (y : ℤ) (first skip lines count h n : ℕ) → pos first ≡ y +ℤ pos skip → count ≡ min (lines - skip) (h - first) → first ≤ n → n < first + count →
    (int_le y (pos n) ≡ true) × (int_lt (pos n) (y +ℤ pos lines) ≡ true)
of_run y first skip lines count h n place clipped from before = grind arith

-- a line of the run in band k
abbrev pub line_of : (k first : ℕ) → ℕ
line_of k first = max (64 * k) first

-- it lies in the run, and in the band
pub line_inside : (k first count : ℕ) → 0 < count → first / 64 ≤ k → 64 * k < first + count → (first ≤ line_of k first) × (line_of k first < first + count) × (line_of k first / 64 ≡ k)
line_inside k first count some from before = grind arith

module _ (w h : ℕ) (bands : List (List ℕ)) (band : List ℕ) (mode : Mode) (source pattern : ℕ → Bool) where
  pub painted_has : (left count m : ℕ) → HasBands w h bands → m / 64 < length bands → length band ≡ length (band_at bands (m / 64)) → is_there (band_at bands (m / 64)) ≡ true → left + count ≤ w →
      ((p : ℕ) → row_dot band p
      ≡ mixed_dot (nat_le (8 * (m % 64 * bytes_per_line w) + left) p && nat_lt p (8 * (m % 64 * bytes_per_line w) + left + count)) mode (source p) (pattern p) (row_dot (band_at bands (m / 64)) p)) →
      HasBands w h (set bands (m / 64) band)
  painted_has left count m has there long some fits laid = record {
    some_width = has.some_width;
    most_width = has.most_width;
    some_height = has.some_height;
    most_height = has.most_height;
    most_bands = omega (arith, length-set bands (m / 64) band, has.most_bands);
    whole = λ k. grind (arith, get_or-set_same, get_or-set_other, has.whole k, there_long w h bands (m / 64) has some);
    padding = λ n q inside right within.
        grind (
          arith,
          nat_tests,
          get_or-set_same,
          get_or-set_other,
          laid (8 * (n % 64 * bytes_per_line w) + q),
          position (bytes_per_line w) (m % 64) (n % 64) left q count within (omega (arith, fits)),
          has.padding n q inside right within,
        );
  }

-- ---- lines

pub band_line : (w h y : ℕ) (bands : List (List ℕ)) (bytes : List ℕ) → HasBands w h bands → y < h → length bytes ≡ bytes_per_line w
    → ((x : ℕ) → x < 8 * bytes_per_line w → row_dot bytes x ≡ line_dot (bytes_per_line w) bands x y)
    → IsPageLine (page_of_bands w h bands) y bytes
band_line w h y bands bytes has inside long same = record {
  long = grind (arith, width-page_of_bands);
  dots = λ x left. grind (arith, width-page_of_bands, black_at-page_of_bands, same x);
  padding = λ x right. grind (arith, width-page_of_bands, same x, has.padding y x inside, row_dot-past bytes x);
}

-- a line of a band that is there
pub line_there : (w h y b : ℕ) (bands : List (List ℕ)) (band bytes : List ℕ) → b ≡ bytes_per_line w → band ≡ band_at bands (y / 64)
    → length band ≡ 64 * b → HasBands w h bands → y < h → bytes ≡ take b (drop (y % 64 * b) band)
    → IsPageLine (page_of_bands w h bands) y bytes
line_there w h y b bands band bytes size here whole has inside is =
    let room : y % 64 * b + b ≤ length band = omega (arith, whole, line_before b (y % 64) 64 (omega arith)) in
    band_line w h y bands bytes has inside
    (grind (arith, length-take b (drop (y % 64 * b) band), length-drop (y % 64 * b) band, room)) (λ x within. grind (arith, row_dot-slice band (y % 64 * b) b x))

-- a line of a band that is not there
pub line_missing : (w h y b : ℕ) (bands : List (List ℕ)) (band bytes : List ℕ) → b ≡ bytes_per_line w → band ≡ band_at bands (y / 64)
    → is_there band ≡ false → HasBands w h bands → y < h → bytes ≡ replicate b 0 → IsPageLine (page_of_bands w h bands) y bytes
line_missing w h y b bands band bytes size here gone has inside is =
    band_line w h y bands bytes has inside (grind (arith, length-replicate))
    (λ x within. grind (arith, nat_tests, row_dot-replicate_zero, row_dot-past band (8 * (y % 64 * bytes_per_line w) + x)))

-- the lines of a band that is there
pub band_there : (w h k b count : ℕ) (bands : List (List ℕ)) (band bytes : List ℕ) → b ≡ bytes_per_line w → band ≡ band_at bands k
    → length band ≡ 64 * b → HasBands w h bands → count ≡ min 64 (h - 64 * k) →
    bytes ≡ take (count * b) band → ArePageLines (page_of_bands w h bands) (64 * k) count bytes
band_there w h k b count bands band bytes size here whole has left is = record {
  long = grind (arith, width-page_of_bands, length-take (count * b) band, mul-le-mul_right {m = count} {n = 64} b (omega arith));
  lines = λ n low.
      line_there w h (64 * k + n) b bands band _ size (grind arith) whole has (omega arith)
      (grind (
        arith,
        width-page_of_bands,
        line_before b n count low,
        drop-take (n * b) (count * b - n * b) band,
        take-take b (count * b - n * b) (drop (n * b) band),
      ));
}

-- the lines of a band that is not there
pub band_missing : (w h k b count : ℕ) (bands : List (List ℕ)) (band bytes : List ℕ) → b ≡ bytes_per_line w → band ≡ band_at bands k
    → is_there band ≡ false → HasBands w h bands → count ≡ min 64 (h - 64 * k) →
    bytes ≡ replicate (count * b) 0 → ArePageLines (page_of_bands w h bands) (64 * k) count bytes
band_missing w h k b count bands band bytes size here gone has left is = record {
  long = grind (arith, width-page_of_bands, length-replicate);
  lines = λ n low.
      line_missing w h (64 * k + n) b bands band _ size (grind arith) gone has (omega arith)
      (grind (arith, width-page_of_bands, line_before b n count low, drop-replicate, take-replicate));
}

-- no dot of a line is black that has no mark
pub unmarked_line : (w h y : ℕ) (bands : List (List ℕ)) (band : List ℕ) → band ≡ band_at bands (y / 64) → HasBands w h bands → y < h →
    ((p : ℕ) → 8 * (y % 64 * bytes_per_line w) ≤ p → p < 8 * (y % 64 * bytes_per_line w + bytes_per_line w) → row_dot band p ≡ false) →
    0 ≡ black_in_line (page_of_bands w h bands) y
unmarked_line w h y bands band here has inside white =
    let zeros : List ℕ = replicate (bytes_per_line w) 0 in
    sym (ap (λ n. count_by (row_dot zeros) (range_with_len 0 n)) (sym (zero-add (8 * length zeros)))
    ∙ count_padded (row_dot zeros) 0 (8 * length zeros) (λ x _. row_dot-replicate_zero (bytes_per_line w) x))
    ∙ count-line (page_of_bands w h bands) y zeros
    (band_line w h y bands zeros has inside (length-replicate {A = ℕ} (bytes_per_line w) 0)
    (λ x within. grind (arith, row_dot-replicate_zero, white (8 * (y % 64 * bytes_per_line w) + x))))

-- no dot of a line is black whose band is not there
pub none_black : (w h y : ℕ) (bands : List (List ℕ)) (band : List ℕ) → band ≡ band_at bands (y / 64) → is_there band ≡ false
    → HasBands w h bands → y < h → 0 ≡ black_in_line (page_of_bands w h bands) y
none_black w h y bands band here gone has inside = grind (arith, unmarked_line, row_dot-past)

pub white_bands : (w h : ℕ) (bands : List (List ℕ)) → bands ≡ [] → page_of_bands w h bands ≡ blank w h
unfolding page_of_bands
white_bands w h bands none =
    page_where_alike w h (line_dot (bytes_per_line w) bands) (λ _ _. false)
    (λ x y _ _. grind (arith, row_dot-nothing))
    ∙ sym (blank_is w h)

pub blank_has : (w h : ℕ) (bands : List (List ℕ)) → is_page_size w h ≡ true → bands ≡ [] → HasBands w h bands
blank_has w h bands size none = grind (arith, row_dot-nothing)

-- lines among those that are ready, of a page of the same lines
pub ready_within : (old now : BandedPage) (y y' : ℤ) (lines lines' : ℕ) → now.ready ≡ old.ready → now.page.height ≡ old.page.height →
    int_le y y' ≡ true → int_le (y' +ℤ pos lines') (y +ℤ pos lines) ≡ true → AreReady old y lines → AreReady now y' lines'
ready_within old now y y' lines lines' same high from end ready n begun left inside =
    grind (arith, ints, ready n)

-- where the band of a line is not there, a row through white leaves the page as it was
pub stays_white : (w h : ℕ) (bands : List (List ℕ)) (x y : ℤ) (source pattern : Row) (mode : Mode) (m : ℕ) → pos m ≡ y → is_there (band_at bands (m / 64)) ≡ false → IsWhite pattern →
    page_of_bands w h bands ≡ painted (page_of_bands w h bands) (row_mark x y source pattern mode)
stays_white w h bands x y source pattern mode m at_line gone white =
    painted_bands w h bands bands (row_mark x y source pattern mode) (λ column n wide high.
    elim (cases_eq n m) [
      | inl here ↦ grind (arith, nat_tests, white_stays, row_dot-past (band_at bands (n / 64)) (8 * (n % 64 * bytes_per_line w) + column))
      | inr apart ↦ grind (arith, row_off_line)
    ])
