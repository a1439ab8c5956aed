-- A header is read byte by byte: where a reader stands behind bytes, and which bytes complete a header there.
use Rattle.std.proofs.Common.{◌≡◌, ℕ, ◌+◌, ◌-◌, ◌*◌, ◌<◌, ◌≤◌, min, Bool, true, false, List, [], ◌∷◌, ◌++◌, length, Option}
use Rattle.std.proofs.Common.{eqb, None, Some, refl, sym, ap, ◌∙◌, arith, subst, inl, inr, ◌⊎◌, append_assoc, length-append}
use Rattle.std.specs.Prelude.{option_and_then, if◌then◌else◌}
use Rattle.std.specs.List.{AllByRecursion, fold}
use Rattle.std.specs.Char.{is_ascii_digit}
use Rattle.std.proofs.lemmas.Grind.{common_steps}
use Rattle.std.proofs.lemmas.Bool.{eqb-true}
use Rattle.press_units.specs.Value.{number_of}
use Rattle.press_pbm.specs.Header.{is_white_space, is_line_end, Piece, White, Comment, IsPiece, piece_bytes}
use Rattle.press_pbm.specs.Header.{gap_bytes, IsGap, IsNumber, HeaderParts, header_spelling, AreHeaderParts}
use Rattle.press_pbm.specs.Header.{width_of, height_of, IsHeader, BeginsHeader, IsHeaderPrefix}
use Rattle.press_pbm.specs.Reading.{past_longest, with_digit, place_in_gap, place_after, least_behind}
use Rattle.press_pbm.specs.declared.place.Side.{Side}
use Rattle.press_pbm.specs.declared.place.Side.TheVariants.{Width, Height}
use Rattle.press_pbm.specs.declared.place.Place.{Place}
use Rattle.press_pbm.specs.declared.place.Place.TheVariants as at

-- the place behind some bytes, if a header may have them there
abbrev pub run : Place → List ℕ → Option Place
run place [] = Some place
run place (byte ∷ bytes) = option_and_then (λ next. run next bytes) (place_after place byte)

pub run-append : (place : Place) (bytes others : List ℕ) → run place (bytes ++ others) ≡ option_and_then (λ next. run next others) (run place bytes)
run-append place [] others = refl
run-append place (byte ∷ bytes) others =
    elim (place_after place byte) as
    (λ after.
    option_and_then (λ next. run next (bytes ++ others)) after
    ≡ option_and_then (λ next. run next others) (option_and_then (λ next. run next bytes) after)) [
      | None ↦ refl
      | Some next ↦ run-append next bytes others
    ]

pub run-then : (place next : Place) (after : Option Place) (bytes others : List ℕ) → run place bytes ≡ Some next → run next others ≡ after → run place (bytes ++ others) ≡ after
run-then place next after bytes others first others_run = run-append place bytes others ∙ ap (option_and_then (λ next. run next others)) first ∙ others_run

pub run-byte : (place next : Place) (after : Option Place) (byte : ℕ) (bytes : List ℕ) → place_after place byte ≡ Some next → run next bytes ≡ after → run place (byte ∷ bytes) ≡ after
run-byte place next after byte bytes first others_run = ap (option_and_then (λ next. run next bytes)) first ∙ others_run

-- ---- the parts of a header are read

-- a gap before this side may begin at the place
abbrev OpensGap : Place → Side → Type 0
OpensGap place side = (byte : ℕ) → is_ascii_digit byte ≡ false → place_after place byte ≡ place_in_gap side byte

opens-magic : OpensGap at.Magic Width
opens-magic byte not_digit = refl

opens-gap : (side : Side) → OpensGap (at.Gap side) side
opens-gap side byte not_digit = ap (λ t. if t then Some (at.Number side (with_digit 0 byte)) else place_in_gap side byte) not_digit

opens-width : (number : ℕ) → OpensGap (at.Number Width number) (Height number)
opens-width number byte not_digit = ap (λ t. if t then Some (at.Number Width (with_digit number byte)) else place_in_gap (Height number) byte) not_digit

comment_text : (side : Side) (text : List ℕ) → AllByRecursion (λ byte. is_line_end byte ≡ false) text → run (at.Comment side) text ≡ Some (at.Comment side)
comment_text side [] none = refl
comment_text side (byte ∷ text) (inside, none) = grind (arith, comment_text side text none)

run-piece : (place : Place) (side : Side) (piece : Piece) → OpensGap place side → IsPiece piece → run place (piece_bytes piece) ≡ Some (at.Gap side)
run-piece place side (White byte) opens is = grind (arith, common_steps)
run-piece place side (Comment text end) opens (none, is) =
    run-byte place (at.Comment side) (Some (at.Gap side)) 35 (text ++ end ∷ []) (opens 35 refl)
    (run-then (at.Comment side) (at.Comment side) (Some (at.Gap side)) text (end ∷ []) (comment_text side text none) (grind arith))

run-pieces : (side : Side) (pieces : List Piece) → AllByRecursion IsPiece pieces → run (at.Gap side) (gap_bytes pieces) ≡ Some (at.Gap side)
run-pieces side [] are = refl
run-pieces side (piece ∷ pieces) (is, are) =
    run-then (at.Gap side) (at.Gap side) (Some (at.Gap side)) (piece_bytes piece) (gap_bytes pieces) (run-piece (at.Gap side) side piece (opens-gap side) is) (run-pieces side pieces are)

run-gap : (place : Place) (side : Side) (pieces : List Piece) → OpensGap place side → IsGap pieces → run place (gap_bytes pieces) ≡ Some (at.Gap side)
run-gap place side [] opens (some, are) = absurd (omega arith)
run-gap place side (piece ∷ pieces) opens (some, (is, are)) =
    run-then place (at.Gap side) (Some (at.Gap side)) (piece_bytes piece) (gap_bytes pieces) (run-piece place side piece opens is) (run-pieces side pieces are)

-- the digits of a side, behind a number that is cut
run-digits : (side : Side) (number : ℕ) (digits : List ℕ) → AllByRecursion (λ byte. is_ascii_digit byte ≡ true) digits →
    run (at.Number side (min number past_longest)) digits ≡ Some (at.Number side (min (fold (λ n digit. 10 * n + (digit - 48)) number digits) past_longest))
run-digits side number [] are = refl
run-digits side number (digit ∷ digits) (is, are) = grind (arith, run-digits side (10 * number + (digit - 48)) digits are)

run-number : (side : Side) (digits : List ℕ) → IsNumber digits → run (at.Gap side) digits ≡ Some (at.Number side (min (number_of digits) past_longest))
run-number side [] (some, are) = absurd (omega arith)
run-number side (digit ∷ digits) (some, (is, are)) = grind (arith, run-digits)

-- a header is read to its end, with its sizes cut
pub run-spelling : (parts : HeaderParts) → AreHeaderParts parts → run at.Start (header_spelling parts) ≡ Some (at.End (min (width_of parts) past_longest) (min (height_of parts) past_longest))
run-spelling parts are =
    run-then at.Magic (at.Gap Width) _ (gap_bytes parts.before_width) _ (run-gap at.Magic Width parts.before_width opens-magic are.before_width)
    (run-then (at.Gap Width) (at.Number Width w) _ parts.width _ (run-number Width parts.width are.width)
    (run-then (at.Number Width w) (at.Gap (Height w)) _ (gap_bytes parts.before_height) _ (run-gap (at.Number Width w) (Height w) parts.before_height (opens-width w) are.before_height)
    (run-then (at.Gap (Height w)) (at.Number (Height w) h) _ parts.height _ (run-number (Height w) parts.height are.height)
    (grind (arith, are.last)))))
  where
    w : ℕ
    w = min (width_of parts) past_longest

    h : ℕ
    h = min (height_of parts) past_longest

-- ---- what is read to its end is a header

-- what stands behind a place, up to the end of a header: parts, as they are spelled, and what follows them
abbrev Then : {A : Type 0} → (spelled : A → List ℕ) → (Are : A → Type 0) → (Rest : List ℕ → Type 0) → List ℕ → Type 0
Then {A = A} spelled Are Rest bytes = (parts : A) × Are parts × (rest : List ℕ) × Rest rest × (bytes ≡ spelled parts ++ rest)

abbrev Digits : (Rest : List ℕ → Type 0) → List ℕ → Type 0
Digits Rest = Then (λ digits. digits) (AllByRecursion (λ byte. is_ascii_digit byte ≡ true)) Rest

abbrev Num : (Rest : List ℕ → Type 0) → List ℕ → Type 0
Num Rest = Then (λ digits. digits) IsNumber Rest

abbrev Pieces : (Rest : List ℕ → Type 0) → List ℕ → Type 0
Pieces Rest = Then gap_bytes (AllByRecursion IsPiece) Rest

abbrev GapOf : (Rest : List ℕ → Type 0) → List ℕ → Type 0
GapOf Rest = Then gap_bytes IsGap Rest

-- the rest of a comment and the end of its line, and what follows them
abbrev InComment : (Rest : List ℕ → Type 0) → List ℕ → Type 0
InComment Rest bytes = (text : List ℕ) × (end : ℕ) × IsPiece (Comment text end) × (rest : List ℕ) × Rest rest × (bytes ≡ text ++ end ∷ rest)

abbrev Last : List ℕ → Type 0
Last bytes = (last : ℕ) × (is_white_space last ≡ true) × (bytes ≡ last ∷ [])

abbrev BehindNumber : Side → List ℕ → Type 0
BehindNumber Width bytes = GapOf (Num Last) bytes
BehindNumber (Height width) bytes = Last bytes

abbrev BehindLetter : List ℕ → Type 0
BehindLetter bytes = (rest : List ℕ) × (bytes ≡ 52 ∷ rest) × GapOf (Num (BehindNumber Width)) rest

abbrev Behind : Place → List ℕ → Type 0
Behind at.Start bytes = (rest : List ℕ) × (bytes ≡ 80 ∷ rest) × BehindLetter rest
Behind at.Letter bytes = BehindLetter bytes
Behind at.Magic bytes = GapOf (Num (BehindNumber Width)) bytes
Behind (at.Gap side) bytes = Pieces (Num (BehindNumber side)) bytes
Behind (at.Comment side) bytes = InComment (Pieces (Num (BehindNumber side))) bytes
Behind (at.Number side number) bytes = Digits (BehindNumber side) bytes
Behind (at.End width height) bytes = bytes ≡ []

-- a choice that gives some place took the first way, and what stands behind the place stands behind that way's, or the second
chosen : (test : Bool) (place next : Place) (other : Option Place) (bytes : List ℕ) → (if test then Some place else other) ≡ Some next → Behind next bytes
    → ((test ≡ true) × Behind place bytes) ⊎ ((test ≡ false) × (other ≡ Some next))
chosen true place next other bytes is behind = inl (refl, let same : next ≡ place = cc in subst (λ p. Behind p bytes) same behind)
chosen false place next other bytes is behind = inr (refl, is)

never : (next : Place) (P : Type 0) → None ≡ Some next → P
never next P is = cc

-- a byte of white space before pieces, and a comment before pieces
white_before : (Rest : List ℕ → Type 0) (byte : ℕ) (bytes : List ℕ) → is_white_space byte ≡ true → Pieces Rest bytes → GapOf Rest (byte ∷ bytes)
white_before Rest byte bytes white (pieces, are, rest, follows, is) = (White byte ∷ pieces, (omega arith, (white, are)), rest, follows, ap (λ l. byte ∷ l) is)

comment_before : (Rest : List ℕ → Type 0) (bytes : List ℕ) → InComment (Pieces Rest) bytes → GapOf Rest (35 ∷ bytes)
comment_before Rest bytes (text, end, is_piece, behind, (pieces, are, rest, follows, spelled), is) =
    (Comment text end ∷ pieces, (omega arith, (is_piece, are)), rest, follows, grind (arith, append_assoc))

gap_before : (side : Side) (next : Place) (byte : ℕ) (bytes : List ℕ) → place_in_gap side byte ≡ Some next → Behind next bytes → GapOf (Num (BehindNumber side)) (byte ∷ bytes)
gap_before side next byte bytes is behind =
    elim (chosen (is_white_space byte) (at.Gap side) next (if eqb byte 35 then Some (at.Comment side) else None) bytes is behind) [
      | inl (white, pieces) ↦ white_before (Num (BehindNumber side)) byte bytes white pieces
      | inr (_, other) ↦ elim (chosen (eqb byte 35) (at.Comment side) next None bytes other behind) [
        | inl (hash, comment) ↦ subst (λ b. GapOf (Num (BehindNumber side)) (b ∷ bytes)) (sym (eqb-true byte 35 hash)) (comment_before (Num (BehindNumber side)) bytes comment)
        | inr (_, none) ↦ never next (GapOf (Num (BehindNumber side)) (byte ∷ bytes)) none
      ]
    ]

-- a gap has pieces
pieces_of : (Rest : List ℕ → Type 0) (bytes : List ℕ) → GapOf Rest bytes → Pieces Rest bytes
pieces_of Rest bytes (pieces, are, rest, follows, is) = (pieces, are.1, rest, follows, is)

digit_before : (Rest : List ℕ → Type 0) (byte : ℕ) (bytes : List ℕ) → is_ascii_digit byte ≡ true → Digits Rest bytes → Digits Rest (byte ∷ bytes)
digit_before Rest byte bytes digit (digits, are, rest, follows, is) = (byte ∷ digits, (digit, are), rest, follows, ap (λ l. byte ∷ l) is)

-- a number without pieces before it
number_before : (Rest : List ℕ → Type 0) (byte : ℕ) (bytes : List ℕ) → is_ascii_digit byte ≡ true → Digits Rest bytes → Pieces (Num Rest) (byte ∷ bytes)
number_before Rest byte bytes digit (digits, are, rest, follows, is) =
    ([], tt, byte ∷ bytes, (byte ∷ digits, (omega arith, (digit, are)), rest, follows, ap (λ l. byte ∷ l) is), refl)

text_before : (Rest : List ℕ → Type 0) (byte : ℕ) (bytes : List ℕ) → is_line_end byte ≡ false → InComment Rest bytes → InComment Rest (byte ∷ bytes)
text_before Rest byte bytes inside (text, end, (none, ends), rest, follows, is) = (byte ∷ text, end, ((inside, none), ends), rest, follows, ap (λ l. byte ∷ l) is)

step : (place next : Place) (byte : ℕ) (bytes : List ℕ) → place_after place byte ≡ Some next → Behind next bytes → Behind place (byte ∷ bytes)
step at.Start next byte bytes is behind = grind arith
step at.Letter next byte bytes is behind = grind arith
step at.Magic next byte bytes is behind = gap_before Width next byte bytes is behind
step (at.Gap side) next byte bytes is behind =
    elim (chosen (is_ascii_digit byte) (at.Number side (with_digit 0 byte)) next (place_in_gap side byte) bytes is behind) [
      | inl (digit, digits) ↦ number_before (BehindNumber side) byte bytes digit digits
      | inr (_, other) ↦ pieces_of (Num (BehindNumber side)) (byte ∷ bytes) (gap_before side next byte bytes other behind)
    ]
step (at.Comment side) next byte bytes is behind =
    elim (chosen (is_line_end byte) (at.Gap side) next (Some (at.Comment side)) bytes is behind) [
      | inl (ends, pieces) ↦ ([], byte, (tt, ends), bytes, pieces, refl)
      | inr (inside, other) ↦
          let same : next ≡ at.Comment side = cc in text_before (Pieces (Num (BehindNumber side))) byte bytes inside (subst (λ p. Behind p bytes) same behind)
    ]
step (at.Number Width number) next byte bytes is behind =
    elim (chosen (is_ascii_digit byte) (at.Number Width (with_digit number byte)) next (place_in_gap (Height number) byte) bytes is behind) [
      | inl (digit, digits) ↦ digit_before (BehindNumber Width) byte bytes digit digits
      | inr (_, other) ↦ ([], tt, byte ∷ bytes, gap_before (Height number) next byte bytes other behind, refl)
    ]
step (at.Number (Height width) number) next byte bytes is behind =
    elim (chosen (is_ascii_digit byte) (at.Number (Height width) (with_digit number byte)) next (if is_white_space byte then Some (at.End width number) else None) bytes is behind) [
      | inl (digit, digits) ↦ digit_before Last byte bytes digit digits
      | inr (_, other) ↦ elim (chosen (is_white_space byte) (at.End width number) next None bytes other behind) [
        | inl (white, none) ↦ ([], tt, byte ∷ bytes, (byte, white, ap (λ l. byte ∷ l) none), refl)
        | inr (_, none) ↦ never next (Digits Last (byte ∷ bytes)) none
      ]
    ]
step (at.End width height) next byte bytes is behind = never next (byte ∷ bytes ≡ []) is

-- where reading bytes gives a place, the first of them gave one
first_step : (after : Option Place) (bytes : List ℕ) (next : Place) → option_and_then (λ place. run place bytes) after ≡ Some next
    → (place : Place) × (after ≡ Some place) × (run place bytes ≡ Some next)
first_step after bytes next is = grind arith

run-Behind : (place : Place) (bytes : List ℕ) (width height : ℕ) → run place bytes ≡ Some (at.End width height) → Behind place bytes
run-Behind place [] width height is = let same : at.End width height ≡ place = cc in subst (λ p. Behind p []) same refl
run-Behind place (byte ∷ bytes) width height is =
    let (next, after, rest) = first_step (place_after place byte) bytes (at.End width height) is in step place next byte bytes after (run-Behind next bytes width height rest)

-- the parts of a header that was read to its end
pub record Found (bytes : List ℕ) (width height : ℕ) : Type 0 where
  pub parts : HeaderParts
  pub are : AreHeaderParts parts
  pub is : bytes ≡ header_spelling parts
  pub width_is : width ≡ min (width_of parts) past_longest
  pub height_is : height ≡ min (height_of parts) past_longest

pub end_sizes : (a b c d : ℕ) → Some (at.End a b) ≡ Some (at.End c d) → (a ≡ c) × (b ≡ d)
end_sizes a b c d is = (cc, cc)

pub found : (bytes : List ℕ) (width height : ℕ) → run at.Start bytes ≡ Some (at.End width height) → length bytes ≤ 65536 → Found bytes width height
found bytes width height is short =
    let (rest, letter, behind) = run-Behind at.Start bytes width height is in
    let (others, digit, gap) = behind in
    let (pieces, gap_are, gap_rest, (digits, digits_are, digits_rest, (pieces', gap_are', gap_rest', (digits', digits_are', last_bytes, (last, white, last_is), fourth), third), second), first) = gap in
    let parts : HeaderParts = record { before_width = pieces; width = digits; before_height = pieces'; height = digits'; last = last } in
    let whole : bytes ≡ header_spelling parts = cc in
    let are : AreHeaderParts parts = record {
      before_width = gap_are;
      width = digits_are;
      before_height = gap_are';
      height = digits_are';
      last = white;
      long = subst (λ l. length l ≤ 65536) whole short;
    } in
    let sizes = end_sizes width height (min (width_of parts) past_longest) (min (height_of parts) past_longest) (sym is ∙ ap (run at.Start) whole ∙ run-spelling parts are) in
    record { parts = parts; are = are; is = whole; width_is = sizes.0; height_is = sizes.1 }

-- ---- how many bytes complete a header

-- the fewest bytes that complete a header behind a place
record Completes (place : Place) : Type 0 where
  more : List ℕ
  width : ℕ
  height : ℕ
  long : length more ≡ least_behind place
  runs : run place more ≡ Some (at.End width height)

completes : (place : Place) → Completes place
completes at.Start = record { more = 80 ∷ 52 ∷ 32 ∷ 49 ∷ 32 ∷ 49 ∷ 32 ∷ []; width = 1; height = 1; long = refl; runs = refl }
completes at.Letter = record { more = 52 ∷ 32 ∷ 49 ∷ 32 ∷ 49 ∷ 32 ∷ []; width = 1; height = 1; long = refl; runs = refl }
completes at.Magic = record { more = 32 ∷ 49 ∷ 32 ∷ 49 ∷ 32 ∷ []; width = 1; height = 1; long = refl; runs = refl }
completes (at.Gap Width) = record { more = 49 ∷ 32 ∷ 49 ∷ 32 ∷ []; width = 1; height = 1; long = refl; runs = refl }
completes (at.Gap (Height width)) = record { more = 49 ∷ 32 ∷ []; width = width; height = 1; long = refl; runs = refl }
completes (at.Comment Width) = record { more = 10 ∷ 49 ∷ 32 ∷ 49 ∷ 32 ∷ []; width = 1; height = 1; long = refl; runs = refl }
completes (at.Comment (Height width)) = record { more = 10 ∷ 49 ∷ 32 ∷ []; width = width; height = 1; long = refl; runs = refl }
completes (at.Number Width number) = record { more = 32 ∷ 49 ∷ 32 ∷ []; width = number; height = 1; long = refl; runs = refl }
completes (at.Number (Height width) number) = record { more = 32 ∷ []; width = width; height = number; long = refl; runs = refl }
completes (at.End width height) = record { more = []; width = width; height = height; long = refl; runs = refl }

step_least : (place next : Place) (byte : ℕ) → place_after place byte ≡ Some next → least_behind place ≤ least_behind next + 1
step_least place next byte is = grind arith

-- no fewer bytes complete a header
run-least : (place : Place) (bytes : List ℕ) (width height : ℕ) → run place bytes ≡ Some (at.End width height) → least_behind place ≤ length bytes
run-least place [] width height is = let same : at.End width height ≡ place = cc in subst (λ p. least_behind p ≤ 0) same (omega arith)
run-least place (byte ∷ bytes) width height is =
    let (next, after, rest) = first_step (place_after place byte) bytes (at.End width height) is in
    let here = step_least place next byte after in
    let later = run-least next bytes width height rest in
    omega arith

-- ---- what a reader knows of the bytes that it read

-- they are a prefix of a header
pub cut_header : (read : List ℕ) (place : Place) → run at.Start read ≡ Some place → length read + least_behind place ≤ 65536 → 0 < least_behind place →
    IsHeaderPrefix read
cut_header read place is short some =
    let last = completes place in
    let long : length (read ++ last.more) ≤ 65536 = omega (arith, length-append read last.more, last.long) in
    let whole = found (read ++ last.more) last.width last.height (run-then at.Start place (Some (at.End last.width last.height)) read last.more is last.runs) long in
    (last.more, omega (arith, last.long), (whole.parts, whole.are, whole.is))

-- where a header begins with them, it is completed from their place
completed : (read more : List ℕ) (after : Option Place) → run at.Start read ≡ after → IsHeader (read ++ more)
    → (width height : ℕ) × (option_and_then (λ place. run place more) after ≡ Some (at.End width height)) × (length (read ++ more) ≤ 65536)
completed read more after is (parts, are, spelled) = (
  min (width_of parts) past_longest,
  min (height_of parts) past_longest,
  ap (option_and_then (λ place. run place more)) (sym is) ∙ sym (run-append at.Start read more) ∙ ap (run at.Start) spelled ∙ run-spelling parts are,
  subst (λ l. length l ≤ 65536) (sym spelled) are.long,
)

-- no header has the next byte there
pub no_header : (read : List ℕ) (byte : ℕ) (place : Place) → run at.Start read ≡ Some place → place_after place byte ≡ None → BeginsHeader (read ++ byte ∷ []) → ⊥
no_header read byte place is none (more, header) =
    let (width, height, ends, _) = completed (read ++ byte ∷ []) more None (run-then at.Start place None read (byte ∷ []) is (ap (option_and_then (λ next. run next [])) none)) header in
    never (at.End width height) ⊥ ends

-- a header that begins with them has too many bytes
pub too_long : (read : List ℕ) (place : Place) → run at.Start read ≡ Some place → 65536 < length read + least_behind place → BeginsHeader read → ⊥
too_long read place is long (more, header) =
    let (width, height, ends, short) = completed read more (Some place) is header in
    omega (arith, run-least place more width height ends, length-append read more)
