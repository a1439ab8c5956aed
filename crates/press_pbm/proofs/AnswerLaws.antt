-- An input is a file, or one refusal fits it.
use Rattle.std.proofs.lemmas.Bool.Decides.{nat_tests}
use Rattle.std.proofs.Common.{◌≡◌, ℕ, ◌*◌, ◌<◌, ◌≤◌, min, true, List, [], ◌∷◌, ◌++◌, length, Some, refl, sym, ap, ◌∙◌, arith, subst, inl, inr, ◌⊎◌, append_assoc, append-nil, length-append}
use Rattle.press_bits.specs.Page.{Page, is_page_size}
use Rattle.press_bits.specs.Lines.{bytes_per_line}
use Rattle.press_bits.specs.DotRows.{page_of_rows}
use Rattle.press_pbm.specs.Header.{HeaderParts, AreHeaderParts, header_spelling, width_of, height_of, IsHeader, IsHeaderPrefix}
use Rattle.press_pbm.specs.File.{IsFile, IsBadHeader, IsNoHeader, IsFilePrefix}
use Rattle.press_pbm.specs.Reading.{past_longest}
use Rattle.press_pbm.specs.Answer.{PageOf, NoHeader, BadHeader, CutShort, HasOneAnswer}
use Rattle.press_pbm.specs.declared.place.Place.TheVariants as at
use Rattle.press_pbm.proofs.HeaderLemmas.{run, run-append, run-spelling, end_sizes}
use Rattle.press_pbm.proofs.FileLemmas.{not_cut}

no_bytes : (bytes : List ℕ) → length bytes ≤ 0 → bytes ≡ []
no_bytes [] none = refl
no_bytes (byte ∷ bytes) none = absurd (omega arith)

-- of two prefixes of a list, one is a prefix of the other
compare : (a b x y : List ℕ) → a ++ x ≡ b ++ y → ((c : List ℕ) × (a ≡ b ++ c) × (y ≡ c ++ x)) ⊎ ((c : List ℕ) × (b ≡ a ++ c) × (x ≡ c ++ y))
compare [] b x y same = inr (b, refl, same)
compare (h ∷ a) [] x y same = inl (h ∷ a, refl, sym same)
compare (h ∷ a) (k ∷ b) x y same = grind (arith, compare a b x y (cc))

runs : (bytes : List ℕ) (parts : HeaderParts) → AreHeaderParts parts → bytes ≡ header_spelling parts
    → run at.Start bytes ≡ Some (at.End (min (width_of parts) past_longest) (min (height_of parts) past_longest))
runs bytes parts are is = ap (run at.Start) is ∙ run-spelling parts are

nothing_behind : (width height : ℕ) (more : List ℕ) (w h : ℕ) → run (at.End width height) more ≡ Some (at.End w h) → more ≡ []
nothing_behind width height [] w h is = refl
nothing_behind width height (byte ∷ more) w h is = cc

-- no header begins another
no_more : (bytes more : List ℕ) → IsHeader bytes → IsHeader (bytes ++ more) → more ≡ []
no_more bytes more (parts, are, is) (longer, long_are, long_is) =
    nothing_behind (min (width_of parts) past_longest) (min (height_of parts) past_longest) more (min (width_of longer) past_longest) (min (height_of longer) past_longest)
    (grind (arith, runs bytes parts are is, run-append at.Start bytes more, runs (bytes ++ more) longer long_are long_is))

-- an input begins with one header
same_header : (a b x y : List ℕ) → IsHeader a → IsHeader b → a ++ x ≡ b ++ y → (a ≡ b) × (x ≡ y)
same_header a b x y is_a is_b same =
    elim (compare a b x y same) [
      | inl (c, longer, rest) ↦ let none = no_more b c is_b (subst IsHeader longer is_a) in (longer ∙ ap (λ l. b ++ l) none ∙ append-nil b, sym (rest ∙ ap (λ l. l ++ x) none))
      | inr (c, longer, rest) ↦ let none = no_more a c is_a (subst IsHeader longer is_b) in (sym (longer ∙ ap (λ l. a ++ l) none ∙ append-nil a), rest ∙ ap (λ l. l ++ y) none)
    ]

-- the parts of one header have one size, as far as it is a page's
same_size : (parts others : HeaderParts) → AreHeaderParts parts → AreHeaderParts others → header_spelling parts ≡ header_spelling others
    → is_page_size (width_of parts) (height_of parts) ≡ is_page_size (width_of others) (height_of others)
same_size parts others are others_are same =
    let ends =
    end_sizes (min (width_of parts) past_longest) (min (height_of parts) past_longest) (min (width_of others) past_longest)
    (min (height_of others) past_longest) (sym (run-spelling parts are) ∙ runs (header_spelling parts) others others_are same) in
    grind (arith, nat_tests, ends.0, ends.1)

same_sides : (parts others : HeaderParts) → AreHeaderParts parts → AreHeaderParts others → header_spelling parts ≡ header_spelling others
    → is_page_size (width_of parts) (height_of parts) ≡ true → (width_of parts ≡ width_of others) × (height_of parts ≡ height_of others)
same_sides parts others are others_are same size =
    let ends =
    end_sizes (min (width_of parts) past_longest) (min (height_of parts) past_longest) (min (width_of others) past_longest)
    (min (height_of others) past_longest) (sym (run-spelling parts are) ∙ runs (header_spelling parts) others others_are same) in
    grind (arith, not_cut (width_of parts) (height_of parts) size, not_cut (width_of others) (height_of others), same_size parts others are others_are same, ends.0, ends.1)

-- ---- two answers

-- what begins with a header goes on as one
header_goes_on : (header x read y : List ℕ) → IsHeader header → IsNoHeader read → header ++ x ≡ read ++ y → ⊥
header_goes_on header x read y is none same =
    elim (compare header read x y same) [
      | inl (c, longer, _) ↦ none.none (c, subst IsHeader longer is)
      | inr (c, longer, _) ↦ behind c longer
    ]
  where
    within : (d : List ℕ) → none.prefix ≡ header ++ d → ⊥
    within d longer =
        let more = none.goes_on.0 in
        let some : 0 < length more = none.goes_on.1 in
        let all : none.prefix ++ more ≡ header ++ (d ++ more) = ap (λ l. l ++ more) longer ∙ append_assoc header d more in
        let gone = no_more header (d ++ more) is (subst IsHeader all none.goes_on.2) in
        omega (arith, ap length gone, length-append d more)

    behind : (c : List ℕ) → read ≡ header ++ c → ⊥
    behind [] longer = none.none ([], subst IsHeader (sym (longer ∙ append-nil header) ∙ sym (append-nil read)) is)
    behind (byte ∷ c) longer =
        elim (compare header none.prefix (byte ∷ c) (none.byte ∷ []) (sym longer ∙ none.ends)) [
          | inl (d, longer_prefix, rest) ↦
              let empty : d ≡ [] = no_bytes d (omega (arith, ap length rest, length-append d (byte ∷ c))) in
              within [] (sym (longer_prefix ∙ ap (λ l. none.prefix ++ l) empty ∙ append-nil none.prefix) ∙ sym (append-nil header))
          | inr (d, longer_prefix, _) ↦ within d longer_prefix
        ]

-- a prefix of a header does not begin with a header
prefix_ends : (header x input : List ℕ) → IsHeader header → input ≡ header ++ x → IsHeaderPrefix input → ⊥
prefix_ends header x input is begins (more, some, whole) =
    let all : input ++ more ≡ header ++ (x ++ more) = ap (λ l. l ++ more) begins ∙ append_assoc header x more in
    let gone = no_more header (x ++ more) is (subst IsHeader all whole) in
    omega (arith, ap length gone, length-append x more)

-- a header of a bad size begins no file
bad_or_file : (bad : List ℕ) (x : List ℕ) (page : Page) (file y : List ℕ) → IsBadHeader bad → IsFile page file → bad ++ x ≡ file ++ y → ⊥
bad_or_file bad x page file y is whole same =
    let begins : bad ++ x ≡ header_spelling whole.parts ++ (whole.rows ++ y) = same ∙ ap (λ l. l ++ y) whole.spelled ∙ append_assoc (header_spelling whole.parts) whole.rows y in
    let one = same_header bad (header_spelling whole.parts) x (whole.rows ++ y) (is.parts, is.header, is.spelled) (whole.parts, whole.header, refl) begins in
    cc (sym whole.size ∙ sym (same_size is.parts whole.parts is.header whole.header (sym is.spelled ∙ one.0)) ∙ is.size)

-- two files at the front of an input have one header, and rows of one length
same_rows : (page other : Page) (file more x y : List ℕ) (one : IsFile page file) (two : IsFile other more) → file ++ x ≡ more ++ y →
    (width_of one.parts ≡ width_of two.parts) × (height_of one.parts ≡ height_of two.parts)
    × (header_spelling one.parts ≡ header_spelling two.parts) × (one.rows ++ x ≡ two.rows ++ y) × (length one.rows ≡ length two.rows)
same_rows page other file more x y one two same =
    let begins : header_spelling one.parts ++ (one.rows ++ x) ≡ header_spelling two.parts ++ (two.rows ++ y) =
    sym (append_assoc (header_spelling one.parts) one.rows x) ∙ ap (λ l. l ++ x) (sym one.spelled) ∙ same ∙ ap (λ l. l ++ y) two.spelled ∙ append_assoc (header_spelling two.parts) two.rows y in
    let joined = same_header (header_spelling one.parts) (header_spelling two.parts) (one.rows ++ x) (two.rows ++ y) (one.parts, one.header, refl) (two.parts, two.header, refl) begins in
    let sides = same_sides one.parts two.parts one.header two.header joined.0 one.size in
    (sides.0, sides.1, joined.0, joined.1, one.long ∙ (λ i. sides.1 i * bytes_per_line (sides.0 i)) ∙ sym two.long)

same_length : (a b x y : List ℕ) → a ++ x ≡ b ++ y → length a ≡ length b → a ≡ b
same_length [] [] x y same long = refl
same_length [] (k ∷ b) x y same long = absurd (omega arith)
same_length (h ∷ a) [] x y same long = absurd (omega arith)
same_length (h ∷ a) (k ∷ b) x y same long =
    grind (arith, same_length a b x y (cc))

same_file : (page other : Page) (file more x y : List ℕ) → IsFile page file → IsFile other more → file ++ x ≡ more ++ y → PageOf page file ≡ PageOf other more
same_file page other file more x y one two same =
    let (wide, high, header, rows, long) = same_rows page other file more x y one two same in
    let alike = same_length one.rows two.rows x y rows long in
    let pages : page ≡ other = one.shows ∙ (λ i. page_of_rows (wide i) (high i) (alike i)) ∙ sym two.shows in
    let files : file ≡ more = one.spelled ∙ (λ i. header i ++ alike i) ∙ sym two.spelled in
    λ i. PageOf (pages i) (files i)

-- a prefix of a file does not begin with a file
file_ends : (page other : Page) (file x input more : List ℕ) → IsFile page file → input ≡ file ++ x → 0 < length more → IsFile other (input ++ more) → ⊥
file_ends page other file x input more one begins some two =
    let same : file ++ (x ++ more) ≡ (input ++ more) ++ [] = sym (append_assoc file x more) ∙ ap (λ l. l ++ more) (sym begins) ∙ sym (append-nil (input ++ more)) in
    let (wide, high, header, rows, long) = same_rows page other file (input ++ more) (x ++ more) [] one two same in
    omega (arith, ap length rows, length-append one.rows (x ++ more), length-append two.rows [], length-append x more)

file_no_header : (page : Page) (file x read y : List ℕ) → IsFile page file → IsNoHeader read → file ++ x ≡ read ++ y → ⊥
file_no_header page file x read y whole none same =
    header_goes_on (header_spelling whole.parts) (whole.rows ++ x) read y (whole.parts, whole.header, refl) none
    (sym (append_assoc (header_spelling whole.parts) whole.rows x) ∙ ap (λ l. l ++ x) (sym whole.spelled) ∙ same)

no_header_cut : (input read y : List ℕ) → IsNoHeader read → input ≡ read ++ y → IsHeaderPrefix input ⊎ IsFilePrefix input → ⊥
no_header_cut input read y none begins (inl (more, some, header)) = none.none (y ++ more, subst IsHeader (ap (λ l. l ++ more) begins ∙ append_assoc read y more) header)
no_header_cut input read y none begins (inr (more, some, page, file)) =
    file_no_header page (input ++ more) [] read (y ++ more) file none (append-nil (input ++ more) ∙ ap (λ l. l ++ more) begins ∙ append_assoc read y more)

bad_cut : (input bad x : List ℕ) → IsBadHeader bad → input ≡ bad ++ x → IsHeaderPrefix input ⊎ IsFilePrefix input → ⊥
bad_cut input bad x is begins (inl prefix) = prefix_ends bad x input (is.parts, is.header, is.spelled) begins prefix
bad_cut input bad x is begins (inr (more, some, page, file)) =
    bad_or_file bad (x ++ more) page (input ++ more) [] is file (sym (append_assoc bad x more) ∙ ap (λ l. l ++ more) (sym begins) ∙ sym (append-nil (input ++ more)))

file_cut : (page : Page) (input file x : List ℕ) → IsFile page file → input ≡ file ++ x → IsHeaderPrefix input ⊎ IsFilePrefix input → ⊥
file_cut page input file x is begins (inl prefix) =
    prefix_ends (header_spelling is.parts) (is.rows ++ x) input (is.parts, is.header, refl) (begins ∙ ap (λ l. l ++ x) is.spelled ∙ append_assoc (header_spelling is.parts) is.rows x) prefix
file_cut page input file x is begins (inr (more, some, other, longer)) = file_ends page other file x input more is begins some longer

bad_no_header : (bad x read y : List ℕ) → IsBadHeader bad → IsNoHeader read → bad ++ x ≡ read ++ y → ⊥
bad_no_header bad x read y is none same = header_goes_on bad x read y (is.parts, is.header, is.spelled) none same

pub one_answer : HasOneAnswer
one_answer input (PageOf page file) (PageOf other more) (x, begins, is) (y, other_begins, other_is) = same_file page other file more x y is other_is (sym begins ∙ other_begins)
one_answer input (PageOf page file) NoHeader (x, begins, is) (read, y, other_begins, none) = absurd (file_no_header page file x read y is none (sym begins ∙ other_begins))
one_answer input (PageOf page file) BadHeader (x, begins, is) (bad, y, other_begins, bad_is) = absurd (bad_or_file bad y page file x bad_is is (sym other_begins ∙ begins))
one_answer input (PageOf page file) CutShort (x, begins, is) cut = absurd (file_cut page input file x is begins cut)
one_answer input NoHeader (PageOf page file) (read, y, other_begins, none) (x, begins, is) = absurd (file_no_header page file x read y is none (sym begins ∙ other_begins))
one_answer input NoHeader NoHeader one two = refl
one_answer input NoHeader BadHeader (read, y, begins, none) (bad, x, other_begins, is) = absurd (bad_no_header bad x read y is none (sym other_begins ∙ begins))
one_answer input NoHeader CutShort (read, y, begins, none) cut = absurd (no_header_cut input read y none begins cut)
one_answer input BadHeader (PageOf page file) (bad, y, other_begins, bad_is) (x, begins, is) = absurd (bad_or_file bad y page file x bad_is is (sym other_begins ∙ begins))
one_answer input BadHeader NoHeader (bad, x, other_begins, is) (read, y, begins, none) = absurd (bad_no_header bad x read y is none (sym other_begins ∙ begins))
one_answer input BadHeader BadHeader one two = refl
one_answer input BadHeader CutShort (bad, x, begins, is) cut = absurd (bad_cut input bad x is begins cut)
one_answer input CutShort (PageOf page file) cut (x, begins, is) = absurd (file_cut page input file x is begins cut)
one_answer input CutShort NoHeader cut (read, y, begins, none) = absurd (no_header_cut input read y none begins cut)
one_answer input CutShort BadHeader cut (bad, x, begins, is) = absurd (bad_cut input bad x is begins cut)
one_answer input CutShort CutShort one two = refl
