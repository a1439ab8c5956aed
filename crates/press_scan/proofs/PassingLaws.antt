-- Commands of one byte each, passed over at once.
use Rattle.std.proofs.Common.{◌≡◌, ◌≤◌, ◌<◌, ◌+◌, ◌-◌, ◌∙◌, inl, ℕ, suc, List, [], ◌∷◌, ◌++◌, length, take, drop, map, Bool, true, false, refl, sym, ap, subst, arith, length-take}
use Rattle.std.specs.Prelude.{◌==◌, not, nat_lt, if◌then◌else◌, slice_index_or}
use Rattle.std.specs.List.{AllByRecursion, list_all}
use Rattle.std.proofs.Math.Seq.{take-suc}
use Rattle.std.proofs.lemmas.List.{map-append, length-map, take-append-drop, drop-drop}
use Rattle.std.proofs.lemmas.Bool.{and_parts, ne_eqb}
use Rattle.press_cmd.specs.Token.{Token, Control, Text, ForeignByte, escape_byte, uel}
use Rattle.press_cmd.specs.Kinds.{kind_of}
use Rattle.press_cmd.specs.declared.variant.Kind.{Kind}
use Rattle.press_cmd.specs.ParserState.{ParserState, Exit, OverlongLine, OtherLanguage, Pcl, Open}
use Rattle.press_cmd.specs.Grammar.{Head, Whole, differs}
use Rattle.press_cmd.proofs.Splits.{closed-cons}
use Rattle.press_scan.specs.Gives.{Passes}
use Rattle.press_scan.specs.Passing.{PassesEach, IsOneByte, PassesOver, is_plain, byte_command, ArePlain}
use Rattle.press_scan.specs.Peeks.{scanner_state, in_room}
use Rattle.press_scan.specs.ScannerState.{ScannerState}

not_escape : (byte : ℕ) → not (byte == escape_byte) ≡ true → byte ≡ escape_byte → ⊥
not_escape byte other is = absurd (cc)

-- a byte that is no escape character is a command of PCL
pcl_byte : (controls : Bool) (byte : ℕ) (low : Bool) → nat_lt byte 32 ≡ low → is_plain controls byte ≡ true
    → Whole Pcl (byte ∷ []) (if low then Control byte else Text byte) Pcl × IsOneByte controls (if low then Control byte else Text byte)
pcl_byte controls byte low h1 plain = grind arith

module _ (ended : Bool) (room : ℕ) where
  abbrev held : ParserState → List ℕ → ScannerState
  held mode bytes = in_room room (scanner_state mode bytes ended)

  head_passes : (mode : ParserState) (byte : ℕ) (bytes : List ℕ) (command : Token) → Head mode (byte ∷ []) bytes command mode → Passes (held mode (byte ∷ bytes)) command (held mode bytes)
  head_passes mode byte bytes command head = record {
    ended = refl;
    room = refl;
    used = omega arith;
    head = λ _. (byte ∷ [], refl, head);
    prefix = λ _. (byte ∷ [], refl, inl head);
    closes = λ _ commands closed. closed-cons mode (byte ∷ []) bytes command mode commands head closed;
  }

  pcl_each : (controls : Bool) (bytes following : List ℕ) → list_all (is_plain controls) bytes ≡ true
      → PassesEach (held Pcl (bytes ++ following)) (map (byte_command Pcl) bytes) (held Pcl following) × AllByRecursion (IsOneByte controls) (map (byte_command Pcl) bytes)
  pcl_each controls [] following all = (refl, tt)
  pcl_each controls (byte ∷ bytes) following all =
      let parts = and_parts _ _ all in
      let one = pcl_byte controls byte (nat_lt byte 32) refl parts.0 in
      let others = pcl_each controls bytes following parts.1 in (
        (
          held Pcl (bytes ++ following),
          head_passes Pcl byte (bytes ++ following) (byte_command Pcl byte) (whole_head byte (bytes ++ following) (nat_lt byte 32) one.0),
          others.0,
        ),
        (one.1, others.1),
      )
    where
      whole_head : (byte : ℕ) (rest : List ℕ) (low : Bool) → Whole Pcl (byte ∷ []) (if low then Control byte else Text byte) Pcl
          → Head Pcl (byte ∷ []) rest (if low then Control byte else Text byte) Pcl
      whole_head byte rest low whole = grind arith

  foreign_each : (controls : Bool) (bytes following : List ℕ) → list_all (is_plain true) bytes ≡ true
      → PassesEach (held OtherLanguage (bytes ++ following)) (map (byte_command OtherLanguage) bytes) (held OtherLanguage following)
      × AllByRecursion (IsOneByte controls) (map (byte_command OtherLanguage) bytes)
  foreign_each controls [] following all = (refl, tt)
  foreign_each controls (byte ∷ bytes) following all =
      let parts = and_parts _ _ all in
      let plain = and_parts _ _ parts.0 in
      let other : (escape_byte == byte) ≡ false = ne_eqb escape_byte byte (λ e. not_escape byte plain.1 (sym e)) in
      let differ : differs uel (byte ∷ (bytes ++ following)) ≡ true = rw other refl in
      let others = foreign_each controls bytes following parts.1 in
      ((held OtherLanguage (bytes ++ following), head_passes OtherLanguage byte (bytes ++ following) (ForeignByte byte) (refl, differ, refl), others.0), (tt, others.1))

  pub each_plain : (controls : Bool) (mode : ParserState) (bytes following : List ℕ) → ArePlain controls mode bytes
      → PassesEach (held mode (bytes ++ following)) (map (byte_command mode) bytes) (held mode following) × AllByRecursion (IsOneByte controls) (map (byte_command mode) bytes)
  each_plain controls Pcl bytes following plain = pcl_each controls bytes following plain
  each_plain controls OtherLanguage bytes following plain = foreign_each controls bytes following plain
  each_plain controls Exit bytes following none = rw none (refl, tt)
  each_plain controls OverlongLine bytes following none = rw none (refl, tt)
  each_plain controls (Open character group) bytes following none = rw none (refl, tt)

-- the front of what is held, and what is held then
pub plain_passes : (controls : Bool) (mode : ParserState) (items all : List ℕ) (start count : ℕ) (ended : Bool) (room d : ℕ) (kind : Kind) (old new : ScannerState)
    → all ≡ drop start items → ArePlain controls mode (take count all) → count ≤ length all → 0 < count
    → kind ≡ kind_of (byte_command mode (slice_index_or all (count - 1) d)) → held ended room mode (drop start items) ≡ old → held ended room mode (drop (start + count) items) ≡ new
    → PassesOver controls old (record { count = count; kind = kind }) new
plain_passes controls mode items all start count ended room d kind old new same plain within some kind_is seen left =
    let byte = slice_index_or all (count - 1) d in
    let f = byte_command mode in
    let one : suc (count - 1) ≡ count = omega (arith, some) in
    let snoc : take count all ≡ take (count - 1) all ++ byte ∷ [] = ap (λ n. take n all) (sym one) ∙ take-suc all (count - 1) d (omega (arith, some, within)) in
    let commands : map f (take count all) ≡ map f (take (count - 1) all) ++ f byte ∷ [] = ap (map f) snoc ∙ map-append f (take (count - 1) all) (byte ∷ []) in
    let both = each_plain ended room controls mode (take count all) (drop count all) plain in
    let from : held ended room mode (take count all ++ drop count all) ≡ old = ap (held ended room mode) (take-append-drop count all ∙ same) ∙ seen in
    let to : held ended room mode (drop count all) ≡ new = ap (held ended room mode) (ap (drop count) same ∙ drop-drop count start items) ∙ left in
    let P : List Token → Type 0 = λ these. PassesEach old these new in
    record {
      prefix = map f (take (count - 1) all);
      last = f byte;
      each =
          subst P commands
          (subst (λ (s : ScannerState). PassesEach s (map f (take count all)) new) from
          (subst (λ (s : ScannerState).
          PassesEach (held ended room mode (take count all ++ drop count all)) (map f (take count all)) s) to
          both.0));
      bytes = subst (AllByRecursion (IsOneByte controls)) commands both.1;
      count = omega (arith, within, ap length commands, length-map (take count all) f, length-take count all);
      kind = kind_is;
    }
