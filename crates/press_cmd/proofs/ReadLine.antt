-- Reading a PJL line.
use Rattle.std.proofs.Common.{◌≡◌, ◌<◌, ◌+◌, ◌∙◌, ℕ, suc, List, [], ◌∷◌, ◌++◌, length, Bool, true, false, cond, Some, refl, sym, ap, subst, inr, arith, append_assoc, length-append}
use Rattle.std.specs.List.{list_all}
use Rattle.std.proofs.lemmas.List.{append-nil}
use Rattle.std.proofs.lemmas.Bool.{and_parts, and_from, not-true, not_from_false, eqb-false, eqb-true, ne_eqb, eq-eqb}
use Rattle.press_cmd.specs.Token.{Token, Broken, PjlLine, escape_byte, pjl_mark}
use Rattle.press_cmd.specs.ParserState.{ParserState, Exit, OverlongLine}
use Rattle.press_cmd.specs.Language.{mode_after}
use Rattle.press_cmd.specs.Grammar.{longest_line, is_line_byte, BeginsLine, IsPjlLine, Stands}
use Rattle.press_cmd.proofs.Reading.{Found, is_feed, is_escape, is_full, read_line, stripped}
use Rattle.press_cmd.proofs.ByteTests.{is_feed-true, is_escape-true, is_escape-from}

is_full-below : (prefix : List ℕ) → length prefix + 1 < longest_line → is_full prefix ≡ false
unfolding is_full
is_full-below prefix h = ne_eqb (length prefix + 1) longest_line (λ e. absurd (omega arith))

is_full-from : (prefix : List ℕ) → length prefix + 1 ≡ longest_line → is_full prefix ≡ true
unfolding is_full
is_full-from prefix h = eq-eqb (length prefix + 1) longest_line h

is_full-true : (prefix : List ℕ) → is_full prefix ≡ true → length prefix + 1 ≡ longest_line
unfolding is_full
is_full-true prefix h = eqb-true (length prefix + 1) longest_line h

is_full-false : (prefix : List ℕ) → is_full prefix ≡ false → length prefix + 1 ≡ longest_line → ⊥
unfolding is_full
is_full-false prefix h = eqb-false (length prefix + 1) longest_line h

plain-feed : (b : ℕ) → is_line_byte b ≡ true → is_feed b ≡ false
unfolding is_feed
plain-feed b h = not-true _ (and_parts _ _ h).0

plain-escape : (b : ℕ) → is_line_byte b ≡ true → is_escape b ≡ false
unfolding is_escape
plain-escape b h = not-true _ (and_parts _ _ h).1

plain-from : (b : ℕ) → is_feed b ≡ false → is_escape b ≡ false → is_line_byte b ≡ true
unfolding is_feed is_escape
plain-from b h k = and_from _ _ (not_from_false _ h) (not_from_false _ k)

plain-snoc : (text : List ℕ) (b : ℕ) → list_all is_line_byte text ≡ true → is_line_byte b ≡ true → list_all is_line_byte (text ++ (b ∷ [])) ≡ true
plain-snoc [] b h k = and_from _ _ k refl
plain-snoc (x ∷ text) b h k = let p = and_parts (is_line_byte x) (list_all is_line_byte text) h in and_from _ _ p.0 (plain-snoc text b p.1 k)

-- plain bytes are read on, while the line is not full
pub line_prefix : (prefix text z : List ℕ) → list_all is_line_byte text ≡ true → length prefix + length text < longest_line → read_line prefix (text ++ z) ≡ read_line (prefix ++ text) z
line_prefix prefix [] z h short = rw append-nil refl
line_prefix prefix (b ∷ text) z h short =
    let p = and_parts (is_line_byte b) (list_all is_line_byte text) h in
    rw (plain-feed b p.0, plain-escape b p.0, is_full-below prefix (omega arith))
    (line_prefix (prefix ++ (b ∷ [])) text z p.1 (omega (arith, length-append prefix (b ∷ []))) ∙ ap (λ w. read_line w z) (append_assoc prefix (b ∷ []) text))

-- plain bytes that make the line full break it
line_full : (prefix text z : List ℕ) (b : ℕ) → list_all is_line_byte (b ∷ text) ≡ true → length prefix + suc (length text) ≡ longest_line
    → read_line prefix ((b ∷ text) ++ z) ≡ Found (Broken (prefix ++ (b ∷ text))) OverlongLine z
line_full prefix [] z b h full = grind (arith, is_full-from, plain-feed, plain-escape)
line_full prefix (a ∷ text) z b h full =
    let p = and_parts (is_line_byte b) (list_all is_line_byte (a ∷ text)) h in
    rw (plain-feed b p.0, plain-escape b p.0, is_full-below prefix (omega arith))
    (line_full (prefix ++ (b ∷ [])) text z a p.1 (omega (arith, length-append prefix (b ∷ []))) ∙ ap (λ w. Found (Broken w) OverlongLine z) (append_assoc prefix (b ∷ []) (a ∷ text)))

feed_true : is_feed 10 ≡ true
unfolding is_feed
feed_true = refl

-- a whole line is read, and one that breaks
pub line_reads : (u v : List ℕ) → IsPjlLine u → (rest : List ℕ) → stripped pjl_mark (u ++ v) ≡ Some rest → read_line pjl_mark rest ≡ Found (PjlLine u) (mode_after u) v
line_reads u v is rest e = grind (arith, line_prefix, feed_true, append_assoc, length-append)

feed-escape : is_feed escape_byte ≡ false
unfolding is_feed
feed-escape = refl

pub cut_reads : (u v : List ℕ) (later : List ℕ) → BeginsLine u → v ≡ escape_byte ∷ later → length u < longest_line → (rest : List ℕ) → stripped pjl_mark (u ++ v) ≡ Some rest
    → read_line pjl_mark rest ≡ Found (Broken u) Exit v
cut_reads u v later is next short rest e = grind (arith, line_prefix, feed-escape, is_escape-from)

full-at : (text u v : List ℕ) → list_all is_line_byte text ≡ true → u ≡ pjl_mark ++ text → length u ≡ longest_line → read_line pjl_mark (text ++ v) ≡ Found (Broken u) OverlongLine v
full-at [] u v plain mark full = absurd (omega (arith, ap length mark))
full-at (b ∷ text) u v plain mark full = grind (arith, line_full pjl_mark text v b plain (omega (arith, ap length mark)), mark)

pub full_reads : (u v : List ℕ) → BeginsLine u → length u ≡ longest_line → (rest : List ℕ) → stripped pjl_mark (u ++ v) ≡ Some rest → read_line pjl_mark rest ≡ Found (Broken u) OverlongLine v
full_reads u v is full rest e = grind (arith, full-at)

-- what reading a line gives
pub record GaveLine (prefix x : List ℕ) (t : Token) (n : ParserState) (left : List ℕ) : Type 0 where
  pub used : List ℕ
  pub cut : x ≡ used ++ left
  pub what : Stands Exit (prefix ++ used) left t n

begins-more : (prefix : List ℕ) (b : ℕ) → BeginsLine prefix → is_line_byte b ≡ true → BeginsLine (prefix ++ (b ∷ []))
begins-more prefix b is plain = record { text = is.text ++ (b ∷ []); mark = ap (λ w. w ++ (b ∷ [])) is.mark; plain = plain-snoc is.text b is.plain plain }

full-line-at : (prefix : List ℕ) (b : ℕ) (x : List ℕ) (t : Token) (n : ParserState) (left : List ℕ) (full : Bool) → BeginsLine prefix
    → length prefix < longest_line → is_line_byte b ≡ true → is_full prefix ≡ full
    → cond full (Found (Broken (prefix ++ (b ∷ []))) OverlongLine x) (read_line (prefix ++ (b ∷ [])) x) ≡ Found t n left
    → (BeginsLine (prefix ++ (b ∷ [])) → length (prefix ++ (b ∷ [])) < longest_line → read_line (prefix ++ (b ∷ [])) x ≡ Found t n left → GaveLine (prefix ++ (b ∷ [])) x t n left)
    → GaveLine prefix (b ∷ x) t n left
full-line-at prefix b x t n left true is short plain full h ih =
    let command : Broken (prefix ++ (b ∷ [])) ≡ t = cc in
    let mode : OverlongLine ≡ n = cc in
    let rest : x ≡ left = cc in
    let size : length (prefix ++ (b ∷ [])) ≡ longest_line = length-append prefix (b ∷ []) ∙ is_full-true prefix full in
    record {
      used = b ∷ [];
      cut = ap (λ y. b ∷ y) rest;
      what = subst (λ (y : Token). Stands Exit (prefix ++ (b ∷ [])) left y n) command (refl, (begins-more prefix b is plain, inr (size, sym mode)));
    }
full-line-at prefix b x t n left false is short plain full h ih = grind (arith, is_full-false, begins-more, append_assoc, length-append)

escape-line-at : (prefix : List ℕ) (b : ℕ) (x : List ℕ) (t : Token) (n : ParserState) (left : List ℕ) (escape : Bool) → BeginsLine prefix
    → length prefix < longest_line → is_feed b ≡ false → is_escape b ≡ escape
    → cond escape (Found (Broken prefix) Exit (b ∷ x)) (cond (is_full prefix) (Found (Broken (prefix ++ (b ∷ []))) OverlongLine x) (read_line (prefix ++ (b ∷ [])) x)) ≡ Found t n left
    → (BeginsLine (prefix ++ (b ∷ [])) → length (prefix ++ (b ∷ [])) < longest_line → read_line (prefix ++ (b ∷ [])) x ≡ Found t n left → GaveLine (prefix ++ (b ∷ [])) x t n left)
    → GaveLine prefix (b ∷ x) t n left
escape-line-at prefix b x t n left true is short feed escape h ih = grind (arith, append-nil, is_escape-true)
escape-line-at prefix b x t n left false is short feed escape h ih =
    full-line-at prefix b x t n left (is_full prefix) is short (plain-from b feed escape) refl h ih

feed-line-at : (prefix : List ℕ) (b : ℕ) (x : List ℕ) (t : Token) (n : ParserState) (left : List ℕ) (feed : Bool) → BeginsLine prefix → length prefix < longest_line → is_feed b ≡ feed
    → cond feed (Found (PjlLine (prefix ++ (b ∷ []))) (mode_after (prefix ++ (b ∷ []))) x)
    (cond (is_escape b) (Found (Broken prefix) Exit (b ∷ x)) (cond (is_full prefix) (Found (Broken (prefix ++ (b ∷ []))) OverlongLine x) (read_line (prefix ++ (b ∷ [])) x))) ≡ Found t n left
    → (BeginsLine (prefix ++ (b ∷ [])) → length (prefix ++ (b ∷ [])) < longest_line → read_line (prefix ++ (b ∷ [])) x ≡ Found t n left → GaveLine (prefix ++ (b ∷ [])) x t n left)
    → GaveLine prefix (b ∷ x) t n left
feed-line-at prefix b x t n left true is short feed h ih =
    let command : PjlLine (prefix ++ (b ∷ [])) ≡ t = cc in
    let mode : mode_after (prefix ++ (b ∷ [])) ≡ n = cc in
    let rest : x ≡ left = cc in
    let whole : IsPjlLine (prefix ++ (b ∷ [])) =
    record { prefix = prefix; spelled = ap (λ y. prefix ++ (y ∷ [])) (is_feed-true b feed); begins = is; fits = omega (arith, length-append prefix (b ∷ [])) } in
    record {
      used = b ∷ [];
      cut = ap (λ y. b ∷ y) rest;
      what = subst (λ (y : Token). Stands Exit (prefix ++ (b ∷ [])) left y n) command (refl, whole, sym mode);
    }
feed-line-at prefix b x t n left false is short feed h ih = escape-line-at prefix b x t n left (is_escape b) is short feed refl h ih

pub gave-line : (prefix x : List ℕ) (t : Token) (n : ParserState) (left : List ℕ) → BeginsLine prefix → length prefix < longest_line → read_line prefix x ≡ Found t n left → GaveLine prefix x t n left
gave-line prefix [] t n left is short h = cc
gave-line prefix (b ∷ x) t n left is short h =
    feed-line-at prefix b x t n left (is_feed b) is short refl h (λ begins below found. gave-line (prefix ++ (b ∷ [])) x t n left begins below found)
