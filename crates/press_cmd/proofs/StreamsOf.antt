-- Each command of the code is one of some stream.
use Rattle.std.proofs.Common.{◌≡◌, ◌<◌, ◌≤◌, ◌+◌, ◌∙◌, ℕ, zero, suc, List, [], ◌∷◌, ◌++◌, length, true, cond, Option, Some}
use Rattle.std.proofs.Common.{None, refl, sym, ap, subst, inl, inr, arith, eqb, replicate, lit<, lit≤}
use Rattle.std.specs.Prelude.{codes}
use Rattle.std.specs.List.{list_all}
use Rattle.std.proofs.lemmas.List.{append-nil, length-replicate}
use Rattle.std.proofs.lemmas.Bool.{ne_eqb, le-ltb, cases_eq, cases_lt}
use mathlib.Core.Logic.{∥∥₁_map}
use Rattle.press_cmd.specs.Token.{Token, Escape, Grouped, Ungrouped, Control, Text, Broken, Uel, PjlLine, ForeignByte, bytes_of, param_of, broken_of, uel, escape_byte, pjl_mark}
use Rattle.press_cmd.specs.ParserState.{ParserState, Exit, OverlongLine, OtherLanguage, Pcl}
use Rattle.press_cmd.specs.Grammar.{Whole, Head, GoesOn, IsPjlLine, BeginsLine, IsBroken, is_line_byte, differs, longest_line}
use Rattle.press_cmd.specs.Language.{mode_after}
use Rattle.press_cmd.specs.Split.{closing}
use Rattle.press_cmd.proofs.Reading.{Reading, Short, Found, reading, read_on, Start, is_escape}
use Rattle.press_cmd.specs.Streams.{IsCommand}
use Rattle.press_cmd.specs.View.{token}
use Rattle.press_cmd.specs.declared.command.Command.{Command}
use Rattle.press_cmd.specs.declared.command.Command.TheVariants as commands
use Rattle.press_cmd.proofs.ReadWhole.{whole_reads, stable}
use Rattle.press_cmd.proofs.ReadLine.{line_prefix}
use Rattle.press_cmd.proofs.Heads.{no_end, short-NoHead}
use Rattle.press_cmd.proofs.Splits.{closing-nothing, no_head_of_nothing}
use Rattle.press_cmd.proofs.LineTest.{IsPjlLine-known}
use Rattle.press_cmd.proofs.ReadBack.{param-Whole, line-Head}

-- a stream of one command, at its front
one_command : (u : List ℕ) (t : Token) (n : ParserState) → Head Exit u [] t n → IsCommand t
one_command u t n head = (
  u,
  t ∷ [],
  (t ∷ [], n, [], record { steps = (u, [], n, sym (append-nil u), head, (refl, refl)); short = no_head_of_nothing n }, ap (λ x. t ∷ x) (sym (closing-nothing n))),
  (0, lit< tt, refl),
)

-- a stream of one command after another
second_command : (x u : List ℕ) (s t : Token) (m n : ParserState) → Head Exit x u s m → Head m u [] t n → IsCommand t
second_command x u s t m n first head = (
  x ++ u,
  s ∷ t ∷ [],
  (s ∷ t ∷ [], n, [], record { steps = (x, u, m, refl, first, (u, [], n, sym (append-nil u), head, (refl, refl))); short = no_head_of_nothing n }, ap (λ y. s ∷ t ∷ y) (sym (closing-nothing n))),
  (1, lit< tt, refl),
)

-- a stream that is a rest
rest_command : (u : List ℕ) (t : Token) → reading Exit u ≡ Short → closing Exit u ≡ t ∷ [] → IsCommand t
rest_command u t short stands =
    (u, t ∷ [], ([], Exit, u, record { steps = (refl, refl); short = short-NoHead Exit u short }, sym stands), (0, lit< tt, refl))

text-IsCommand : (b : ℕ) → (32 ≤ b) × (b ≤ 255) → IsCommand (Text b)
text-IsCommand b class =
    elim (cases_eq b 64) [
      | inl e ↦ subst (λ (x : ℕ). IsCommand (Text x)) (sym e) (rest_command (64 ∷ []) (Text 64) refl refl)
      | inr other ↦ one_command (b ∷ []) (Text b) Pcl (grind (arith, class, refl, refl))
    ]

param-IsCommand : (c : ℕ) (g : Option ℕ) (f : List ℕ) (e : ℕ) (d : List ℕ) → Whole Pcl (bytes_of (param_of c g f e d)) (param_of c g f e d) Pcl → IsCommand (param_of c g f e d)
param-IsCommand c None f e d w = one_command (bytes_of (Ungrouped c f e d)) (Ungrouped c f e d) Pcl w
param-IsCommand c (Some g) f e d w = one_command (bytes_of (Grouped c g f e d)) (Grouped c g f e d) Pcl w

-- ---- foreign bytes come after a line that enters another language

foreign_line : List ℕ
foreign_line = codes "@PJL ENTER LANGUAGE=X\n"

foreign_line-IsPjlLine : IsPjlLine foreign_line
unfolding foreign_line
foreign_line-IsPjlLine =
    record { prefix = codes "@PJL ENTER LANGUAGE=X"; spelled = refl; begins = record { text = codes " ENTER LANGUAGE=X"; mark = refl; plain = refl }; fits = lit≤ tt }

foreign_line-mode : mode_after foreign_line ≡ OtherLanguage
unfolding foreign_line
foreign_line-mode = refl

foreign_line-Head : (v : List ℕ) → Head Exit foreign_line v (PjlLine foreign_line) OtherLanguage
foreign_line-Head v = subst (λ (k : ParserState). Head Exit foreign_line v (PjlLine foreign_line) k) foreign_line-mode (line-Head foreign_line foreign_line-IsPjlLine v)

foreign-IsCommand : (b : ℕ) → IsCommand (ForeignByte b)
foreign-IsCommand b =
    elim (cases_eq b 27) [
      | inl e ↦ subst (λ (x : ℕ). IsCommand (ForeignByte x)) (sym e) (
        foreign_line ++ (27 ∷ []),
        PjlLine foreign_line ∷ ForeignByte 27 ∷ [],
        (
          PjlLine foreign_line ∷ [],
          OtherLanguage,
          27 ∷ [],
          record { steps = (foreign_line, 27 ∷ [], OtherLanguage, refl, foreign_line-Head (27 ∷ []), (refl, refl)); short = short-NoHead OtherLanguage (27 ∷ []) refl },
          refl,
        ),
        (1, lit< tt, refl),
      )
      | inr other ↦ second_command foreign_line (b ∷ []) (PjlLine foreign_line) (ForeignByte b) OtherLanguage OtherLanguage (foreign_line-Head (b ∷ []))
          (refl, ap (λ d. cond d (differs (37 ∷ 45 ∷ 49 ∷ 50 ∷ 51 ∷ 52 ∷ 53 ∷ 88 ∷ []) []) true) (ne_eqb 27 b (λ e. other (sym e))), refl)
    ]

-- ---- broken bytes

short-line : (text : List ℕ) → list_all is_line_byte text ≡ true → 4 + length text < longest_line → reading Exit (pjl_mark ++ text) ≡ Short
short-line text plain short = grind (arith, append-nil text, line_prefix pjl_mark text [] plain (omega arith))

line-closing : (text : List ℕ) → closing Exit (pjl_mark ++ text) ≡ Broken (pjl_mark ++ text) ∷ []
line-closing text = rw (le-ltb (length (pjl_mark ++ text)) 4 (omega arith)) refl

line-IsCommand : (u : List ℕ) → BeginsLine u → length u ≤ longest_line → IsCommand (Broken u)
line-IsCommand u is fits =
    elim (cases_lt (length u) longest_line) [
      | inl short ↦ subst (λ (x : List ℕ). IsCommand (Broken x)) (sym is.mark)
          (rest_command (pjl_mark ++ is.text) (Broken (pjl_mark ++ is.text)) (short-line is.text is.plain (omega (arith, ap length is.mark))) (line-closing is.text))
      | inr full ↦ one_command u (Broken u) OverlongLine (grind arith)
    ]

-- a line of 4,096 bytes
long_line : List ℕ
long_line = pjl_mark ++ replicate 4092 0

zeros-plain : (n : ℕ) → list_all is_line_byte (replicate n 0) ≡ true
zeros-plain zero = refl
zeros-plain (suc n) = zeros-plain n

long_line-BeginsLine : BeginsLine long_line
unfolding long_line
long_line-BeginsLine = record { text = replicate 4092 0; mark = refl; plain = zeros-plain 4092 }

long_line-length : length long_line ≡ longest_line
unfolding long_line
long_line-length = ap (λ n. suc (suc (suc (suc n)))) (length-replicate {A = ℕ} 4092 0)

escape-Short : reading Exit (27 ∷ []) ≡ Short
unfolding is_escape
escape-Short = refl

byte-IsCommand : (b : ℕ) → IsCommand (Broken (b ∷ []))
byte-IsCommand b =
    elim (cases_eq b 27) [
      | inl e ↦ subst (λ (x : ℕ). IsCommand (Broken (x ∷ []))) (sym e) (rest_command (27 ∷ []) (Broken (27 ∷ [])) escape-Short refl)
      | inr other ↦ second_command long_line (b ∷ []) (Broken long_line) (Broken (b ∷ [])) OverlongLine (cond (eqb b 10) Exit OverlongLine)
          (grind (arith, long_line-BeginsLine, long_line-length)) (grind arith)
    ]

-- what goes on begins with the escape character
pub goes_on-escape : (b : ℕ) (u : List ℕ) (x : ℕ) (more : List ℕ) (t : Token) (n : ParserState) → Whole Pcl ((b ∷ u) ++ (x ∷ more)) t n → b ≡ 27
goes_on-escape b u x more t n w = grind (arith, no_end)

unfinished-at : (u : List ℕ) (x : ℕ) (more : List ℕ) (t : Token) (n : ParserState) (a : Reading) → Whole Pcl (u ++ (x ∷ more)) t n → read_on Start u ≡ a → a ≡ Short
unfinished-at u x more t n Short w e = refl
unfinished-at u x more t n (Found t' n' left) w e =
    grind (arith, append-nil (u ++ (x ∷ more)), whole_reads Pcl (u ++ (x ∷ more)) t n [] w, stable Start u (x ∷ more) t' n' left e, no_end left x more)

cut-IsCommand : (u : List ℕ) → (u ≡ [] → ⊥) → GoesOn Pcl u → IsCommand (Broken u)
cut-IsCommand [] some_ on = absurd (some_ refl)
cut-IsCommand (b ∷ u) some_ on =
    let escape = goes_on-escape b u on.0 on.1 on.2 on.3 on.4 in
    let short : read_on Start (b ∷ u) ≡ Short = unfinished-at (b ∷ u) on.0 on.1 on.2 on.3 _ on.4 refl in
    rw escape (rest_command (27 ∷ u) (Broken (27 ∷ u)) (ap (λ x. read_on Start (x ∷ u)) (sym escape) ∙ short) refl)

broken-IsCommand : (bytes : List ℕ) → IsBroken bytes → IsCommand (Broken bytes)
broken-IsCommand [] (inl h) = absurd (omega arith)
broken-IsCommand (b ∷ []) (inl h) = byte-IsCommand b
broken-IsCommand (b ∷ c ∷ u) (inl h) = absurd (omega arith)
broken-IsCommand bytes (inr (inl h)) = line-IsCommand bytes h.0 h.1
broken-IsCommand bytes (inr (inr h)) = cut-IsCommand bytes h.0 h.1

broken-command : (sequence : Option (ℕ × ℕ)) (bytes : List ℕ) → ∥ IsBroken (bytes_of (broken_of sequence bytes)) ∥₁ → ∥ IsCommand (broken_of sequence bytes) ∥₁
broken-command None bytes h = ∥∥₁_map h (broken-IsCommand bytes)
broken-command (Some s) bytes h = ∥∥₁_map h (broken-IsCommand (escape_byte ∷ s.0 ∷ s.1 ∷ bytes))

-- Each command of the code is one of some stream.
pub of_some_stream : (command : Command) → ∥ IsCommand (token command) ∥₁
of_some_stream (commands.Escape b) = ∣ one_command (27 ∷ b.byte ∷ []) (Escape b.byte) Pcl (b.class, refl, refl) ∣₁
of_some_stream (commands.Param p) =
    ∣ param-IsCommand p.character p.group p.field.now p.end p.payload.now
    (param-Whole p.character p.group p.field.now p.end p.payload.now p.character_class p.group_class p.value_field p.end_class p.count p.no_exit) ∣₁
of_some_stream (commands.Control b) =
    ∣ one_command (b.byte ∷ []) (Control b.byte) Pcl (grind (arith, b.class, refl, refl)) ∣₁
of_some_stream (commands.Text b) = ∣ text-IsCommand b.byte b.class ∣₁
of_some_stream (commands.Broken broken) = broken-command broken.sequence broken.bytes.now broken.broken
of_some_stream commands.Uel = ∣ one_command uel Uel Exit (refl, refl) ∣₁
of_some_stream (commands.PjlLine line) =
    let is = IsPjlLine-known line.bytes.now line.line in
    ∣ one_command line.bytes.now (PjlLine line.bytes.now) (mode_after line.bytes.now) (line-Head line.bytes.now is []) ∣₁
of_some_stream (commands.Foreign b) = ∣ foreign-IsCommand b ∣₁
