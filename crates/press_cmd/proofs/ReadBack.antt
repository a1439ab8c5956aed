-- The written bytes of a command are read as the command.
use Rattle.std.proofs.Common.{◌≡◌, ℕ, List, [], ◌∷◌, ◌++◌, length, false, cond, Option, Some, None, refl, sym, ap, subst, IsTrue, arith}
use Rattle.press_cmd.specs.Token.{Token, Escape, Control, Text, Uel, PjlLine, bytes_of, param_of, uel, pjl_mark}
use Rattle.press_cmd.specs.ParserState.{ParserState, Exit, Pcl}
use Rattle.press_cmd.specs.Grammar.{Whole, Head, Stands, IsCharacter, IsGroup, IsEnd, IsPjlLine, differs}
use Rattle.std.specs.Option.{ForSome}
use Rattle.press_cmd.specs.Carried.{data_count}
use Rattle.press_units.specs.Field.{is_value_field}
use Rattle.press_cmd.specs.Language.{mode_after}
use Rattle.press_cmd.specs.Split.{BeginsSplit, ReadsBack, IsReadBack}
use Rattle.press_cmd.specs.View.{token}
use Rattle.press_cmd.specs.declared.command.Command.{Command}
use Rattle.press_cmd.specs.declared.command.Command.TheVariants as commands
use Rattle.press_units.proofs.FieldTest.{IsField-from_test}
use Rattle.press_cmd.proofs.Heads.{one_head}
use Rattle.press_cmd.proofs.LineTest.{IsPjlLine-known}

-- where a command is a Head whatever follows, the split begins with it
begins_split : (from : ParserState) (t : Token) (n : ParserState) → ((v : List ℕ) → Head from (bytes_of t) v t n) → BeginsSplit from t
begins_split from t n head v [] mode rest s = grind arith
begins_split from t n head v (c ∷ others) mode rest s = grind (arith, one_head)

reads_back : (from : ParserState) (t : Token) (n : ParserState) → ((v : List ℕ) → Head from (bytes_of t) v t n) → ReadsBack from t n
reads_back from t n head = record { head = head; split = begins_split from t n head }

-- a parameter by itself is a whole command of PCL
pub param-Whole : (c : ℕ) (g : Option ℕ) (f : List ℕ) (e : ℕ) (d : List ℕ) → IsCharacter c → ForSome g IsGroup → IsTrue (is_value_field f) → IsEnd e
    → length d ≡ data_count c g f e → (bytes_of (param_of c g f e d) ≡ uel → ⊥) → Whole Pcl (bytes_of (param_of c g f e d)) (param_of c g f e d) Pcl
param-Whole c None f e d is group field end count differs = grind (arith, IsField-from_test)
param-Whole c (Some g) f e d is group field end count differs = grind (arith, IsField-from_test)

param-read_back : (c : ℕ) (g : Option ℕ) (f : List ℕ) (e : ℕ) (d : List ℕ) → Whole Pcl (bytes_of (param_of c g f e d)) (param_of c g f e d) Pcl → IsReadBack (param_of c g f e d)
param-read_back c g f e d w = grind (arith, reads_back)

at_mark : (u v : List ℕ) → IsPjlLine u → differs pjl_mark (u ++ v) ≡ false
at_mark u v is = grind (arith, is.spelled, is.begins.mark)

-- a PJL line is a Head in mode Exit
pub line-Head : (u : List ℕ) → IsPjlLine u → (v : List ℕ) → Head Exit u v (PjlLine u) (mode_after u)
line-Head u is v = subst (λ (k : ParserState). Stands k u v (PjlLine u) (mode_after u)) (ap (λ d. cond d Pcl Exit) (sym (at_mark u v is))) (refl, is, refl)

line-read_back : (u : List ℕ) → IsPjlLine u → ReadsBack Exit (PjlLine u) (mode_after u)
line-read_back u is = reads_back Exit (PjlLine u) (mode_after u) (line-Head u is)

pub read_back : (command : Command) → IsReadBack (token command)
read_back (commands.Escape b) = reads_back Pcl (Escape b.byte) Pcl (λ v. (b.class, refl, refl))
read_back (commands.Param p) = grind (arith, param-Whole, param-read_back)
read_back (commands.Control b) = reads_back Pcl (Control b.byte) Pcl (λ v. (b.class, refl, refl))
read_back (commands.Text b) = reads_back Pcl (Text b.byte) Pcl (λ v. (b.class, refl, refl))
read_back (commands.Broken broken) = grind arith
read_back commands.Uel = reads_back Pcl Uel Exit (λ v. (refl, refl))
read_back (commands.PjlLine line) = line-read_back line.bytes.now (IsPjlLine-known line.bytes.now line.line)
read_back (commands.Foreign byte) = tt
