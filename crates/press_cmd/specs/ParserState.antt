-- The modes in which a stream is split.
use Rattle.std.specs.Prelude.{ℕ}

-- Exit: after a universal exit, where PJL lines may stand. OverlongLine: what is left of a line that is too long.
-- OtherLanguage: another language than PCL. Pcl: PCL. Open: in a PCL sequence of this character and group, after a
-- pair that ended in lower case. (PJL Technical Reference Manual, switching languages; PCL 5 Printer Language
-- Technical Reference Manual, combining escape sequences; OverlongLine is this profile's.)
pub data ParserState : Type 0 where
  Exit : ParserState
  OverlongLine : ParserState
  OtherLanguage : ParserState
  Pcl : ParserState
  Open : ℕ → ℕ → ParserState
