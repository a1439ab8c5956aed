-- What a running body that lent a command is afterwards.
use Rattle.std.specs.Prelude.{◌≡◌, drop}
use Rattle.std.specs.Borrow.{Fml, MutBor}
use Rattle.std.specs.Io.BufRead.{Rests}
use Rattle.press_cmd.specs.declared.body.Body.{Body}
use Rattle.press_cmd.specs.contracts.body.Body.{the_row}

-- The body ends as the commands behind the first; as nothing where nothing was left.
abbrev pub KeepsBehindFirst : MutBor Body → Fml
KeepsBehindFirst body = Rests the_row body (λ left. left ≡ drop 1 body.now)
