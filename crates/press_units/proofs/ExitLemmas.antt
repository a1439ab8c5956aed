-- What an exit by `?` answers.
use Rattle.std.proofs.Common.{◌≡◌, Result, Err, arith}
use Rattle.std.specs.Result.{IsErrAnd}

-- it is the error that was met
pub exit-is : {X E : Type 0} {error : E} {answer : Result X E} → IsErrAnd answer (λ e. e ≡ error) → answer ≡ Err error
exit-is is = grind arith

-- so what was asked of has the error that is answered
pub exit-was : {X Y E : Type 0} {error other : E} {asked : Result X E} → asked ≡ Err error → {answer : Result Y E}
    → IsErrAnd answer (λ e. e ≡ error) → answer ≡ Err other → asked ≡ Err other
exit-was was is stops = grind arith
