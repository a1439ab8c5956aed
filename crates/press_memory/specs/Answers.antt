-- What a call answers to its caller in C, and what it puts into the caller's room (this profile).
use Rattle.std.specs.Prelude.{◌≡◌, ℕ, List, ◌++◌, length, min, take, drop}
use Rattle.press_memory.specs.declared.answer.RombixelaAnswer.{RombixelaAnswer}

-- Bytes were handed to a room: all of them are counted, as many were put as there is room for, and the room holds these, their front, and
-- behind them what it held there before.
pub record HandedTo (written before after : List ℕ) (answer : RombixelaAnswer) : Type 0 where
  pub bytes : answer.bytes ≡ length written
  pub put : answer.put ≡ min (length written) (length before)
  pub room : after ≡ take answer.put written ++ drop answer.put before

-- A call has bytes of which this holds, with the fault that it answers, and they were handed to the room.
pub record Answers (Has : (fault : ℕ) → (written : List ℕ) → Type 0) (answer : RombixelaAnswer) (before after : List ℕ) : Type 0 where
  pub written : List ℕ
  pub has : Has answer.fault written
  pub handed : HandedTo written before after answer
