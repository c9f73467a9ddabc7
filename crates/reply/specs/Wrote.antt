-- Texts and whole replies in a buffer. Assumes nothing.
use Rattle.std.specs.Prelude.{◌≡◌, ℕ, ◌+◌, List, length}
use Rattle.text.specs.Buffer.{put}
use Rattle.ledger.specs.Replies.{listed}

-- the buffer o became o': the reply t in front, the rest as it was, and r bytes were written
pub record Wrote (o o' : List ℕ) (r : ℕ) (t : List ℕ) : Type 0 where
  pub count : r ≡ length t
  pub buffer : o' ≡ put o 0 t

-- the buffer o became o': at a place stand the texts ts, a comma before each, the rest is as it was, and r is the place behind them
pub record Listed (o o' : List ℕ) (at r : ℕ) (ts : List (List ℕ)) : Type 0 where
  pub end : r ≡ at + length (listed ts)
  pub buffer : o' ≡ put o at (listed ts)
