-- What a writer did. Assumes nothing.
use Rattle.std.specs.Prelude.{◌≡◌, ℕ, ◌+◌, List, length}
use Rattle.text.specs.Buffer.{put}
use Rattle.text.specs.declared.writer.Writer.{Writer}

-- the text t was written behind what was there
pub record Puts (w w' : Writer) (t : List ℕ) : Type 0 where
  pub same_buffer : w'.out.ghost_name ≡ w.out.ghost_name
  pub end : w'.at ≡ w.at + length t
  pub buffer : w'.out.now ≡ put w.out.now w.at t
