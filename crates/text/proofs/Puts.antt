-- Laws of text put into a buffer. Assumes nothing.
use Rattle.std.proofs.Common.{◌≡◌, ℕ, ◌+◌, ◌≤◌, List, ◌++◌, length, take, drop, sym, ap, ◌∙◌, append_assoc, arith, length-append}
use Rattle.std.proofs.lemmas.List.{drop-drop, take_at, drop_at, length-take-le}
use Rattle.text.specs.Buffer.{put}
use Rattle.text.specs.Writing.{Puts}
use Rattle.text.specs.declared.writer.Writer.{Writer}

-- one text after another
pub put_put : (o a b : List ℕ) (at : ℕ) → at + length a ≤ length o → put (put o at a) (at + length a) b ≡ put o at (a ++ b)
put_put o a b at h =
    let split : put o at a ≡ (take at o ++ a) ++ drop (at + length a) o = sym (append_assoc (take at o) a (drop (at + length a) o)) in
    let long : length (take at o ++ a) ≡ at + length a = length-append (take at o) a ∙ ap (λ n. n + length a) (length-take-le at o (omega arith)) in
    let front : take (at + length a) (put o at a) ≡ take at o ++ a = ap (take (at + length a)) split ∙ take_at (take at o ++ a) (drop (at + length a) o) (at + length a) long in
    let back : drop (at + length a) (put o at a) ≡ drop (at + length a) o = ap (drop (at + length a)) split ∙ drop_at (take at o ++ a) (drop (at + length a) o) (at + length a) long in
    let rest : drop (at + length a + length b) (put o at a) ≡ drop (at + length a + length b) o = sym (drop-drop (length b) (at + length a) (put o at a)) ∙ ap (drop (length b)) back ∙ drop-drop (length b) (at + length a) o in
    let sum : at + length a + length b ≡ at + length (a ++ b) = omega (arith, length-append a b) in
    ap (λ z. z ++ (b ++ drop (at + length a + length b) (put o at a))) front ∙ ap (λ z. (take at o ++ a) ++ (b ++ z)) rest ∙ append_assoc (take at o) a (b ++ drop (at + length a + length b) o) ∙ ap (λ z. take at o ++ z) (sym (append_assoc a b (drop (at + length a + length b) o))) ∙ ap (λ n. take at o ++ ((a ++ b) ++ drop n o)) sum

join : (o o₁ o₂ a b : List ℕ) (at next : ℕ) → o₁ ≡ put o at a → next ≡ at + length a → o₂ ≡ put o₁ next b → at + length a ≤ length o → o₂ ≡ put o at (a ++ b)
join o o₁ o₂ a b at next e₁ n e₂ fits = e₂ ∙ ap (λ z. put z next b) e₁ ∙ ap (λ k. put (put o at a) k b) n ∙ put_put o a b at fits

-- what a writer wrote, one text behind another
pub puts_both : (w v u : Writer) (a b : List ℕ) → Puts w v a → Puts v u b → v.at ≤ length w.out.now → Puts w u (a ++ b)
puts_both w v u a b p q fits =
    record {
      same_buffer = q.same_buffer ∙ p.same_buffer;
      end = omega (arith, p.end, q.end, length-append a b);
      buffer = join w.out.now v.out.now u.out.now a b w.at v.at p.buffer p.end q.buffer (omega (arith, p.end, fits));
    }
