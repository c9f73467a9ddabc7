-- One text behind another. Assumes nothing.
use Rattle.std.proofs.Common.{◌≡◌, ℕ, ◌+◌, ◌-◌, ◌<◌, ◌≤◌, List, [], ◌∷◌, ◌++◌, length, slice_index_or, slice_range, take, drop, sym, refl, ap, ◌∙◌, subst, append_assoc, append-nil, add-zero, arith, length-append, length-drop}
use Rattle.std.proofs.lemmas.List.{take-append-drop, take_more, take_all, get_or-drop, length-take-le}
use Rattle.text.specs.Buffer.{put}
use Rattle.text.specs.Writing.{Puts}
use Rattle.text.specs.declared.writer.Writer.{Writer}
use Rattle.text.proofs.Puts.{puts_both}
use Rattle.ledger.specs.Replies.{listed, reply}
use Rattle.reply.specs.Lists.{Lists}

listed_append : (ts us : List (List ℕ)) → listed (ts ++ us) ≡ listed ts ++ listed us
listed_append [] us = refl
listed_append (t ∷ ts) us = ap (λ z. (44 ∷ t) ++ z) (listed_append ts us) ∙ sym (append_assoc (44 ∷ t) (listed ts) (listed us))

listed_one : (t : List ℕ) → (44 ∷ []) ++ t ≡ listed (t ∷ [])
listed_one t = sym (append-nil (44 ∷ t))

-- a text behind a comma
pub one : (w v u : Writer) (t : List ℕ) → Puts w v (44 ∷ []) → Puts v u t → v.at ≤ length w.out.now → Lists w u (t ∷ [])
one w v u t p q fits = subst (Puts w u) (listed_one t) (puts_both w v u (44 ∷ []) t p q fits)

-- texts behind texts
pub both : (w v u : Writer) (ts us : List (List ℕ)) → Lists w v ts → Lists v u us → v.at ≤ length w.out.now → Lists w u (ts ++ us)
both w v u ts us p q fits = subst (Puts w u) (sym (listed_append ts us)) (puts_both w v u (listed ts) (listed us) p q fits)

-- no text so far, and one field more
pub none_yet : (w : Writer) (ts : List (List ℕ)) (k : ℕ) → k ≡ 0 → Lists w w (take k ts)
none_yet w ts k e =
    let none : take k ts ≡ [] = ap (λ n. take n ts) e in
    record {
      same_buffer = refl;
      end = omega arith ∙ ap (λ z. w.at + length (listed z)) (sym none);
      buffer = sym (take-append-drop w.at w.out.now) ∙ ap (λ n. take w.at w.out.now ++ drop n w.out.now) (sym (add-zero w.at)) ∙ ap (λ z. put w.out.now w.at (listed z)) (sym none);
    }

field_there : (ts : List (List ℕ)) (from f : ℕ) → from ≤ f → f < length ts → take (f - from) (drop from ts) ++ (slice_index_or ts f [] ∷ []) ≡ take (f + 1 - from) (drop from ts)
field_there ts from f h l =
    let k : f + 1 - from ≡ f - from + 1 = omega arith in
    let here : slice_index_or (drop from ts) (f - from) [] ≡ slice_index_or ts f [] = get_or-drop from ts (f - from) [] ∙ ap (λ n. slice_index_or ts n []) (omega arith) in
    sym (ap (λ n. take n (drop from ts)) k ∙ take_more (drop from ts) (f - from) [] (simp length-drop (omega arith)) ∙ ap (λ t. take (f - from) (drop from ts) ++ (t ∷ [])) here)

pub field_on : (w v u : Writer) (ts : List (List ℕ)) (from f : ℕ) → from ≤ f → f < length ts → Lists w v (take (f - from) (drop from ts)) → Lists v u (slice_index_or ts f [] ∷ []) → v.at ≤ length w.out.now → Lists w u (take (f + 1 - from) (drop from ts))
field_on w v u ts from f h l p q fits = subst (Lists w u) (field_there ts from f h l) (both w v u (take (f - from) (drop from ts)) (slice_index_or ts f [] ∷ []) p q fits)

-- the parts of a record's reply, in a row
pub parts_joined : (l p ts : List (List ℕ)) (first count : ℕ) → length ts ≤ count → first ≤ count → ((l ++ slice_range ts 0 first) ++ p) ++ slice_range ts first count ≡ l ++ (take first ts ++ (p ++ drop first ts))
parts_joined l p ts first count all order =
    let front : take (first - 0) (drop 0 ts) ≡ take first ts = ap (λ n. take n ts) (omega arith) in
    let back : take (count - first) (drop first ts) ≡ drop first ts = take_all (count - first) (drop first ts) (simp length-drop (omega arith)) in
    ap (λ z. ((l ++ z) ++ p) ++ take (count - first) (drop first ts)) front ∙ ap (λ z. ((l ++ take first ts) ++ p) ++ z) back ∙ append_assoc (l ++ take first ts) p (drop first ts) ∙ append_assoc l (take first ts) (p ++ drop first ts)

-- a command's letters, texts, and the end of the line
pub replied : (w v u x : Writer) (name : List ℕ) (ts : List (List ℕ)) → Puts w v name → Lists v u ts → Puts u x (13 ∷ []) → u.at ≤ length w.out.now → Puts w x (reply name ts)
replied w v u x name ts p q r fits =
    subst (Puts w x) (append_assoc name (listed ts) (13 ∷ []))
    (puts_both w u x (name ++ listed ts) (13 ∷ []) (puts_both w v u name (listed ts) p q (omega (arith, q.end, fits))) r fits)

pub length-put : (o a : List ℕ) (at : ℕ) → at + length a ≤ length o → length (put o at a) ≡ length o
length-put o a at h =
    length-append (take at o) _ ∙ ap (λ n. length (take at o) + n) (length-append a _) ∙ omega (arith, length-take-le at o (omega arith), length-drop (at + length a) o)

-- a buffer keeps its length
pub puts_length : (w v : Writer) (a : List ℕ) → Puts w v a → v.at ≤ length w.out.now → length v.out.now ≡ length w.out.now
puts_length w v a p fits = ap length p.buffer ∙ length-put w.out.now a w.at (omega (arith, p.end, fits))

-- the same where the letters and the first texts were written at once
pub replied_on : (w v u x : Writer) (name : List ℕ) (ts us : List (List ℕ)) → Puts w v (name ++ listed ts) → Lists v u us → Puts u x (13 ∷ []) → u.at ≤ length w.out.now → Puts w x (reply name (ts ++ us))
replied_on w v u x name ts us p q r fits =
    let all : (name ++ listed ts) ++ listed us ≡ name ++ listed (ts ++ us) = append_assoc name (listed ts) (listed us) ∙ ap (λ z. name ++ z) (sym (listed_append ts us)) in
    let both = subst (Puts w u) all (puts_both w v u (name ++ listed ts) (listed us) p q (omega (arith, q.end, fits))) in
    subst (Puts w x) (append_assoc name (listed (ts ++ us)) (13 ∷ [])) (puts_both w u x (name ++ listed (ts ++ us)) (13 ∷ []) both r fits)
