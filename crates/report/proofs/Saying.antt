-- A reply at the front of a buffer. Assumes nothing.
use Rattle.std.proofs.Common.{◌≡◌, ℕ, ◌+◌, ◌≤◌, min, if◌then◌else◌, Ok, Err, List, [], ◌∷◌, ◌++◌, length, take, drop, sym, ap, ◌∙◌, ⊎_elim, append_assoc, arith, length-append, length-drop}
use Rattle.std.proofs.lemmas.List.{take_at, take_all, length-take-le}
use Rattle.std.proofs.lemmas.Bool.{le-ltb, cases_lt}
use Rattle.text.specs.Buffer.{put}
use Rattle.ledger.specs.declared.answer.CallError.TheVariants.{ShortBuffer}
use Rattle.ledger.specs.Ledger.{Ledger}
use Rattle.ledger.specs.Answers.{answer_of, buffer_of, next_of}
use Rattle.ledger.specs.Lines.{step}
use Rattle.make.specs.Data.{MakeSpec}
use Rattle.reply.specs.Wrote.{Wrote}
use Rattle.report.specs.Report.{lines_from, replies, behind}

-- a buffer that is long enough gets a reply
pub record Said (o o' t : List ℕ) (n : ℕ) : Type 0 where
  pub within : n ≤ length o
  pub said : take n o' ≡ t

-- it is answered by the count of that reply's bytes
pub answered : (o t : List ℕ) → 600 ≤ length o → answer_of o t ≡ Ok (length t)
answered o t h = ap (λ z. if z then Err ShortBuffer else Ok (length t)) (le-ltb (length o) 600 h)

pub reply_said : (o o' t : List ℕ) (n : ℕ) → 600 ≤ length o → length o' ≡ length o → n ≡ length t → o' ≡ buffer_of o t → Said o o' t n
reply_said o o' t n h long same b =
    let b' : o' ≡ t ++ drop (0 + length t) o = b ∙ ap (λ z. if z then o else put o 0 t) (le-ltb (length o) 600 h) in
    let l = ap length b' ∙ length-append t (drop (0 + length t) o) in
    record { within = omega (arith, same, l, long, length-drop (0 + length t) o); said = ap (take n) b' ∙ take_at t (drop (0 + length t) o) n (sym same) }

pub next_of_lem : (o : List ℕ) (L N : Ledger) → 600 ≤ length o → next_of o L N ≡ N
next_of_lem o L N h = ap (λ b. if b then L else N) (le-ltb (length o) 600 h)

-- one line more is answered
pub line_said : (S : MakeSpec) (L L' : Ledger) (o o' t rest rest' : List ℕ) → lines_from [] rest ≡ take 257 t ∷ lines_from [] rest' → o' ≡ o ++ (step S L (take 257 t)).said → L' ≡ (step S L (take 257 t)).next → (o' ++ replies S L' (lines_from [] rest') ≡ o ++ replies S L (lines_from [] rest)) × (behind S L' (lines_from [] rest') ≡ behind S L (lines_from [] rest))
line_said S L L' o o' t rest rest' cut say next = (
  ap (λ z. z ++ replies S L' (lines_from [] rest')) say ∙ ap (λ (K : Ledger). (o ++ (step S L (take 257 t)).said) ++ replies S K (lines_from [] rest')) next ∙ append_assoc o (step S L (take 257 t)).said (replies S (step S L (take 257 t)).next (lines_from [] rest')) ∙ ap (λ z. o ++ replies S L z) (sym cut),
  ap (λ (K : Ledger). behind S K (lines_from [] rest')) next ∙ ap (behind S L) (sym cut),
)

-- a line that was copied to the front of a buffer
pub copied : (t b x : List ℕ) (len : ℕ) → len ≡ min (length t) 257 → x ≡ take len t → take len (x ++ drop len b) ≡ take 257 t
copied t b x len m e =
    let long : length x ≡ len = ap length e ∙ length-take-le len t (omega (arith, m)) in
    take_at x (drop len b) len long ∙ e ∙ ⊎_elim (λ h. let whole : len ≡ 257 = omega (arith, m, h) in ap (λ j. take j t) whole) (λ h. take_all len t (omega (arith, m, h)) ∙ sym (take_all 257 t (omega (arith, h)))) (cases_lt 257 (length t))

-- a whole line of the sheet at the front of a buffer
pub front_said : (o o' t : List ℕ) (n : ℕ) → Wrote o o' n t → length o' ≡ length o → Said o o' t n
front_said o o' t n w long =
    let l = ap length w.buffer ∙ length-append t (drop (0 + length t) o) in
    record { within = omega (arith, w.count, l, long, length-drop (0 + length t) o); said = ap (take n) w.buffer ∙ take_at t (drop (0 + length t) o) n (sym w.count) }
