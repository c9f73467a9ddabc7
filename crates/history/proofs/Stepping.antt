-- What holds of a store and a reply after a line: by the refusals and by what each command does. Assumes nothing.
use Rattle.std.proofs.Common.{◌≡◌, ℕ, true, false, cond, ltb, List, length, Some, None, Option, sym, refl, subst, inl, inr}
use Rattle.make.specs.Data.{MakeSpec}
use Rattle.ledger.specs.declared.command.Command.{Command}
use Rattle.ledger.specs.Limits.{longest_line, least_buffer}
use Rattle.ledger.specs.Commands.{takes_of, allowed, counts}
use Rattle.ledger.specs.Ledger.{Ledger, Store}
use Rattle.ledger.specs.Replies.{orer, err, ng}
use Rattle.ledger.specs.Steps.{done}
use Rattle.ledger.specs.Lines.{printable, command, fields, mode_after, refuses, does, counted, known, step}
use Rattle.ledger.specs.Runs.{Given, Told, short, said, told, next}
use Rattle.history.specs.Course.{Refusal, Moved}
use Rattle.history.proofs.Silence.{Silent, silent_err, silent_ng, silent_orer}

module _ (S : MakeSpec) (L : Ledger) (g : Given) (P : Store → Told → Type 0) (no : (t : Told) → Refusal t → P L.store t) (yes : (c : Command) → command g.line ≡ Some c → P (done S L.store c (fields g.line)).next (said (done S L.store c (fields g.line)).said)) where
  by_command : (o : Option Command) → command g.line ≡ o → P (known S L o (fields g.line)).next.store (said (known S L o (fields g.line)).said)
  by_command None e = no (said err) (inr (inl refl))
  by_command (Some c) e = elim (allowed L.mode c) as (λ b. P (cond b (counted S L c (fields g.line)) (refuses L ng)).next.store (said (cond b (counted S L c (fields g.line)) (refuses L ng)).said)) [
    | true ↦ elim (counts S (takes_of c) (length (fields g.line))) as (λ b. P (cond b (does (mode_after L.mode c) (done S L.store c (fields g.line))) (refuses L err)).next.store (said (cond b (does (mode_after L.mode c) (done S L.store c (fields g.line))) (refuses L err)).said)) [
      | true ↦ yes c e
      | false ↦ no (said err) (inr (inl refl))
    ]
    | false ↦ no (said ng) (inr (inr refl))
  ]

  by_line : P (step S L g.line).next.store (said (step S L g.line).said)
  by_line = elim (ltb longest_line (length g.line)) as (λ b. P (cond b (refuses L orer) (cond (printable g.line) (known S L (command g.line) (fields g.line)) (refuses L err))).next.store (said (cond b (refuses L orer) (cond (printable g.line) (known S L (command g.line) (fields g.line)) (refuses L err))).said)) [
    | true ↦ no (said orer) (inl refl)
    | false ↦ elim (printable g.line) as (λ b. P (cond b (known S L (command g.line) (fields g.line)) (refuses L err)).next.store (said (cond b (known S L (command g.line) (fields g.line)) (refuses L err)).said)) [
      | true ↦ by_command (command g.line) refl
      | false ↦ no (said err) (inr (inl refl))
    ]
  ]

  -- number 1, a refusal, or what the command does
  by_room : P (next S L g).store (told S L g)
  by_room = elim (ltb g.room least_buffer) as (λ b. P (cond b L (step S L g.line).next).store (cond b short (said (step S L g.line).said))) [ true ↦ no short tt | false ↦ by_line ]

-- number 1, or a reply that tells nothing
abbrev pub Quiet : Told → Type 0
Quiet short = Unit {0}
Quiet (said r) = Silent r

-- a refusal tells nothing
quiet : (t : Told) → Refusal t → Quiet t
quiet short r = tt
quiet (said r) (inl e) = subst Silent (sym e) silent_orer
quiet (said r) (inr (inl e)) = subst Silent (sym e) silent_err
quiet (said r) (inr (inr e)) = subst Silent (sym e) silent_ng

-- a line given whole
pub moved : (S : MakeSpec) (L : Ledger) (g : Given) → Moved S L.store g.line (next S L g).store (told S L g)
moved S L g = by_room S L g (λ M t. Moved S L.store g.line M t) (λ t r. inl (record { same = refl; refusal = r })) (λ c e. inr (record { by = c; is = e; store = refl; answer = refl }))

-- what holds after a line, by the refusals and by what each command does
module _ (S : MakeSpec) (L : Store) (line : List ℕ) (P : Store → Told → Type 0) (no : (t : Told) → Quiet t → P L t) (yes : (c : Command) → command line ≡ Some c → P (done S L c (fields line)).next (said (done S L c (fields line)).said)) where
  pub by_move : (L' : Store) (t : Told) → Moved S L line L' t → P L' t
  by_move L' t (inl r) = subst (λ M. P M t) (sym r.same) (no t (quiet t r.refusal))
  by_move L' t (inr d) = subst (λ M. P M t) (sym d.store) (subst (λ z. P (done S L d.by (fields line)).next z) (sym d.answer) (yes d.by d.is))
