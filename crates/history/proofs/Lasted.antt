-- A promise of the ledger is a promise of its account. Assumes nothing.
use Rattle.std.proofs.Common.{◌≡◌, ℕ, ◌+◌, ◌-◌, ◌<◌, ◌≤◌, true, List, [], ◌∷◌, reverse, length, get_or, decimal, sym, refl, ap, ◌∙◌, subst, inl, inr, arith}
use Rattle.std.proofs.lemmas.Bool.{lt-ltb}
use Rattle.make.specs.Data.{MakeSpec}
use Rattle.make.specs.Rules.{Keeps}
use Rattle.chain.specs.declared.link.Branch.TheVariants.{First, Second}
use Rattle.chain.specs.declared.link.Chain.TheVariants.{Root}
use Rattle.chain.specs.Entry.{number}
use Rattle.chain.specs.Rows.{head_or, last_or, occ}
use Rattle.chain.specs.Blocks.{occ_all, run}
use Rattle.chain.proofs.Counts.{occ_one}
use Rattle.ledger.specs.declared.command.Command.TheVariants.{Sct, Sih, Sit, Rmb, Fwd, Rev, Trn}
use Rattle.ledger.specs.Ledger.{Ledger, holding, living, emptied, opened}
use Rattle.ledger.specs.Records.{is_for, is_trunked}
use Rattle.ledger.specs.Replies.{shown, ends}
use Rattle.ledger.specs.Runs.{Given, Told, answers, after}
use Rattle.history.specs.Orderly.{Steady}
use Rattle.history.specs.Promise.{Promise, asked, about, gets, before_at, walked, Shows}
use Rattle.history.specs.History.{Born, indexes, indexes_in, members_of, account, Tells}
use Rattle.history.specs.Freed.{spares}
use Rattle.history.specs.Lasting.{Among, Lasting}
use Rattle.history.specs.Course.{Course}
use Rattle.history.specs.Faithful.{Recounted, Faithful}
use Rattle.history.proofs.Accounts.{Each, Stands, all_stand, count_told, occ_told}
use Rattle.history.proofs.Promised.{promised}
use Rattle.history.proofs.Steadily.{steady_emptied}
use Rattle.history.proofs.Sparing.{row}
use Rattle.history.proofs.Histories.{Tale, empty_told, tale_tells}
use Rattle.history.proofs.Courses.{course_lines, Known, known_course}

each_among : (P : Born → Type 0) (b : Born) (bs : List Born) → Each P bs → Among b bs → P b
each_among P b [] e a = absurd a
each_among P b (d ∷ bs) e (inl is) = subst P (sym is) e.0
each_among P b (d ∷ bs) e (inr a) = each_among P b bs e.1 a

module _ (S : MakeSpec) (n : ℕ) (L : Ledger) (F : Steady S n L.store) (P : Promise S n L) (bs : List Born) (T : Tale L.store bs) where
  often : (i : ℕ) → occ_all i L.store.blocks.chains ≡ occ i (indexes bs)
  often i = occ_told L.store bs T.parts i

  module _ (b : Born) (a : Among b bs) where
    stands : Stands L.store b
    stands = each_among (Stands L.store) b bs (all_stand L.store bs T.parts) a

    lives : living L.store b.block ≡ true
    lives = lt-ltb 0 (occ_all b.block L.store.blocks.chains) (omega (arith, stands.there, occ_one b.block (number b.home) L.store.blocks.chains))

    holds : holding L.store b.block ≡ b.holds
    holds = sym stands.holds

  pub lasting : Lasting S n L bs L.store.blocks.free
  lasting = record {
    head = P.head ∙ ap (λ xs. gets Sih (shown (head_or 0 xs) ∷ [])) (sym (row L.store bs T Root));
    tail = P.tail ∙ ap (λ xs. gets Sit (shown (last_or 0 xs) ∷ [])) (sym (row L.store bs T Root));
    number = P.number ∙ ap (λ xs. gets Sct (decimal (length xs) ∷ [])) (sym (row L.store bs T Root));
    trunked = λ b a is. P.trunked b.block (lives b a) (subst (λ h. is_trunked h ≡ true) (sym (holds b a)) is) ∙ ap (λ xs. gets Trn (ends xs)) (sym (row L.store bs T (members_of b.block Second)));
    forward = λ c. subst (λ xs. (k : ℕ) → k < length xs → asked S L (about Fwd (get_or xs k 0)) ≡ gets Fwd (shown (get_or xs (k + 1) 0) ∷ [])) (sym (row L.store bs T c)) (P.forward (number c));
    backward = λ c. subst (λ xs. (k : ℕ) → k < length xs → asked S L (about Rev (get_or xs k 0)) ≡ gets Rev (shown (before_at xs k) ∷ [])) (sym (row L.store bs T c)) (P.backward (number c));
    onward = λ c. subst (λ xs. (m : ℕ) → length xs ≤ m → walked S L Fwd m (head_or 0 xs) ≡ xs) (sym (row L.store bs T c)) (P.onward (number c));
    homeward = λ c. subst (λ xs. (m : ℕ) → length xs ≤ m → walked S L Rev m (last_or 0 xs) ≡ reverse xs) (sym (row L.store bs T c)) (P.homeward (number c));
    once = λ i i1 il. omega (arith, P.once i i1 il, often i);
    within = λ i h. P.within i (omega (arith, h, often i));
    idle = λ i i1 il h. P.idle i (omega (arith, P.once i i1 il, often i, h));
    system = λ k h room. P.system k h (omega (arith, room, ap length (row L.store bs T Root)));
    crowded = λ k h many. P.crowded k h (omega (arith, many, ap length (row L.store bs T Root)));
    member = λ c b adds a fits. P.member c b.block adds (lives b a) (subst (λ h. is_for c h ≡ true) (sym (holds b a)) fits);
    spare = P.spare ∙ ap (λ z. gets Rmb (decimal (n - z) ∷ [])) (count_told L.store bs T.parts);
    reads = λ b a. subst (λ h. Shows S L b.block h (indexes_in (members_of b.block First) bs)) (holds b a) (subst (Shows S L b.block (holding L.store b.block)) (sym (row L.store bs T (members_of b.block First))) (P.reads b.block (lives b a)));
  }

-- after any course from the opening on
module _ (S : MakeSpec) (K : Keeps S) (n : ℕ) (few : n ≤ 45000) (lines : List Given) (got : List Told) (L : Ledger) (c : Course S (emptied S n) lines got L.store) where
  course_known : Known S n L.store (account S [] lines got) (spares S n [] (run 1 n) lines got)
  course_known = known_course S n few lines got (emptied S n) L.store [] (run 1 n) (record { steady = steady_emptied S n; tale = empty_told S n; free = refl }) c

  pub course_promise : Promise S n L
  course_promise = promised S K n few L course_known.steady

  pub course_tells : Tells L.store (account S [] lines got)
  course_tells = tale_tells L.store (account S [] lines got) course_known.tale

  pub course_free : L.store.blocks.free ≡ spares S n [] (run 1 n) lines got
  course_free = course_known.free

  pub course_lasting : Lasting S n L (account S [] lines got) (spares S n [] (run 1 n) lines got)
  course_lasting = subst (Lasting S n L (account S [] lines got)) course_free (lasting S n L course_known.steady course_promise (account S [] lines got) course_known.tale)

-- the laws over runs
module _ (S : MakeSpec) (K : Keeps S) (n : ℕ) (few : n ≤ 45000) (lines : List Given) where
  abbrev last : Ledger
  last = after S (opened S n) lines

  abbrev all : List Told
  all = answers S (opened S n) lines

  whole : Course S (emptied S n) lines (answers S (opened S n) lines) (after S (opened S n) lines).store
  whole = course_lines S lines (opened S n)

  pub run_promise : Promise S n (after S (opened S n) lines)
  run_promise = course_promise S K n few lines all last whole

  pub run_tells : Tells (after S (opened S n) lines).store (account S [] lines (answers S (opened S n) lines))
  run_tells = course_tells S K n few lines all last whole

  pub run_free : (after S (opened S n) lines).store.blocks.free ≡ spares S n [] (run 1 n) lines (answers S (opened S n) lines)
  run_free = course_free S K n few lines all last whole

  pub run_lasting : Lasting S n (after S (opened S n) lines) (account S [] lines (answers S (opened S n) lines)) (spares S n [] (run 1 n) lines (answers S (opened S n) lines))
  run_lasting = course_lasting S K n few lines all last whole

-- all that is told of a course
pub course_recounted : (S : MakeSpec) → Keeps S → (n : ℕ) → n ≤ 45000 → (lines : List Given) (got : List Told) (L : Ledger) → Course S (emptied S n) lines got L.store → Recounted S n lines got L
course_recounted S K n few lines got L c = record { records = course_tells S K n few lines got L c; free = course_free S K n few lines got L c; lasting = course_lasting S K n few lines got L c }

-- a run that answers as the ledger does, and stands for it
pub run_faithful : (S : MakeSpec) → Keeps S → (n : ℕ) → n ≤ 45000 → (lines : List Given) (got : List Told) (L : Ledger) → got ≡ answers S (opened S n) lines → L ≡ after S (opened S n) lines → Faithful S n lines got L
run_faithful S K n few lines got L replies ledger = record {
  replies = replies;
  ledger = ledger;
  recounted = course_recounted S K n few lines got L (subst (λ M. Course S (emptied S n) lines got M.store) (sym ledger) (subst (λ ts. Course S (emptied S n) lines ts (after S (opened S n) lines).store) (sym replies) (whole S K n few lines)));
}
