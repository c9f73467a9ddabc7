-- What a further line is read as: its command, its field, and what is done then. Assumes nothing.
use Rattle.std.proofs.Common.{◌≡◌, ℕ, zero, suc, ◌-◌, ◌<◌, ◌≤◌, true, false, cond, not, ◌&&◌, eqb, List, [], ◌∷◌, ◌++◌, length, get_or, take, drop, Some, None, codes, decimal, refl, ap, ◌∙◌, arith, length-append}
use Rattle.std.specs.Int.{is_in_range}
use Rattle.std.specs.Str.{all_ascii_digits}
use Rattle.std.proofs.lemmas.List.{take_at, append-nil}
use Rattle.std.proofs.lemmas.Bool.{and_parts, and_from, le-ltb, le-leb, not-true}
use Rattle.std.proofs.lemmas.Bool.Decides.{nat_tests}
use Rattle.text.specs.Cuts.{cuts, glue}
use Rattle.text.specs.Number.{number_in, value}
use Rattle.text.proofs.Texts.{number_parts, decimal_number, decimal_value}
use Rattle.make.specs.Data.{MakeSpec}
use Rattle.make.specs.Shapes.{every, text_byte, capital_or_digit}
use Rattle.ledger.specs.declared.mode.Mode.TheVariants.{Off, On}
use Rattle.ledger.specs.declared.command.Command.{Command}
use Rattle.ledger.specs.declared.command.Command.TheVariants.{Prg, Epg, Clr, Sct, Sih, Sit, Rmb, Csy, Agc, Ast, Agt, Acc, Act, Dsy, Dgr, Dch, Fwd, Rev, Trn, Sin, Sif, Gin, Cin, Tin, Tfq}
use Rattle.ledger.specs.Limits.{longest_line}
use Rattle.ledger.specs.Commands.{name_of, command_of, takes_of, allowed, counts}
use Rattle.ledger.specs.Ledger.{Ledger, Store, holding, living, block_count}
use Rattle.ledger.specs.Records.{is_for, up_to, index_in, meant, target}
use Rattle.ledger.specs.Replies.{orer, err, ng, reply, shown, cr}
use Rattle.ledger.specs.Steps.{done}
use Rattle.ledger.specs.Lines.{printable, command, fields, mode_after, refuses, does, counted, known, step}
use Rattle.ledger.specs.Runs.{said, next}
use Rattle.history.specs.Told.{index_told}
use Rattle.history.specs.Promise.{given, asked, naming}

-- the letters of a command and a comma before a text
pub record Spelt (c : Command) (t : List ℕ) : Type 0 where
  pub cut : cuts (naming c t) ≡ name_of c ∷ cuts t
  pub print : printable (naming c t) ≡ printable t
  pub long : length (naming c t) ≡ suc (suc (suc (suc (length t))))
  pub known : command_of (name_of c) ≡ Some c

pub spelt : (c : Command) (t : List ℕ) → Spelt c t
unfolding command_of
spelt Prg t = record { cut = refl; print = refl; long = refl; known = refl }
spelt Epg t = record { cut = refl; print = refl; long = refl; known = refl }
spelt Clr t = record { cut = refl; print = refl; long = refl; known = refl }
spelt Sct t = record { cut = refl; print = refl; long = refl; known = refl }
spelt Sih t = record { cut = refl; print = refl; long = refl; known = refl }
spelt Sit t = record { cut = refl; print = refl; long = refl; known = refl }
spelt Rmb t = record { cut = refl; print = refl; long = refl; known = refl }
spelt Csy t = record { cut = refl; print = refl; long = refl; known = refl }
spelt Agc t = record { cut = refl; print = refl; long = refl; known = refl }
spelt Ast t = record { cut = refl; print = refl; long = refl; known = refl }
spelt Agt t = record { cut = refl; print = refl; long = refl; known = refl }
spelt Acc t = record { cut = refl; print = refl; long = refl; known = refl }
spelt Act t = record { cut = refl; print = refl; long = refl; known = refl }
spelt Dsy t = record { cut = refl; print = refl; long = refl; known = refl }
spelt Dgr t = record { cut = refl; print = refl; long = refl; known = refl }
spelt Dch t = record { cut = refl; print = refl; long = refl; known = refl }
spelt Fwd t = record { cut = refl; print = refl; long = refl; known = refl }
spelt Rev t = record { cut = refl; print = refl; long = refl; known = refl }
spelt Trn t = record { cut = refl; print = refl; long = refl; known = refl }
spelt Sin t = record { cut = refl; print = refl; long = refl; known = refl }
spelt Sif t = record { cut = refl; print = refl; long = refl; known = refl }
spelt Gin t = record { cut = refl; print = refl; long = refl; known = refl }
spelt Cin t = record { cut = refl; print = refl; long = refl; known = refl }
spelt Tin t = record { cut = refl; print = refl; long = refl; known = refl }
spelt Tfq t = record { cut = refl; print = refl; long = refl; known = refl }

-- a text of printable bytes without a comma
pub plain_print : (t : List ℕ) → every text_byte t ≡ true → printable t ≡ true
plain_print [] h = refl
plain_print (c ∷ cs) h =
    let p = and_parts (text_byte c) (every text_byte cs) h in
    and_from _ _ (and_parts (is_in_range 32 126 c) (not (eqb c 44)) p.0).0 (plain_print cs p.1)

pub plain_cut : (t : List ℕ) → every text_byte t ≡ true → cuts t ≡ t ∷ []
plain_cut [] h = refl
plain_cut (c ∷ cs) h =
    let p = and_parts (text_byte c) (every text_byte cs) h in
    ap (λ b. cond b ([] ∷ cuts cs) (glue c (cuts cs))) (not-true (eqb c 44) (and_parts (is_in_range 32 126 c) (not (eqb c 44)) p.0).1) ∙ ap (glue c) (plain_cut cs p.1)

digits_plain : (t : List ℕ) → all_ascii_digits t ≡ true → every text_byte t ≡ true
digits_plain [] h = refl
digits_plain (c ∷ cs) h =
    let p = and_parts (is_in_range 48 57 c) (all_ascii_digits cs) h in
    let d = p.0 in
    and_from _ _ (grind (arith, nat_tests, d)) (digits_plain cs p.1)

pub names_plain : (t : List ℕ) → every capital_or_digit t ≡ true → every text_byte t ≡ true
names_plain [] h = refl
names_plain (c ∷ cs) h =
    let p = and_parts (capital_or_digit c) (every capital_or_digit cs) h in
    let d = p.0 in
    and_from _ _ (grind (arith, nat_tests, d)) (names_plain cs p.1)

pub decimal_plain : (i : ℕ) → i < 100000 → every text_byte (decimal i) ≡ true
decimal_plain i h = digits_plain (decimal i) (number_parts 5 (decimal i) (decimal_number i h)).all

pub decimal_short : (i : ℕ) → i < 100000 → length (decimal i) ≤ 5
decimal_short i h = (number_parts 5 (decimal i) (decimal_number i h)).fits

-- one more PRG turns the mode on, and leaves the store
pub turned : (S : MakeSpec) (L : Ledger) → ((next S L (given (codes "PRG"))).mode ≡ On) × ((next S L (given (codes "PRG"))).store ≡ L.store)
unfolding command_of
turned S L = elim L.mode as (λ m. ((cond (allowed m Prg) (counted S L Prg []) (refuses L ng)).next.mode ≡ On) × ((cond (allowed m Prg) (counted S L Prg []) (refuses L ng)).next.store ≡ L.store)) [ Off ↦ (refl, refl) | On ↦ (refl, refl) ]

-- what a line says with the mode on, once it is read
pub heard : (S : MakeSpec) (M : Ledger) → M.mode ≡ On → (line : List ℕ) (c : Command) (fs : List (List ℕ)) → length line ≤ longest_line → printable line ≡ true → command line ≡ Some c → fields line ≡ fs → counts S (takes_of c) (length fs) ≡ true → (step S M line).said ≡ (done S M.store c fs).said
heard S M on line c fs short print is are right =
    ap (λ b. (cond b (refuses M orer) (cond (printable line) (known S M (command line) (fields line)) (refuses M err))).said) (le-ltb longest_line (length line) short)
    ∙ ap (λ b. (cond b (known S M (command line) (fields line)) (refuses M err)).said) print
    ∙ ap (λ o. (known S M o (fields line)).said) is
    ∙ ap (λ m. (cond (allowed m c) (counted S M c (fields line)) (refuses M ng)).said) on
    ∙ ap (λ gs. (counted S M c gs).said) are
    ∙ ap (λ b. (cond b (does (mode_after M.mode c) (done S M.store c fs)) (refuses M err)).said) right

-- what a line gets after one more PRG, once it is read
pub asked_done : (S : MakeSpec) (L : Ledger) (line : List ℕ) (c : Command) (fs : List (List ℕ)) → length line ≤ longest_line → printable line ≡ true → command line ≡ Some c → fields line ≡ fs → counts S (takes_of c) (length fs) ≡ true → asked S L line ≡ said (done S L.store c fs).said
asked_done S L line c fs short print is are right = let t = turned S L in ap said (heard S (next S L (given (codes "PRG"))) t.0 line c fs short print is are right) ∙ ap (λ z. said (done S z c fs).said) t.1

-- what a command with one text gets
pub asked_one : (S : MakeSpec) (L : Ledger) (c : Command) (t : List ℕ) → every text_byte t ≡ true → length t ≤ 24 → counts S (takes_of c) 1 ≡ true → asked S L (naming c t) ≡ said (done S L.store c (t ∷ [])).said
asked_one S L c t plain short right =
    let p = spelt c t in
    let cut : cuts (naming c t) ≡ name_of c ∷ t ∷ [] = p.cut ∙ ap (λ ps. name_of c ∷ ps) (plain_cut t plain) in
    asked_done S L (naming c t) c (t ∷ []) (omega (arith, p.long)) (p.print ∙ plain_print t plain) (ap (λ ps. command_of (get_or ps 0 [])) cut ∙ p.known) (ap (drop 1) cut) right

-- an index that was shown is read back
pub number_back : (i : ℕ) → i < 100000 → number_in 5 (decimal i) ≡ Some i
number_back i h = ap (λ b. cond b (Some (value (decimal i))) None) (decimal_number i h) ∙ ap Some (decimal_value i h)

pub told_back : (c : Command) (x : ℕ) → 1 ≤ x → x < 100000 → index_told (reply (name_of c) (shown x ∷ [])) ≡ Some x
told_back c zero h l = absurd (omega (arith, h))
told_back c (suc y) h l = by c
  where
    three : (a b d : ℕ) → index_told (a ∷ b ∷ d ∷ 44 ∷ ((decimal (suc y) ++ []) ++ cr)) ≡ Some (suc y)
    three a b d =
        let t : List ℕ = decimal (suc y) ++ [] in
        let e : length (a ∷ b ∷ d ∷ 44 ∷ (t ++ cr)) - 5 ≡ length t = omega (arith, length-append t cr) in
        ap (λ k. number_in 5 (take k (t ++ cr))) e ∙ ap (number_in 5) (take_at t cr (length t) refl ∙ append-nil (decimal (suc y))) ∙ number_back (suc y) l

    by : (c : Command) → index_told (reply (name_of c) (shown (suc y) ∷ [])) ≡ Some (suc y)
    by Prg = three 80 82 71
    by Epg = three 69 80 71
    by Clr = three 67 76 82
    by Sct = three 83 67 84
    by Sih = three 83 73 72
    by Sit = three 83 73 84
    by Rmb = three 82 77 66
    by Csy = three 67 83 89
    by Agc = three 65 71 67
    by Ast = three 65 83 84
    by Agt = three 65 71 84
    by Acc = three 65 67 67
    by Act = three 65 67 84
    by Dsy = three 68 83 89
    by Dgr = three 68 71 82
    by Dch = three 68 67 72
    by Fwd = three 70 87 68
    by Rev = three 82 69 86
    by Trn = three 84 82 78
    by Sin = three 83 73 78
    by Sif = three 83 73 70
    by Gin = three 71 73 78
    by Cin = three 67 73 78
    by Tin = three 84 73 78
    by Tfq = three 84 70 81

module _ (L : Store) (c : Command) (i : ℕ) (small : i < 100000) (i1 : 1 ≤ i) (il : i ≤ block_count L) where
  index_is : index_in (block_count L) (decimal i) ≡ Some i
  index_is = ap (up_to (block_count L)) (number_back i small) ∙ ap (λ b. cond b (Some i) None) (and_from _ _ (le-leb 1 i i1) (le-leb i (block_count L) il))

  -- the record that a line names, if the command is for it
  pub target_is : living L i ≡ true → is_for c (holding L i) ≡ true → target L c (decimal i) ≡ Some i
  target_is lives fits = ap (meant L c) index_is ∙ ap (λ b. cond b (Some i) None) (and_from _ _ lives fits)

  pub target_none : living L i ≡ false → target L c (decimal i) ≡ None
  target_none idle = ap (meant L c) index_is ∙ ap (λ b. cond (b && is_for c (holding L i)) (Some i) None) idle
