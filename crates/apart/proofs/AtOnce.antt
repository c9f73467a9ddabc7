-- What a passed test tells of a line, and its write beside the line given whole. Assumes nothing.
use Rattle.std.proofs.Common.{◌≡◌, ℕ, ◌+◌, Bool, true, false, cond, ◌&&◌, ◌||◌, eqb, ltb, ◌⊎◌, List, [], length, get_or, drop, Some, None, Option, sym, refl, ap, ◌∙◌, inl, inr, arith}
use Rattle.std.proofs.lemmas.Bool.{eqb-true, eq-eqb, and_parts, and_from}
use Rattle.make.specs.declared.kind.Kind.{Kind}
use Rattle.make.specs.declared.kind.Kind.TheVariants.{System, Site, ChannelGroup, TalkgroupGroup, Channel, Talkgroup, TrunkFrequency}
use Rattle.make.specs.Data.{MakeSpec, fields_of}
use Rattle.make.specs.Rules.{Keeps}
use Rattle.ledger.specs.declared.mode.Mode.{Mode}
use Rattle.ledger.specs.declared.mode.Mode.TheVariants.{Off, On}
use Rattle.ledger.specs.declared.command.Command.{Command}
use Rattle.ledger.specs.declared.command.Command.TheVariants.{Prg, Epg, Clr, Sct, Sih, Sit, Rmb, Csy, Agc, Ast, Agt, Acc, Act, Dsy, Dgr, Dch, Fwd, Rev, Trn, Sin, Sif, Gin, Cin, Tin, Tfq}
use Rattle.ledger.specs.declared.command.Takes.{Takes}
use Rattle.ledger.specs.declared.command.Takes.TheVariants.{Switch, Nothing, One, RecordOf}
use Rattle.ledger.specs.Limits.{longest_line}
use Rattle.ledger.specs.Commands.{takes_of, counts}
use Rattle.ledger.specs.Ledger.{Ledger, Store, Holding, holding, living, block_count}
use Rattle.ledger.specs.Records.{kind_number, is_kind, is_for, index_in, meant, target}
use Rattle.ledger.specs.Replies.{orer, err, ng}
use Rattle.ledger.specs.Texts.{fields_legal}
use Rattle.ledger.specs.Steps.{refused, sets, read_or_set, done}
use Rattle.ledger.specs.Lines.{refuses, does, printable, command, fields, mode_after, step, known as heard}
use Rattle.engine.proofs.Outcomes.{set_done}
use Rattle.apart.specs.Testing.{Verdict, fails, passes, named, counted, settable, known, test, holds, put_into, put_by, write}

-- a refusal is no pass
never : (t : List ℕ) (i : ℕ) (k : Kind) → fails t ≡ passes i k → ⊥
never t i k e = let z : ◌≡◌ {A = ℕ} 0 1 = cc in omega arith

no_index : (i : ℕ) → ◌≡◌ {A = Option ℕ} None (Some i) → ⊥
no_index i e = let z : ◌≡◌ {A = ℕ} 0 1 = cc in omega arith

not_switch : (k : Kind) → Switch ≡ RecordOf k → ⊥
not_switch k e = let z : ◌≡◌ {A = ℕ} 0 1 = cc in omega arith

not_nothing : (k : Kind) → Nothing ≡ RecordOf k → ⊥
not_nothing k e = let z : ◌≡◌ {A = ℕ} 0 1 = cc in omega arith

not_one : (k : Kind) → One ≡ RecordOf k → ⊥
not_one k e = let z : ◌≡◌ {A = ℕ} 0 1 = cc in omega arith

-- a kind by its number
abbrev kind_at : ℕ → Kind
kind_at n = cond (eqb n 1) System (cond (eqb n 2) Site (cond (eqb n 3) ChannelGroup (cond (eqb n 4) TalkgroupGroup (cond (eqb n 5) Channel (cond (eqb n 6) Talkgroup TrunkFrequency)))))

kind_back : (k : Kind) → kind_at (kind_number k) ≡ k
kind_back System = refl
kind_back Site = refl
kind_back ChannelGroup = refl
kind_back TalkgroupGroup = refl
kind_back Channel = refl
kind_back Talkgroup = refl
kind_back TrunkFrequency = refl

kind_is : (k : Kind) (h : Holding) → is_kind k h ≡ true → h.kind ≡ k
kind_is k h e = sym (kind_back h.kind) ∙ sym (ap kind_at (eqb-true (kind_number k) (kind_number h.kind) e)) ∙ kind_back k

or_cases : (a b : Bool) → (a || b) ≡ true → (a ≡ true) ⊎ (b ≡ true)
or_cases true b e = inl refl
or_cases false b e = inr e

or_right : (a b : Bool) → b ≡ true → (a || b) ≡ true
or_right true b e = refl
or_right false b e = e

-- what is known of a command that has a set form for a kind
record SetForm (S : MakeSpec) (L : Store) (c : Command) (q : Kind) (fs : List (List ℕ)) : Type 0 where
  is_done : done S L c fs ≡ read_or_set S L c fs
  stays : mode_after On c ≡ On
  alike : (h : Holding) → is_for c h ≡ true → length (fields_of S h.kind) ≡ length (fields_of S q)

module _ (S : MakeSpec) (keeps : Keeps S) where
  one_kind : (k q : Kind) (h : Holding) → RecordOf k ≡ RecordOf q → is_kind k h ≡ true → length (fields_of S h.kind) ≡ length (fields_of S q)
  one_kind k q h e is = let same : k ≡ q = cc in ap (λ (z : Kind). length (fields_of S z)) (kind_is k h is ∙ same)

  both_groups : (q : Kind) (h : Holding) → RecordOf ChannelGroup ≡ RecordOf q → (is_kind ChannelGroup h || is_kind TalkgroupGroup h) ≡ true → length (fields_of S h.kind) ≡ length (fields_of S q)
  both_groups q h e is =
      elim (or_cases (is_kind ChannelGroup h) (is_kind TalkgroupGroup h) is) [
        | inl a ↦ one_kind ChannelGroup q h e a
        | inr b ↦ ap (λ (z : Kind). length (fields_of S z)) (kind_is TalkgroupGroup h b) ∙ sym (ap (λ z. length z.fields) keeps.groups) ∙ (let same : ChannelGroup ≡ q = cc in ap (λ (z : Kind). length (fields_of S z)) same)
      ]

  set_form : (L : Store) (c : Command) (q : Kind) (fs : List (List ℕ)) → takes_of c ≡ RecordOf q → SetForm S L c q fs
  set_form L Prg q fs e = absurd (not_switch q e)
  set_form L Epg q fs e = absurd (not_switch q e)
  set_form L Clr q fs e = absurd (not_nothing q e)
  set_form L Sct q fs e = absurd (not_nothing q e)
  set_form L Sih q fs e = absurd (not_nothing q e)
  set_form L Sit q fs e = absurd (not_nothing q e)
  set_form L Rmb q fs e = absurd (not_nothing q e)
  set_form L Csy q fs e = absurd (not_one q e)
  set_form L Agc q fs e = absurd (not_one q e)
  set_form L Ast q fs e = absurd (not_one q e)
  set_form L Agt q fs e = absurd (not_one q e)
  set_form L Acc q fs e = absurd (not_one q e)
  set_form L Act q fs e = absurd (not_one q e)
  set_form L Dsy q fs e = absurd (not_one q e)
  set_form L Dgr q fs e = absurd (not_one q e)
  set_form L Dch q fs e = absurd (not_one q e)
  set_form L Fwd q fs e = absurd (not_one q e)
  set_form L Rev q fs e = absurd (not_one q e)
  set_form L Trn q fs e = absurd (not_one q e)
  set_form L Sin q fs e = record { is_done = refl; stays = refl; alike = λ h. one_kind System q h e }
  set_form L Sif q fs e = record { is_done = refl; stays = refl; alike = λ h. one_kind Site q h e }
  set_form L Gin q fs e = record { is_done = refl; stays = refl; alike = λ h. both_groups q h e }
  set_form L Cin q fs e = record { is_done = refl; stays = refl; alike = λ h. one_kind Channel q h e }
  set_form L Tin q fs e = record { is_done = refl; stays = refl; alike = λ h. one_kind Talkgroup q h e }
  set_form L Tfq q fs e = record { is_done = refl; stays = refl; alike = λ h. one_kind TrunkFrequency q h e }

  -- each test that a line has passed
  filled_is : (j : ℕ) (q : Kind) (b : Bool) (i : ℕ) (k : Kind) → cond b (passes j q) (fails err) ≡ passes i k → (b ≡ true) × (j ≡ i) × (q ≡ k)
  filled_is j q true i k e = (refl, (cc), (cc))
  filled_is j q false i k e = absurd (never err i k e)

  named_is : (L : Store) (o : Option ℕ) (ts : List (List ℕ)) (i : ℕ) (k : Kind) → named S L o ts ≡ passes i k → (o ≡ Some i) × ((holding L i).kind ≡ k)
  named_is L None ts i k e = absurd (never err i k e)
  named_is L (Some j) ts i k e =
      let f = filled_is j (holding L j).kind (fields_legal S (holding L j).kind 0 ts) i k e in
      (ap Some f.1, ap (λ z. (holding L z).kind) (sym f.1) ∙ f.2)

  some_is : (b : Bool) (j i : ℕ) → cond b (Some j) None ≡ Some i → (b ≡ true) × (j ≡ i)
  some_is true j i e = (refl, (cc))
  some_is false j i e = absurd (no_index i e)

  meant_is : (L : Store) (c : Command) (o : Option ℕ) (i : ℕ) → meant L c o ≡ Some i → (living L i && is_for c (holding L i)) ≡ true
  meant_is L c None i e = absurd (no_index i e)
  meant_is L c (Some j) i e =
      let s = some_is (living L j && is_for c (holding L j)) j i e in
      ap (λ z. living L z && is_for c (holding L z)) (sym s.1) ∙ s.0

  counted_is : (b : Bool) (v : Verdict) (i : ℕ) (k : Kind) → cond b v (fails err) ≡ passes i k → (b ≡ true) × (v ≡ passes i k)
  counted_is true v i k e = (refl, e)
  counted_is false v i k e = absurd (never err i k e)

  settable_is : (L : Store) (c : Command) (t : Takes) (fs : List (List ℕ)) (i : ℕ) (k : Kind) → settable S (record { mode = On; store = L }) c t fs ≡ passes i k → (q : Kind) × ((t ≡ RecordOf q) × (counted S L c q fs ≡ passes i k))
  settable_is L c Switch fs i k e = absurd (never err i k e)
  settable_is L c Nothing fs i k e = absurd (never err i k e)
  settable_is L c One fs i k e = absurd (never err i k e)
  settable_is L c (RecordOf q) fs i k e = (q, (refl, e))

  off_settable : (L : Store) (c : Command) (t : Takes) (fs : List (List ℕ)) (i : ℕ) (k : Kind) → settable S (record { mode = Off; store = L }) c t fs ≡ passes i k → ⊥
  off_settable L c Switch fs i k e = never err i k e
  off_settable L c Nothing fs i k e = never err i k e
  off_settable L c One fs i k e = never err i k e
  off_settable L c (RecordOf q) fs i k e = never ng i k e

  off_known : (L : Store) (o : Option Command) (fs : List (List ℕ)) (i : ℕ) (k : Kind) → known S (record { mode = Off; store = L }) o fs ≡ passes i k → ⊥
  off_known L None fs i k e = never err i k e
  off_known L (Some c) fs i k e = off_settable L c (takes_of c) fs i k e

  whole_is : (a b : Bool) (v : Verdict) (i : ℕ) (k : Kind) → cond a (fails orer) (cond b v (fails err)) ≡ passes i k → (a ≡ false) × (b ≡ true) × (v ≡ passes i k)
  whole_is true b v i k e = absurd (never orer i k e)
  whole_is false true v i k e = (refl, refl, e)
  whole_is false false v i k e = absurd (never err i k e)

  -- the write of a set line, and the line as a command
  on_command : (L : Store) (c : Command) (fs : List (List ℕ)) (i : ℕ) (k : Kind) → settable S (record { mode = On; store = L }) c (takes_of c) fs ≡ passes i k → does On (put_into S L c i k fs) ≡ heard S (record { mode = On; store = L }) (Some c) fs
  on_command L c fs i k e =
      let w = settable_is L c (takes_of c) fs i k e in
      let q = w.0 in
      let form = set_form L c q fs w.1.0 in
      let t = get_or fs 0 [] in
      let m = counted_is (eqb (length fs) (length (fields_of S q) + 1)) (named S L (target L c t) (drop 1 fs)) i k w.1.1 in
      let n = named_is L (target L c t) (drop 1 fs) i k m.1 in
      let both = and_parts (living L i) (is_for c (holding L i)) (meant_is L c (index_in (block_count L) t) i n.0) in
      let long : length fs ≡ length (fields_of S q) + 1 = eqb-true _ _ m.0 in
      let more : length fs ≡ 1 → ⊥ = λ one. omega (arith, keeps.one_field q, long, one) in
      let same : length (fields_of S k) ≡ length (fields_of S q) = ap (λ (z : Kind). length (fields_of S z)) (sym n.1) ∙ form.alike (holding L i) both.1 in
      let held : holds L i k ≡ true = and_from (living L i) (is_kind k (holding L i)) both.0 (eq-eqb (kind_number k) (kind_number (holding L i).kind) (ap kind_number (sym n.1))) in
      let right : (holds L i k && eqb (length fs) (length (fields_of S k) + 1)) ≡ true = and_from (holds L i k) (eqb (length fs) (length (fields_of S k) + 1)) held (eq-eqb _ _ (long ∙ ap (λ z. z + 1) (sym same))) in
      let counts_so : counts S (takes_of c) (length fs) ≡ true = ap (λ (z : Takes). counts S z (length fs)) w.1.0 ∙ or_right (eqb (length fs) 1) (eqb (length fs) (length (fields_of S q) + 1)) m.0 in
      let L' : Ledger = record { mode = On; store = L } in
      ap (λ (b : Bool). does On (cond b (sets S L c i (holding L i) (drop 1 fs)) (refused L err))) right
      ∙ ap (does On) (set_done S L c i t fs (drop 1 fs) refl refl n.0 more ∙ sym form.is_done)
      ∙ ap (λ (z : Mode). does z (done S L c fs)) (sym form.stays)
      ∙ sym (ap (λ (b : Bool). cond b (does (mode_after On c) (done S L c fs)) (refuses L' err)) counts_so)

  on_known : (L : Store) (o : Option Command) (fs : List (List ℕ)) (i : ℕ) (k : Kind) → known S (record { mode = On; store = L }) o fs ≡ passes i k → does On (put_by S L o i k fs) ≡ heard S (record { mode = On; store = L }) o fs
  on_known L None fs i k e = absurd (never err i k e)
  on_known L (Some c) fs i k e = on_command L c fs i k e

  pub at_once : (m : Mode) (L : Store) (line : List ℕ) (i : ℕ) (k : Kind) → test S (record { mode = m; store = L }) line ≡ passes i k → write S (record { mode = m; store = L }) (record { line = line; index = i; kind = k }) ≡ step S (record { mode = m; store = L }) line
  at_once Off L line i k e = absurd (off_known L (command line) (fields line) i k (whole_is (ltb longest_line (length line)) (printable line) (known S (record { mode = Off; store = L }) (command line) (fields line)) i k e).2)
  at_once On L line i k e =
      let L' : Ledger = record { mode = On; store = L } in
      let w = whole_is (ltb longest_line (length line)) (printable line) (known S L' (command line) (fields line)) i k e in
      ap (λ (b : Bool). does On (cond b (refused L err) (put_by S L (command line) i k (fields line)))) w.0
      ∙ on_known L (command line) (fields line) i k w.2
      ∙ sym (ap (λ (b : Bool). cond b (refuses L' orer) (cond (printable line) (heard S L' (command line) (fields line)) (refuses L' err))) w.0
      ∙ ap (λ (b : Bool). cond b (heard S L' (command line) (fields line)) (refuses L' err)) w.1)
