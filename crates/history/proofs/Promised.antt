-- What a steady store makes further lines answer. Assumes nothing.
use Rattle.std.proofs.Common.{◌≡◌, ℕ, zero, suc, ◌+◌, ◌-◌, ◌<◌, ◌≤◌, true, false, cond, leb, List, [], ◌∷◌, reverse, length, get_or, drop, Some, codes, decimal, Option, sym, refl, ap, ◌∙◌, subst, inl, inr, arith}
use Rattle.std.specs.Str.{bytes_eq}
use Rattle.std.proofs.lemmas.Slice.Eq.{bytes_eq-Decides}
use Rattle.std.proofs.lemmas.List.{drop_more, drop_all, get_or_past, get_or-reverse, length-reverse}
use Rattle.std.proofs.lemmas.Bool.{lt-ltb, le-ltb, ltb-true, lt-leb, le-leb, leb-true, cases_lt, cases_Bool, and_parts, false≢true}
use Rattle.make.specs.declared.kind.Kind.{Kind}
use Rattle.make.specs.declared.kind.Kind.TheVariants.{System, Site, ChannelGroup, TalkgroupGroup, Channel, Talkgroup, TrunkFrequency}
use Rattle.make.specs.Data.{MakeSpec, fields_of, named_from, type_named}
use Rattle.make.specs.Rules.{Keeps}
use Rattle.make.specs.Shapes.{long, every, capital_or_digit}
use Rattle.chain.specs.Entry.{first_of, second_of}
use Rattle.chain.specs.Rows.{head_or, last_or, occ}
use Rattle.chain.specs.Blocks.{Blocks, chain, occ_all, home_of, row_of, next_in, prev_in, next_of, prev_of}
use Rattle.chain.proofs.Numbers.{number_at}
use Rattle.chain.proofs.Counts.{occ_one, occ_two}
use Rattle.chain.proofs.Homes.{found_home}
use Rattle.ledger.specs.declared.command.Command.{Command}
use Rattle.ledger.specs.declared.command.Command.TheVariants.{Prg, Epg, Clr, Sct, Sih, Sit, Rmb, Csy, Agc, Ast, Agt, Acc, Act, Dsy, Dgr, Dch, Fwd, Rev, Trn, Sin, Sif, Gin, Cin, Tin, Tfq}
use Rattle.ledger.specs.Limits.{most_systems}
use Rattle.ledger.specs.Commands.{command_of, takes_of, counts}
use Rattle.ledger.specs.Ledger.{Ledger, Store, holding, living, systems, members, talkgroups}
use Rattle.ledger.specs.Records.{is_for, member_kind, target}
use Rattle.ledger.specs.Replies.{err, shown, ends, shown_record}
use Rattle.ledger.specs.Steps.{Outcome, done, at, says, creates, new_system}
use Rattle.ledger.specs.Runs.{said}
use Rattle.history.specs.Orderly.{Steady}
use Rattle.history.specs.Told.{index_of, or_none}
use Rattle.history.specs.Promise.{Promise, Shows, asked, naming, about, gets, before_at, walked, adds, read_of}
use Rattle.history.proofs.Asking.{asked_done, asked_one, decimal_plain, decimal_short, names_plain, told_back, target_is, target_none}
use Rattle.history.proofs.Rows.{occ_at, head_at, next_at, prev_at, last_at, before_reverse}
use Rattle.history.proofs.Reading.{read_for, read_said, shown_count, shown_front, shown_field, shown_head, shown_tail}

-- what is said of the record that a line names
at_some : (L : Store) (o : Option ℕ) (i : ℕ) (k : ℕ → Outcome) → o ≡ Some i → (at L o k).said ≡ (k i).said
at_some L o i k e = ap (λ z. (at L z k).said) e

-- the name of a type is found
named_some : (m : ℕ) (names : List (List ℕ)) (k : ℕ) → k < length names → (j : ℕ) × (named_from m names (get_or names k []) ≡ Some j)
named_some m [] k h = absurd (omega arith)
named_some m (t ∷ ts) zero h = (m, ap (λ b. cond b (Some m) (named_from (m + 1) ts t)) ((bytes_eq-Decides t t).1 refl))
named_some m (t ∷ ts) (suc k) h = elim (cases_Bool (bytes_eq t (get_or ts k []))) [
  | inl y ↦ (m, ap (λ b. cond b (Some m) (named_from (m + 1) ts (get_or ts k []))) y)
  | inr y ↦ let r = named_some (m + 1) ts k (omega arith) in (r.0, ap (λ b. cond b (Some m) (named_from (m + 1) ts (get_or ts k []))) y ∙ r.1)
]

-- an index in a reply
index_back : (c : Command) → index_of (gets c (shown 0 ∷ [])) ≡ 0 → (z : ℕ) → z < 100000 → index_of (gets c (shown z ∷ [])) ≡ z
index_back c none zero h = none
index_back c none (suc y) h = ap or_none (told_back c (suc y) (omega arith) h)

-- a list whose every element leads to the next one is walked to its end
module _ (S : MakeSpec) (L : Ledger) (c : Command) (none : index_of (gets c (shown 0 ∷ [])) ≡ 0) (ys : List ℕ) (block : (k : ℕ) → k < length ys → (1 ≤ get_or ys k 0) × (get_or ys k 0 < 100000)) (leads : (k : ℕ) → k < length ys → asked S L (about c (get_or ys k 0)) ≡ gets c (shown (get_or ys (k + 1) 0) ∷ [])) where
  some : (m x : ℕ) → 1 ≤ x → walked S L c (suc m) x ≡ x ∷ walked S L c m (index_of (asked S L (about c x)))
  some m zero h = absurd (omega (arith, h))
  some m (suc x) h = refl

  small : (k : ℕ) → get_or ys k 0 < 100000
  small k = elim (cases_lt k (length ys)) [ inl h ↦ (block k h).1 | inr h ↦ omega (arith, get_or_past ys k 0 h) ]

  walk_from : (m k : ℕ) → length ys ≤ k + m → walked S L c m (get_or ys k 0) ≡ drop k ys
  walk_from zero k h = sym (drop_all k ys (omega arith))
  walk_from (suc m) k h = elim (cases_lt k (length ys)) [
    | inl more ↦ some m (get_or ys k 0) (block k more).0
        ∙ ap (λ z. get_or ys k 0 ∷ z) (ap (walked S L c m) (ap index_of (leads k more) ∙ index_back c none (get_or ys (k + 1) 0) (small (k + 1))) ∙ walk_from m (k + 1) (omega arith))
        ∙ sym (drop_more ys k 0 more)
    | inr end ↦ ap (walked S L c (suc m)) (get_or_past ys k 0 end) ∙ sym (drop_all k ys end)
  ]

  pub walk : (m : ℕ) → length ys ≤ m → walked S L c m (get_or ys 0 0) ≡ ys
  walk m h = walk_from m 0 (omega (arith, h))

module _ (S : MakeSpec) (K : Keeps S) (n : ℕ) (few : n ≤ 45000) (L : Ledger) (F : Steady S n L.store) where
  abbrev B : Blocks
  B = L.store.blocks

  used_within : (i : ℕ) → 1 ≤ occ_all i L.store.blocks.chains → (1 ≤ i) × (i ≤ n)
  used_within i h = F.blocks.within i (omega (arith, h))

  module _ (i : ℕ) (lives : living L.store i ≡ true) where
    in_use : (1 ≤ i) × (i ≤ n)
    in_use = used_within i (ltb-true 0 (occ_all i B.chains) lives)

    small_i : i < 100000
    small_i = omega (arith, in_use, few)

    meant_is : (c : Command) → is_for c (holding L.store i) ≡ true → target L.store c (decimal i) ≡ Some i
    meant_is c fits = target_is L.store c i small_i in_use.0 (omega (arith, in_use.1, F.long)) lives fits

    asks : (c : Command) → counts S (takes_of c) 1 ≡ true → asked S L (about c i) ≡ said (done S L.store c (decimal i ∷ [])).said
    asks c right = asked_one S L c (decimal i) (decimal_plain i small_i) (omega (arith, decimal_short i small_i)) right

  module _ (c k : ℕ) (h : k < length (chain L.store.blocks c)) where
    abbrev x : ℕ
    x = get_or (chain L.store.blocks c) k 0

    there : 1 ≤ occ_all (get_or (chain L.store.blocks c) k 0) L.store.blocks.chains
    there = omega (arith, occ_at (chain B c) k h, occ_one x c B.chains)

    x_lives : living L.store (get_or (chain L.store.blocks c) k 0) ≡ true
    x_lives = lt-ltb 0 (occ_all x B.chains) there

    all_once : (i : ℕ) → occ_all i L.store.blocks.chains ≤ 1
    all_once i = omega (arith, F.blocks.once i)

    one_once : (i : ℕ) → occ i (chain L.store.blocks c) ≤ 1
    one_once i = omega (arith, all_once i, occ_one i c B.chains)

    row_is : row_of L.store.blocks (home_of L.store.blocks (get_or (chain L.store.blocks c) k 0)) ≡ chain L.store.blocks c
    row_is = ap (row_of B) (found_home B.chains x c (all_once x) (λ d ne. occ_two x c d B.chains ne) (occ_at (chain B c) k h)) ∙ ap (chain B) (number_at c)

    goes_on : asked S L (about Fwd (get_or (chain L.store.blocks c) k 0)) ≡ gets Fwd (shown (get_or (chain L.store.blocks c) (k + 1) 0) ∷ [])
    goes_on = asks x x_lives Fwd refl ∙ ap said (at_some L.store (target L.store Fwd (decimal x)) x (λ i. says L.store Fwd (shown (next_in B i) ∷ [])) (meant_is x x_lives Fwd refl))
        ∙ ap (λ z. gets Fwd (shown z ∷ [])) (ap (next_of x) row_is ∙ next_at (chain B c) k one_once h)

    goes_back : asked S L (about Rev (get_or (chain L.store.blocks c) k 0)) ≡ gets Rev (shown (before_at (chain L.store.blocks c) k) ∷ [])
    goes_back = asks x x_lives Rev refl ∙ ap said (at_some L.store (target L.store Rev (decimal x)) x (λ i. says L.store Rev (shown (prev_in B i) ∷ [])) (meant_is x x_lives Rev refl))
        ∙ ap (λ z. gets Rev (shown z ∷ [])) (ap (prev_of x) row_is ∙ prev_at (chain B c) k one_once h)

    x_block : (1 ≤ get_or (chain L.store.blocks c) k 0) × (get_or (chain L.store.blocks c) k 0 < 100000)
    x_block = let w = used_within x there in (w.0, omega (arith, w.1, few))

  visits : (c m : ℕ) → length (chain L.store.blocks c) ≤ m → walked S L Fwd m (head_or 0 (chain L.store.blocks c)) ≡ chain L.store.blocks c
  visits c m h = ap (walked S L Fwd m) (head_at (chain B c)) ∙ walk S L Fwd refl (chain B c) (λ k l. x_block c k l) (λ k l. goes_on c k l) m h

  revisits : (c m : ℕ) → length (chain L.store.blocks c) ≤ m → walked S L Rev m (last_or 0 (chain L.store.blocks c)) ≡ reverse (chain L.store.blocks c)
  revisits c m h =
      ap (walked S L Rev m) (last_at (chain B c))
      ∙ walk S L Rev refl (reverse (chain B c))
      (λ k l. subst (λ z. (1 ≤ z) × (z < 100000)) (sym (flip k l)) (x_block c (length (chain B c) - 1 - k) (under k l)))
      (λ k l. ap (λ z. asked S L (about Rev z)) (flip k l) ∙ goes_back c (length (chain B c) - 1 - k) (under k l) ∙ ap (λ z. gets Rev (shown z ∷ [])) (before_reverse (chain B c) k (less k l)))
      m (omega (arith, h, length-reverse (chain B c)))
    where
      less : (k : ℕ) → k < length (reverse (chain B c)) → k < length (chain B c)
      less k l = omega (arith, l, length-reverse (chain B c))

      under : (k : ℕ) → k < length (reverse (chain B c)) → length (chain B c) - 1 - k < length (chain B c)
      under k l = omega (arith, less k l)

      flip : (k : ℕ) → k < length (reverse (chain B c)) → get_or (reverse (chain B c)) k 0 ≡ get_or (chain B c) (length (chain B c) - 1 - k) 0
      flip k l = get_or-reverse (chain B c) k 0 (less k l)

  free_idle : (i : ℕ) → 1 ≤ occ i L.store.blocks.free → asked S L (about Fwd i) ≡ said err
  free_idle i o =
      let w = F.blocks.within i (omega (arith, o)) in
      let small : i < 100000 = omega (arith, w.1, few) in
      let idle : living L.store i ≡ false = le-ltb 0 (occ_all i B.chains) (omega (arith, F.blocks.once i, o)) in
      asked_one S L Fwd (decimal i) (decimal_plain i small) (omega (arith, decimal_short i small)) refl
      ∙ ap (λ z. said (at L.store z (λ j. says L.store Fwd (shown (next_in B j) ∷ []))).said) (target_none L.store Fwd i small w.0 (omega (arith, w.1, F.long)) idle)

  -- a new system of the k-th type
  module _ (k : ℕ) (h : k < length S.types) where
    type_known : (j : ℕ) × (type_named S.types (get_or S.types k []) ≡ Some j)
    type_known = named_some 0 S.types k h

    asks_system : asked S L (naming Csy (get_or S.types k [])) ≡ said (cond (leb most_systems (length (systems L.store))) (says L.store Csy (shown 0 ∷ [])) (creates S L.store Csy 0 System type_known.0)).said
    asks_system =
        let t = get_or S.types k [] in
        let p = and_parts (long 1 4 t) (every capital_or_digit t) (K.typed k h) in
        let fits : length t ≤ 4 = leb-true (length t) 4 (and_parts (leb 1 (length t)) (leb (length t) 4) p.0).1 in
        asked_one S L Csy t (names_plain t p.1) (omega (arith, fits)) refl ∙ ap (λ o. said (new_system S L.store o).said) type_known.1

    new_system_lem : length (systems L.store) < most_systems → asked S L (naming Csy (get_or S.types k [])) ≡ gets Csy (shown (head_or 0 L.store.blocks.free) ∷ [])
    new_system_lem room = asks_system ∙ ap (λ b. said (cond b (says L.store Csy (shown 0 ∷ [])) (creates S L.store Csy 0 System type_known.0)).said) (lt-leb most_systems (length (systems L.store)) room)

    no_system : most_systems ≤ length (systems L.store) → asked S L (naming Csy (get_or S.types k [])) ≡ gets Csy (shown 0 ∷ [])
    no_system many = asks_system ∙ ap (λ b. said (cond b (says L.store Csy (shown 0 ∷ [])) (creates S L.store Csy 0 System type_known.0)).said) (le-leb most_systems (length (systems L.store)) many)

  new_member : (c : Command) (i : ℕ) → adds c ≡ true → living L.store i ≡ true → is_for c (holding L.store i) ≡ true → asked S L (about c i) ≡ gets c (shown (head_or 0 L.store.blocks.free) ∷ [])
  new_member Agc i a lives fits = asks i lives Agc refl ∙ ap said (at_some L.store _ i (λ j. creates S L.store Agc (first_of j) ChannelGroup 0) (meant_is i lives Agc fits))
  new_member Ast i a lives fits = asks i lives Ast refl ∙ ap said (at_some L.store _ i (λ j. creates S L.store Ast (first_of j) Site 0) (meant_is i lives Ast fits))
  new_member Agt i a lives fits = asks i lives Agt refl ∙ ap said (at_some L.store _ i (λ j. creates S L.store Agt (second_of j) TalkgroupGroup 0) (meant_is i lives Agt fits))
  new_member Acc i a lives fits = asks i lives Acc refl ∙ ap said (at_some L.store _ i (λ j. creates S L.store Acc (first_of j) (member_kind (holding L.store j).kind) 0) (meant_is i lives Acc fits))
  new_member Act i a lives fits = asks i lives Act refl ∙ ap said (at_some L.store _ i (λ j. creates S L.store Act (first_of j) (member_kind (holding L.store j).kind) 0) (meant_is i lives Act fits))
  new_member Prg i a lives fits = absurd (false≢true a)
  new_member Epg i a lives fits = absurd (false≢true a)
  new_member Clr i a lives fits = absurd (false≢true a)
  new_member Sct i a lives fits = absurd (false≢true a)
  new_member Sih i a lives fits = absurd (false≢true a)
  new_member Sit i a lives fits = absurd (false≢true a)
  new_member Rmb i a lives fits = absurd (false≢true a)
  new_member Csy i a lives fits = absurd (false≢true a)
  new_member Dsy i a lives fits = absurd (false≢true a)
  new_member Dgr i a lives fits = absurd (false≢true a)
  new_member Dch i a lives fits = absurd (false≢true a)
  new_member Fwd i a lives fits = absurd (false≢true a)
  new_member Rev i a lives fits = absurd (false≢true a)
  new_member Trn i a lives fits = absurd (false≢true a)
  new_member Sin i a lives fits = absurd (false≢true a)
  new_member Sif i a lives fits = absurd (false≢true a)
  new_member Gin i a lives fits = absurd (false≢true a)
  new_member Cin i a lives fits = absurd (false≢true a)
  new_member Tin i a lives fits = absurd (false≢true a)
  new_member Tfq i a lives fits = absurd (false≢true a)

  shows : (i : ℕ) → living L.store i ≡ true → Shows S L i (holding L.store i) (members L.store i)
  shows i lives =
      let h = holding L.store i in
      let k = h.kind in
      let w = in_use i lives in
      let all : length h.texts ≡ length (fields_of S k) = F.wide (i - 1) (omega (arith, w)) in
      record {
        texts = shown_record S L.store i h;
        reply = asks i lives (read_of k) (one k) ∙ ap said (read_said S L.store k (decimal i) i (meant_is i lives (read_of k) (read_for k h refl)));
        count = shown_count S L.store i k h.system_type h.texts all (K.fronted k);
        front = shown_front S L.store i k h.system_type h.texts all (K.fronted k);
        field = shown_field S L.store i k h.system_type h.texts all (K.fronted k);
        head = shown_head S L.store i k h.system_type h.texts all (K.fronted k);
        tail = shown_tail S L.store i k h.system_type h.texts all (K.fronted k);
      }
    where
      one : (k : Kind) → counts S (takes_of (read_of k)) 1 ≡ true
      one System = refl
      one Site = refl
      one ChannelGroup = refl
      one TalkgroupGroup = refl
      one Channel = refl
      one Talkgroup = refl
      one TrunkFrequency = refl

  -- the promise of a steady store
  pub promised : Promise S n L
  unfolding command_of
  promised = record {
    head = asked_done S L (codes "SIH") Sih [] (omega arith) refl refl refl refl;
    tail = asked_done S L (codes "SIT") Sit [] (omega arith) refl refl refl refl;
    number = asked_done S L (codes "SCT") Sct [] (omega arith) refl refl refl refl;
    trunked = λ i lives is. asks i lives Trn refl ∙ ap said (at_some L.store _ i (λ j. says L.store Trn (ends (talkgroups L.store j))) (meant_is i lives Trn is));
    forward = λ c k h. goes_on c k h;
    backward = λ c k h. goes_back c k h;
    onward = visits;
    homeward = revisits;
    once = λ i i1 il. omega (arith, F.blocks.once i, F.blocks.all i i1 il);
    within = F.blocks.within;
    idle = free_idle;
    system = new_system_lem;
    crowded = no_system;
    member = new_member;
    spare = asked_done S L (codes "RMB") Rmb [] (omega arith) refl refl refl refl ∙ ap (λ z. gets Rmb (decimal z ∷ [])) (omega (arith, F.blocks.full));
    reads = shows;
  }
