-- What lines and replies tell is what the ledger does. Assumes nothing.
use Rattle.std.proofs.Common.{◌≡◌, ℕ, zero, suc, ◌+◌, ◌-◌, ◌≤◌, true, false, cond, ◌||◌, eqb, leb, ◌≢◌, ◌⊎◌, List, [], ◌∷◌, ◌++◌, map, length, get_or, drop, set, Some, None, codes, Option, sym, refl, ap, ◌∙◌, subst, inl, inr, arith}
use Rattle.std.proofs.lemmas.List.{get_or-set_same, get_or-set_other, append-nil, map-append}
use Rattle.std.proofs.lemmas.Bool.{eq-eqb, ne_eqb, ltb-true, cases_eq, cases_lt, false≢true}
use Rattle.make.specs.declared.kind.Kind.{Kind}
use Rattle.make.specs.declared.kind.Kind.TheVariants.{System, Site, ChannelGroup, TalkgroupGroup, Channel, Talkgroup, TrunkFrequency}
use Rattle.make.specs.Data.{MakeSpec, type_named}
use Rattle.chain.specs.declared.link.Branch.{Branch}
use Rattle.chain.specs.declared.link.Branch.TheVariants.{First, Second}
use Rattle.chain.specs.declared.link.Chain.{Chain}
use Rattle.chain.specs.declared.link.Chain.TheVariants.{Root, Members}
use Rattle.chain.specs.Entry.{first_of, second_of, number, chain_at}
use Rattle.chain.specs.Rows.{head_or, occ}
use Rattle.chain.specs.Blocks.{chain, deleted, occ_all}
use Rattle.chain.proofs.Numbers.{at_number, number_at}
use Rattle.chain.proofs.Keeps.{tick_same, tick_other}
use Rattle.chain.proofs.Counts.{occ_one}
use Rattle.ledger.specs.declared.command.Command.{Command}
use Rattle.ledger.specs.declared.command.Command.TheVariants.{Prg, Epg, Clr, Sct, Sih, Sit, Rmb, Csy, Agc, Ast, Agt, Acc, Act, Dsy, Dgr, Dch, Fwd, Rev, Trn, Sin, Sif, Gin, Cin, Tin, Tfq}
use Rattle.ledger.specs.Limits.{most_systems}
use Rattle.ledger.specs.Commands.{name_of}
use Rattle.ledger.specs.Ledger.{Store, Holding, fresh, emptied, holding, living, systems, members, talkgroups}
use Rattle.ledger.specs.Records.{kind_number, member_kind, target}
use Rattle.ledger.specs.Texts.{fields_legal}
use Rattle.ledger.specs.Replies.{err, reply, shown, shown_record}
use Rattle.ledger.specs.Steps.{new_texts, Outcome, changes, done, at, says, refused, grown, creates, new_system, deletes, written, sets, read_or_set}
use Rattle.ledger.specs.Lines.{command, fields}
use Rattle.ledger.specs.Runs.{Told, short, said}
use Rattle.history.specs.Orderly.{Steady}
use Rattle.history.specs.Told.{index_told}
use Rattle.history.specs.History.{Born, owner_in, accepted, named, born_at, born_typed, born_under, kind_in, low_kind, gone, gone_at, reset, retold, retold_at, read_or_retold, lived, lived_by, heard, born_numbered, born_as, members_of, Tells}
use Rattle.history.proofs.Asking.{told_back}
use Rattle.history.proofs.Silence.{Silent, silent_err, ok_got, none_told}
use Rattle.history.specs.Course.{Moved}
use Rattle.history.proofs.Stepping.{Quiet, by_move}
use Rattle.history.proofs.Removing.{one_chain, Gone, occ_minus}
use Rattle.history.proofs.Steadily.{Aimed, aimed, chain_empty, in_range, open_first, open_second, leaving, clear}
use Rattle.history.proofs.Accounts.{entry, block_of, Parts, After, Each, each_more, Stands, all_stand, told_of_lem, kind_told, part-append, after_one, map_same, part_map, map_twice, after_map, keep, parts_kept, Fits, gone_is, after_keep, count_told}

-- a store, as its account has it
pub record Tale (L : Store) (bs : List Born) : Type 0 where
  pub parts : Parts L bs
  pub after : After [] bs

abbrev nothing : Holding
nothing = record { kind = System; system_type = 0; texts = [] }

-- a creation
module _ (S : MakeSpec) (n : ℕ) (x : ℕ) (fs : List ℕ) (xss : List (List ℕ)) (hs : List Holding) (F : Steady S n (record { blocks = record { chains = xss; free = suc x ∷ fs }; held = hs })) (c : ℕ) (cn : c ≤ n + n) (k : Kind) (t : ℕ) where
  abbrev before : Store
  before = record { blocks = record { chains = xss; free = suc x ∷ fs }; held = hs }

  abbrev behind : Store
  behind = record { blocks = record { chains = set xss c (get_or xss c [] ++ (suc x ∷ [])); free = fs }; held = set hs x (fresh S k t) }

  x_in : suc x ≤ n
  x_in = (F.blocks.within (suc x) (omega (arith, tick_same (suc x)))).1

  not_x : (d i : ℕ) → 1 ≤ occ i (get_or xss d []) → (1 ≤ i) × (i ≢ suc x)
  not_x d i o = ((F.blocks.within i (omega (arith, o, occ_one i d xss))).0, λ is. omega (arith, o, tick_same (suc x), F.blocks.once (suc x), occ_one (suc x) d xss, ap (λ z. occ z (get_or xss d [])) is))

  same_holding : (d i : ℕ) → 1 ≤ occ i (get_or xss d []) → holding before i ≡ holding behind i
  same_holding d i o = let w = not_x d i o in sym (get_or-set_other hs x (i - 1) (fresh S k t) nothing (λ e. w.1 (omega (arith, e, w.0))))

  new_holding : fresh S k t ≡ holding behind (suc x)
  new_holding = sym (ap (λ z. get_or (set hs x (fresh S k t)) z nothing) less ∙ get_or-set_same hs x (fresh S k t) nothing (omega (arith, x_in, F.long)))
    where
      less : suc x - 1 ≡ x
      less = omega arith

  module _ (home : Chain) (is : home ≡ chain_at c) (bs : List Born) (told : Parts before bs) where
    abbrev new : Born
    new = record { block = suc x; home = home; holds = fresh S k t }

    numbered : number home ≡ c
    numbered = ap number is ∙ number_at c

    born_parts : Parts behind (bs ++ (record { block = suc x; home = home; holds = fresh S k t } ∷ []))
    born_parts d =
        part-append d bs (new ∷ []) ∙ ap (λ z. z ++ born_numbered d (new ∷ [])) (told d ∙ map_same (entry before d) (entry behind d) (get_or xss d []) (λ i o j. record { block = i; home = chain_at d; holds = same_holding d i o j }))
        ∙ elim (cases_eq c d) [
          | inl e ↦ ap (λ b. map (entry behind d) (get_or xss d []) ++ cond b (new ∷ []) []) (eq-eqb (number home) d (numbered ∙ e))
              ∙ (λ j. map (entry behind d) (get_or xss d []) ++ (record { block = suc x; home = (is ∙ ap chain_at e) j; holds = new_holding j } ∷ []))
              ∙ sym (map-append (entry behind d) (get_or xss d []) (suc x ∷ []))
              ∙ ap (map (entry behind d)) (ap (λ z. get_or xss z [] ++ (suc x ∷ [])) (sym e) ∙ sym (get_or-set_same xss c (get_or xss c [] ++ (suc x ∷ [])) [] (omega (arith, F.blocks.size, cn))) ∙ ap (λ z. get_or (set xss c (get_or xss c [] ++ (suc x ∷ []))) z []) e)
          | inr ne ↦ ap (λ b. map (entry behind d) (get_or xss d []) ++ cond b (new ∷ []) []) (ne_eqb (number home) d (λ z. ne (sym numbered ∙ z)))
              ∙ append-nil (map (entry behind d) (get_or xss d [])) ∙ ap (map (entry behind d)) (sym (get_or-set_other xss c d (get_or xss c [] ++ (suc x ∷ [])) [] (λ z. ne (sym z))))
        ]

module _ (S : MakeSpec) (bs : List Born) where
  typed_none : (o : Option ℕ) → born_typed S bs o None ≡ bs
  typed_none None = refl
  typed_none (Some n) = refl

  under_none : (b : Branch) (k : ℕ → Kind) (o : Option ℕ) → born_under S bs b k o None ≡ bs
  under_none b k None = refl
  under_none b k (Some i) = refl

  gone_none : (o : Option ℕ) → gone_at bs o false ≡ bs
  gone_none None = refl
  gone_none (Some i) = refl

  retold_none : (o : Option ℕ) (ts : List (List ℕ)) → retold_at S bs o ts false ≡ bs
  retold_none None ts = refl
  retold_none (Some i) ts = refl

  read_none : (fs : List (List ℕ)) → read_or_retold S bs fs false ≡ bs
  read_none fs = elim (eqb (length fs) 1) as (λ b. cond b bs (retold_at S bs (named fs) (drop 1 fs) false) ≡ bs) [ true ↦ refl | false ↦ retold_none (named fs) (drop 1 fs) ]

  -- nothing was created, deleted or accepted
  lived_silent : (c : Command) (fs : List (List ℕ)) (r : List ℕ) → Silent r → lived S bs c fs r ≡ bs
  lived_silent Prg fs r q = refl
  lived_silent Epg fs r q = refl
  lived_silent Clr fs r q = ap (λ b. cond b [] bs) (q.got Clr)
  lived_silent Sct fs r q = refl
  lived_silent Sih fs r q = refl
  lived_silent Sit fs r q = refl
  lived_silent Rmb fs r q = refl
  lived_silent Csy fs r q = ap (born_typed S bs (type_named S.types (get_or fs 0 []))) q.index ∙ typed_none (type_named S.types (get_or fs 0 []))
  lived_silent Agc fs r q = ap (born_under S bs First (λ i. ChannelGroup) (named fs)) q.index ∙ under_none First (λ i. ChannelGroup) (named fs)
  lived_silent Ast fs r q = ap (born_under S bs First (λ i. Site) (named fs)) q.index ∙ under_none First (λ i. Site) (named fs)
  lived_silent Agt fs r q = ap (born_under S bs Second (λ i. TalkgroupGroup) (named fs)) q.index ∙ under_none Second (λ i. TalkgroupGroup) (named fs)
  lived_silent Acc fs r q = ap (born_under S bs First (λ i. low_kind (kind_in bs i)) (named fs)) q.index ∙ under_none First (λ i. low_kind (kind_in bs i)) (named fs)
  lived_silent Act fs r q = ap (born_under S bs First (λ i. Talkgroup) (named fs)) q.index ∙ under_none First (λ i. Talkgroup) (named fs)
  lived_silent Dsy fs r q = ap (gone_at bs (named fs)) (q.got Dsy) ∙ gone_none (named fs)
  lived_silent Dgr fs r q = ap (gone_at bs (named fs)) (q.got Dgr) ∙ gone_none (named fs)
  lived_silent Dch fs r q = ap (gone_at bs (named fs)) (q.got Dch) ∙ gone_none (named fs)
  lived_silent Fwd fs r q = refl
  lived_silent Rev fs r q = refl
  lived_silent Trn fs r q = refl
  lived_silent Sin fs r q = ap (read_or_retold S bs fs) (q.got Sin) ∙ read_none fs
  lived_silent Sif fs r q = ap (read_or_retold S bs fs) (q.got Sif) ∙ read_none fs
  lived_silent Gin fs r q = ap (read_or_retold S bs fs) (q.got Gin) ∙ read_none fs
  lived_silent Cin fs r q = ap (read_or_retold S bs fs) (q.got Cin) ∙ read_none fs
  lived_silent Tin fs r q = ap (read_or_retold S bs fs) (q.got Tin) ∙ read_none fs
  lived_silent Tfq fs r q = ap (read_or_retold S bs fs) (q.got Tfq) ∙ read_none fs

  lived_by_silent : (o : Option Command) (fs : List (List ℕ)) (r : List ℕ) → Silent r → lived_by S bs o fs r ≡ bs
  lived_by_silent None fs r q = refl
  lived_by_silent (Some c) fs r q = lived_silent c fs r q

-- kinds under a group or a site
low_is : (k : Kind) → (eqb 3 (kind_number k) || eqb 2 (kind_number k)) ≡ true → low_kind k ≡ member_kind k
low_is System e = absurd (false≢true e)
low_is Site e = refl
low_is ChannelGroup e = refl
low_is TalkgroupGroup e = absurd (false≢true e)
low_is Channel e = refl
low_is Talkgroup e = absurd (false≢true e)
low_is TrunkFrequency e = absurd (false≢true e)

talkgroup_is : (k : Kind) → eqb 4 (kind_number k) ≡ true → Talkgroup ≡ member_kind k
talkgroup_is System e = absurd (false≢true e)
talkgroup_is Site e = absurd (false≢true e)
talkgroup_is ChannelGroup e = absurd (false≢true e)
talkgroup_is TalkgroupGroup e = refl
talkgroup_is Channel e = absurd (false≢true e)
talkgroup_is Talkgroup e = refl
talkgroup_is TrunkFrequency e = absurd (false≢true e)

pub empty_told : (S : MakeSpec) (n : ℕ) → Tale (emptied S n) []
empty_told S n = record { parts = λ c. sym (ap (map (entry (emptied S n) c)) (chain_empty (n + n + 1) c)); after = tt }

module _ (S : MakeSpec) (n : ℕ) (few : n ≤ 45000) where
  create_told : (fs : List ℕ) (xss : List (List ℕ)) (hs : List Holding) → Steady S n (record { blocks = record { chains = xss; free = fs }; held = hs }) → (cmd : Command) (c : ℕ) → c ≤ n + n → (home : Chain) → home ≡ chain_at c → (k : Kind) (t : ℕ) (bs : List Born) → Tale (record { blocks = record { chains = xss; free = fs }; held = hs }) bs → (owner_in home ≡ 0) ⊎ (1 ≤ occ (owner_in home) (map block_of bs)) → Tale (grown S (record { blocks = record { chains = xss; free = fs }; held = hs }) c k t) (born_at S bs home k t (index_told (reply (name_of cmd) (shown (head_or 0 fs) ∷ []))))
  create_told [] xss hs F cmd c cn home is k t bs T o = subst (λ z. Tale (record { blocks = record { chains = xss; free = [] }; held = hs }) (born_at S bs home k t z)) (sym (none_told cmd)) T
  create_told (zero ∷ fs) xss hs F cmd c cn home is k t bs T o = absurd (omega (arith, F.blocks.within 0 (omega (arith, tick_same 0))))
  create_told (suc x ∷ fs) xss hs F cmd c cn home is k t bs T o =
      subst (λ z. Tale (grown S (record { blocks = record { chains = xss; free = suc x ∷ fs }; held = hs }) c k t) (born_at S bs home k t z)) (sym (told_back cmd (suc x) (omega arith) (omega (arith, few, x_in S n x fs xss hs F c cn k t))))
      (record { parts = born_parts S n x fs xss hs F c cn k t home is bs T.parts; after = after_one (record { block = suc x; home = home; holds = fresh S k t }) [] bs T.after (elim o [ inl z ↦ inl z | inr z ↦ inr (omega (arith, z)) ]) })

  module _ (L : Store) (F : Steady S n L) (bs : List Born) (T : Tale L bs) where
    grown_told : (cmd : Command) (c : ℕ) → c ≤ n + n → (home : Chain) → home ≡ chain_at c → (k : Kind) (t : ℕ) → (owner_in home ≡ 0) ⊎ (1 ≤ occ (owner_in home) (map block_of bs)) → Tale (grown S L c k t) (born_at S bs home k t (index_told (reply (name_of cmd) (shown (head_or 0 L.blocks.free) ∷ []))))
    grown_told cmd c cn home is k t o = create_told L.blocks.free L.blocks.chains L.held F cmd c cn home is k t bs T o

    known_told : (i : ℕ) → living L i ≡ true → 1 ≤ occ i (map block_of bs)
    known_told i lives = told_of_lem L bs T.parts i (ltb-true 0 (occ_all i L.blocks.chains) lives)

    once : (i c : ℕ) → occ i (chain L.blocks c) ≤ 1
    once i c = omega (arith, F.blocks.once i, occ_one i c L.blocks.chains)

    -- a deletion: which records go is read off the account
    module _ (x : ℕ) (lives : living L x ≡ true) where
      abbrev G : Gone L.blocks (deleted L.blocks x) (x ∷ [])
      G = leaving S n L F x lives

      in_D : (d : ℕ) → 1 ≤ occ d (leaving S n L F x lives).ds → 1 ≤ d
      in_D d h = (F.blocks.within d (omega (arith, h, G.left.falls d))).0

      -- a chain's number tells its owner
      owner_first : (home : Chain) (o : ℕ) → 1 ≤ o → number home ≡ first_of o → owner_in home ≡ o
      owner_first Root o o1 e = absurd (omega (arith, e, o1))
      owner_first (Members i First) o o1 e = omega (arith, e, o1)
      owner_first (Members i Second) o o1 e = absurd (omega (arith, e, o1))

      owner_second : (home : Chain) (o : ℕ) → 1 ≤ o → number home ≡ second_of o → owner_in home ≡ o
      owner_second Root o o1 e = absurd (omega (arith, e, o1))
      owner_second (Members i First) o o1 e = absurd (omega (arith, e, o1))
      owner_second (Members i Second) o o1 e = omega (arith, e)

      emptied_by : (c y : ℕ) → chain (deleted L.blocks x) c ≡ [] → 1 ≤ occ y (chain L.blocks c) → 1 ≤ occ y (leaving S n L F x lives).ds
      emptied_by c y e h = omega (arith, h, (occ_minus y G.ds (chain L.blocks c)).1, ap (occ y) (sym (G.left.chains c) ∙ e))

      closed_at : (home : Chain) (y : ℕ) → 1 ≤ occ y (chain L.blocks (number home)) → 1 ≤ occ (owner_in home) (leaving S n L F x lives).ds → 1 ≤ occ y (leaving S n L F x lives).ds
      closed_at Root y h o = absurd (omega (arith, in_D 0 o))
      closed_at (Members i First) y h o = emptied_by (first_of i.number) y (G.left.bare i.number o).0 h
      closed_at (Members i Second) y h o = emptied_by (second_of i.number) y (G.left.bare i.number o).1 h

      fits : (b : Born) → Stands L b → Fits (leaving S n L F x lives).ds x b
      fits b s = record {
        from = λ h. elim (G.from b.block h) [
          | inl y ↦ inl (elim (cases_eq b.block x) [ inl e ↦ e | inr ne ↦ absurd (omega (arith, y, tick_other b.block x ne)) ])
          | inr m ↦ inr (subst (λ z. 1 ≤ occ z G.ds) (sym (elim m.there [
            | inl q ↦ owner_first b.home m.owner (in_D m.owner m.among) (one_chain L.blocks (clear n L.blocks F.blocks) b.block (number b.home) (first_of m.owner) s.there q)
            | inr q ↦ owner_second b.home m.owner (in_D m.owner m.among) (one_chain L.blocks (clear n L.blocks F.blocks) b.block (number b.home) (second_of m.owner) s.there q)
          ])) m.among)
        ];
        closed = λ o. closed_at b.home b.block s.there o;
      }

      none : occ 0 (leaving S n L F x lives).ds ≡ 0
      none = elim (cases_lt 0 (occ 0 G.ds)) [ inl y ↦ absurd (omega (arith, in_D 0 y)) | inr y ↦ omega (arith, y) ]

      all_fit : Each (Fits (leaving S n L F x lives).ds x) bs
      all_fit = each_more (Stands L) (Fits G.ds x) fits bs (all_stand L bs T.parts)

      gone_kept : gone (x ∷ []) bs ≡ keep (leaving S n L F x lives).ds bs
      gone_kept = gone_is G.ds x none (x ∷ []) [] bs G.starts (λ i h g. absurd (omega (arith, h))) (omega (arith, tick_same x)) all_fit T.after

      deleted_told : Tale (record { blocks = deleted L.blocks x; held = L.held }) (gone (x ∷ []) bs)
      deleted_told = subst (Tale (record { blocks = deleted L.blocks x; held = L.held })) (sym gone_kept) (record {
        parts = λ c. parts_kept L bs c G.ds T.parts (λ i. once i c) ∙ ap (map (entry L c)) (sym (G.left.chains c));
        after = after_keep G.ds x none [] [] bs (λ i h g. h) all_fit T.after;
      })

    -- a set line
    written_told : (i : ℕ) → living L i ≡ true → (ts : List (List ℕ)) → Tale (written S L i (holding L i) ts) (map (retold S i ts) bs)
    written_told i lives ts = record {
      parts = λ c. part_map S i ts c bs ∙ ap (map (retold S i ts)) (T.parts c) ∙ map_twice (retold S i ts) (entry L c) (entry (written S L i (holding L i) ts) c) (chain L.blocks c) (λ y o j. record { block = y; home = chain_at c; holds = held c y o j });
      after = after_map S i ts [] bs T.after;
    }
      where
        held : (c y : ℕ) → 1 ≤ occ y (chain L.blocks c) → cond (eqb y i) (reset S ts (holding L y)) (holding L y) ≡ get_or (set L.held (i - 1) (reset S ts (holding L i))) (y - 1) (record { kind = System; system_type = 0; texts = [] })
        held c y o = let v = in_range S n L F i lives in let y1 = (F.blocks.within y (omega (arith, o, occ_one y c L.blocks.chains))).0 in elim (cases_eq y i) [
          | inl is ↦ ap (λ b. cond b (reset S ts (holding L y)) (holding L y)) (eq-eqb y i is) ∙ ap (λ z. reset S ts (holding L z)) is
              ∙ sym (ap (λ z. get_or (set L.held (i - 1) (reset S ts (holding L i))) (z - 1) nothing) is ∙ get_or-set_same L.held (i - 1) (reset S ts (holding L i)) nothing (omega (arith, F.long, v)))
          | inr ne ↦ ap (λ b. cond b (reset S ts (holding L y)) (holding L y)) (ne_eqb y i ne)
              ∙ sym (get_or-set_other L.held (i - 1) (y - 1) (reset S ts (holding L i)) nothing (λ z. ne (omega (arith, z, v.0, y1))))
        ]

    -- a line that names a record
    aim_told : (c : Command) (fs : List (List ℕ)) (k : ℕ → Outcome) → ((i : ℕ) → Aimed n L c (get_or fs 0 []) i → Tale (k i).next (lived S bs c fs (k i).said)) → Tale (at L (target L c (get_or fs 0 [])) k).next (lived S bs c fs (at L (target L c (get_or fs 0 [])) k).said)
    aim_told c fs k h = by (target L c (get_or fs 0 [])) refl
      where
        by : (o : Option ℕ) → target L c (get_or fs 0 []) ≡ o → Tale (at L o k).next (lived S bs c fs (at L o k).said)
        by None e = subst (Tale L) (sym (lived_silent S bs c fs err silent_err)) T
        by (Some i) e = h i (aimed n L c (get_or fs 0 []) i e)

    system_told : (o : Option ℕ) → Tale (new_system S L o).next (born_typed S bs o (index_told (new_system S L o).said))
    system_told None = T
    system_told (Some t) = elim (leb most_systems (length (systems L))) as (λ b. Tale (cond b (says L Csy (shown 0 ∷ [])) (creates S L Csy 0 System t)).next (born_at S bs Root System t (index_told (cond b (says L Csy (shown 0 ∷ [])) (creates S L Csy 0 System t)).said))) [
      | true ↦ T
      | false ↦ grown_told Csy 0 (omega arith) Root refl System t (inl refl)
    ]

    -- a new record in the first chain of i, and in the second
    first_told : (cmd : Command) (i : ℕ) → living L i ≡ true → (k : Kind) → Tale (grown S L (first_of i) k 0) (born_at S bs (members_of i First) k 0 (index_told (reply (name_of cmd) (shown (head_or 0 L.blocks.free) ∷ []))))
    first_told cmd i lives k = grown_told cmd (first_of i) (open_first S n L F i lives).upto (members_of i First) (sym (at_number (members_of i First) (in_range S n L F i lives).0)) k 0 (inr (known_told i lives))

    second_told : (cmd : Command) (i : ℕ) → living L i ≡ true → (k : Kind) → Tale (grown S L (second_of i) k 0) (born_at S bs (members_of i Second) k 0 (index_told (reply (name_of cmd) (shown (head_or 0 L.blocks.free) ∷ []))))
    second_told cmd i lives k = grown_told cmd (second_of i) (open_second S n L F i lives).upto (members_of i Second) (sym (at_number (members_of i Second) (in_range S n L F i lives).0)) k 0 (inr (known_told i lives))

    -- the index that a line names, and the kind that the record gets
    under_first : (cmd : Command) (fs : List (List ℕ)) (i : ℕ) (kind : ℕ → Kind) (k : Kind) → Aimed n L cmd (get_or fs 0 []) i → kind i ≡ k → Tale (grown S L (first_of i) k 0) (born_under S bs First kind (named fs) (index_told (reply (name_of cmd) (shown (head_or 0 L.blocks.free) ∷ []))))
    under_first cmd fs i kind k a is =
        let x : Option ℕ = index_told (reply (name_of cmd) (shown (head_or 0 L.blocks.free) ∷ [])) in
        subst (λ o. Tale (grown S L (first_of i) k 0) (born_under S bs First kind o x)) (sym a.told) (subst (λ z. Tale (grown S L (first_of i) k 0) (born_at S bs (members_of i First) z 0 x)) (sym is) (first_told cmd i a.lives k))

    under_second : (cmd : Command) (fs : List (List ℕ)) (i : ℕ) (k : Kind) → Aimed n L cmd (get_or fs 0 []) i → Tale (grown S L (second_of i) k 0) (born_under S bs Second (λ j. k) (named fs) (index_told (reply (name_of cmd) (shown (head_or 0 L.blocks.free) ∷ []))))
    under_second cmd fs i k a = subst (λ o. Tale (grown S L (second_of i) k 0) (born_under S bs Second (λ j. k) o (index_told (reply (name_of cmd) (shown (head_or 0 L.blocks.free) ∷ []))))) (sym a.told) (second_told cmd i a.lives k)

    owner_kind : (i : ℕ) → living L i ≡ true → kind_in bs i ≡ (holding L i).kind
    owner_kind i lives = kind_told L i bs (all_stand L bs T.parts) (known_told i lives)

    delete_told : (cmd : Command) (fs : List (List ℕ)) (i : ℕ) → Aimed n L cmd (get_or fs 0 []) i → Tale (deletes L cmd i).next (gone_at bs (named fs) (accepted cmd (deletes L cmd i).said))
    delete_told cmd fs i a =
        subst (λ o. Tale (deletes L cmd i).next (gone_at bs o (accepted cmd (deletes L cmd i).said))) (sym a.told)
        (subst (λ b. Tale (deletes L cmd i).next (cond b (gone (i ∷ []) bs) bs)) (sym (ok_got cmd)) (deleted_told i a.lives))

    set_told : (cmd : Command) (fs ts : List (List ℕ)) (i : ℕ) → Aimed n L cmd (get_or fs 0 []) i → Tale (sets S L cmd i (holding L i) ts).next (retold_at S bs (named fs) ts (accepted cmd (sets S L cmd i (holding L i) ts).said))
    set_told cmd fs ts i a = elim (fields_legal S (holding L i).kind 0 ts) as (λ b. Tale (cond b (changes (written S L i (holding L i) ts) (new_texts i ts) cmd) (refused L err)).next (retold_at S bs (named fs) ts (accepted cmd (cond b (changes (written S L i (holding L i) ts) (new_texts i ts) cmd) (refused L err)).said))) [
      | true ↦ subst (λ o. Tale (written S L i (holding L i) ts) (retold_at S bs o ts (accepted cmd (reply (name_of cmd) (codes "OK" ∷ []))))) (sym a.told)
          (subst (λ b. Tale (written S L i (holding L i) ts) (cond b (map (retold S i ts) bs) bs)) (sym (ok_got cmd)) (written_told i a.lives ts))
      | false ↦ subst (λ b. Tale L (retold_at S bs (named fs) ts b)) (sym (silent_err.got cmd)) (subst (Tale L) (sym (retold_none S bs (named fs) ts)) T)
    ]

    read_told : (cmd : Command) (fs : List (List ℕ)) → Tale (read_or_set S L cmd fs).next (read_or_retold S bs fs (accepted cmd (read_or_set S L cmd fs).said))
    read_told cmd fs = by (target L cmd (get_or fs 0 [])) refl
      where
        by : (o : Option ℕ) → target L cmd (get_or fs 0 []) ≡ o → Tale (at L o (λ i. cond (eqb (length fs) 1) (says L cmd (shown_record S L i (holding L i))) (sets S L cmd i (holding L i) (drop 1 fs)))).next (read_or_retold S bs fs (accepted cmd (at L o (λ i. cond (eqb (length fs) 1) (says L cmd (shown_record S L i (holding L i))) (sets S L cmd i (holding L i) (drop 1 fs)))).said))
        by None e = subst (λ b. Tale L (read_or_retold S bs fs b)) (sym (silent_err.got cmd)) (subst (Tale L) (sym (read_none S bs fs)) T)
        by (Some i) e = elim (eqb (length fs) 1) as (λ b. Tale (cond b (says L cmd (shown_record S L i (holding L i))) (sets S L cmd i (holding L i) (drop 1 fs))).next (cond b bs (retold_at S bs (named fs) (drop 1 fs) (accepted cmd (cond b (says L cmd (shown_record S L i (holding L i))) (sets S L cmd i (holding L i) (drop 1 fs))).said)))) [
          | true ↦ T
          | false ↦ set_told cmd fs (drop 1 fs) i (aimed n L cmd (get_or fs 0 []) i e)
        ]

    pub done_told : (c : Command) (fs : List (List ℕ)) → Tale (done S L c fs).next (lived S bs c fs (done S L c fs).said)
    done_told Prg fs = T
    done_told Epg fs = T
    done_told Clr fs = subst (λ b. Tale (done S L Clr fs).next (cond b [] bs)) (sym (ok_got Clr)) (empty_told S (length L.held))
    done_told Sct fs = T
    done_told Sih fs = T
    done_told Sit fs = T
    done_told Rmb fs = T
    done_told Csy fs = system_told (type_named S.types (get_or fs 0 []))
    done_told Agc fs = aim_told Agc fs (λ i. creates S L Agc (first_of i) ChannelGroup 0) (λ i a. under_first Agc fs i (λ j. ChannelGroup) ChannelGroup a refl)
    done_told Ast fs = aim_told Ast fs (λ i. creates S L Ast (first_of i) Site 0) (λ i a. under_first Ast fs i (λ j. Site) Site a refl)
    done_told Agt fs = aim_told Agt fs (λ i. creates S L Agt (second_of i) TalkgroupGroup 0) (λ i a. under_second Agt fs i TalkgroupGroup a)
    done_told Acc fs = aim_told Acc fs (λ i. creates S L Acc (first_of i) (member_kind (holding L i).kind) 0) (λ i a. under_first Acc fs i (λ j. low_kind (kind_in bs j)) (member_kind (holding L i).kind) a (ap low_kind (owner_kind i a.lives) ∙ low_is (holding L i).kind a.fits))
    done_told Act fs = aim_told Act fs (λ i. creates S L Act (first_of i) (member_kind (holding L i).kind) 0) (λ i a. under_first Act fs i (λ j. Talkgroup) (member_kind (holding L i).kind) a (talkgroup_is (holding L i).kind a.fits))
    done_told Dsy fs = aim_told Dsy fs (deletes L Dsy) (λ i a. delete_told Dsy fs i a)
    done_told Dgr fs = aim_told Dgr fs (deletes L Dgr) (λ i a. delete_told Dgr fs i a)
    done_told Dch fs = aim_told Dch fs (deletes L Dch) (λ i a. delete_told Dch fs i a)
    done_told Fwd fs = aim_told Fwd fs _ (λ i a. T)
    done_told Rev fs = aim_told Rev fs _ (λ i a. T)
    done_told Trn fs = aim_told Trn fs _ (λ i a. T)
    done_told Sin fs = read_told Sin fs
    done_told Sif fs = read_told Sif fs
    done_told Gin fs = read_told Gin fs
    done_told Cin fs = read_told Cin fs
    done_told Tin fs = read_told Tin fs
    done_told Tfq fs = read_told Tfq fs

  -- one line, and what it got
  module _ (L : Store) (F : Steady S n L) (bs : List Born) (T : Tale L bs) (line : List ℕ) where
    quiet_told : (t : Told) → Quiet t → Tale L (heard S bs line t)
    quiet_told short q = T
    quiet_told (said r) q = subst (Tale L) (sym (lived_by_silent S bs (command line) (fields line) r q)) T

    pub told_moved : (L' : Store) (t : Told) → Moved S L line L' t → Tale L' (heard S bs line t)
    told_moved = by_move S L line (λ M t. Tale M (heard S bs line t)) quiet_told
        (λ c e. subst (λ o. Tale (done S L c (fields line)).next (lived_by S bs o (fields line) (done S L c (fields line)).said)) (sym e) (done_told L F bs T c (fields line)))

-- chain by chain
pub tale_tells : (L : Store) (bs : List Born) → Tale L bs → Tells L bs
tale_tells L bs T = record {
  roots = T.parts 0;
  firsts = λ i i1. T.parts (first_of i) ∙ ap (λ c. map (born_as L c) (members L i)) (at_number (members_of i First) i1);
  seconds = λ i i1. T.parts (second_of i) ∙ ap (λ c. map (born_as L c) (talkgroups L i)) (at_number (members_of i Second) i1);
  count = count_told L bs T.parts;
}
