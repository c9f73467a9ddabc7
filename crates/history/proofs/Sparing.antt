-- What lines and replies tell of the free blocks is what the ledger does. Assumes nothing.
use Rattle.std.proofs.Common.{◌≡◌, ℕ, zero, suc, ◌<◌, ◌≤◌, true, false, cond, eqb, leb, List, [], ◌∷◌, ◌++◌, map, reverse, length, get_or, drop, Some, None, codes, Option, sym, refl, ap, ◌∙◌, subst, inl, inr, arith}
use Rattle.std.specs.List.{flat_map}
use Rattle.std.proofs.lemmas.Bool.{ltb-true}
use Rattle.make.specs.declared.kind.Kind.{Kind}
use Rattle.make.specs.declared.kind.Kind.TheVariants.{System, Site, ChannelGroup, TalkgroupGroup}
use Rattle.make.specs.Data.{MakeSpec, type_named}
use Rattle.chain.specs.declared.link.Branch.TheVariants.{First, Second}
use Rattle.chain.specs.declared.link.Chain.{Chain}
use Rattle.chain.specs.Entry.{first_of, second_of, number}
use Rattle.chain.specs.Rows.{head_or}
use Rattle.chain.specs.Blocks.{chain, deleted, run, occ_all, total}
use Rattle.chain.proofs.Numbers.{at_number}
use Rattle.chain.proofs.Keeps.{tick_same}
use Rattle.ledger.specs.declared.command.Command.{Command}
use Rattle.ledger.specs.declared.command.Command.TheVariants.{Prg, Epg, Clr, Sct, Sih, Sit, Rmb, Csy, Agc, Ast, Agt, Acc, Act, Dsy, Dgr, Dch, Fwd, Rev, Trn, Sin, Sif, Gin, Cin, Tin, Tfq}
use Rattle.ledger.specs.Limits.{most_systems}
use Rattle.ledger.specs.Commands.{name_of}
use Rattle.ledger.specs.Ledger.{Store, Holding, holding, living, systems}
use Rattle.ledger.specs.Records.{member_kind, target}
use Rattle.ledger.specs.Texts.{fields_legal}
use Rattle.ledger.specs.Replies.{err, reply, shown, shown_record}
use Rattle.ledger.specs.Steps.{new_texts, Outcome, changes, done, at, says, refused, grown, creates, new_system, deletes, written, sets, read_or_set}
use Rattle.ledger.specs.Lines.{command, fields}
use Rattle.ledger.specs.Runs.{Told, short, said}
use Rattle.history.specs.Orderly.{Steady}
use Rattle.history.specs.Told.{index_told}
use Rattle.history.specs.History.{Born, owner_in, accepted, named, indexes_in, members_of}
use Rattle.history.specs.Freed.{going, taken_by, freed_by, spared, spared_by, spared_at}
use Rattle.history.proofs.Asking.{told_back}
use Rattle.history.proofs.Freeing.{order, joined_same, Ranked, frees}
use Rattle.history.proofs.Steadily.{Aimed, aimed, clear}
use Rattle.history.proofs.Accounts.{block_of, blocks_map, rank, rank_rises, count_told}
use Rattle.history.proofs.Silence.{Silent, silent_err, ok_got, none_told}
use Rattle.history.specs.Course.{Moved}
use Rattle.history.proofs.Stepping.{Quiet, by_move}
use Rattle.history.proofs.Histories.{Tale}

-- the order in which an account's records go is that of the blocks
module _ (L : Store) (bs : List Born) (T : Tale L bs) where
  pub row : (c : Chain) → indexes_in c bs ≡ chain L.blocks (number c)
  row c = ap (map block_of) (T.parts (number c)) ∙ blocks_map L (number c) (chain L.blocks (number c))

  going_is : (m i : ℕ) → going m bs i ≡ order m L.blocks i
  going_is zero i = refl
  going_is (suc m) i =
      ap (λ ys. flat_map (going m bs) ys ++ (flat_map (going m bs) (indexes_in (members_of i Second) bs) ++ (i ∷ []))) (row (members_of i First))
      ∙ ap (λ zs. flat_map (going m bs) (chain L.blocks (first_of i)) ++ (flat_map (going m bs) zs ++ (i ∷ []))) (row (members_of i Second))
      ∙ ap (λ ys. ys ++ (flat_map (going m bs) (chain L.blocks (second_of i)) ++ (i ∷ []))) (joined_same (going m bs) (order m L.blocks) (chain L.blocks (first_of i)) (λ z h. going_is m z))
      ∙ ap (λ zs. flat_map (order m L.blocks) (chain L.blocks (first_of i)) ++ (zs ++ (i ∷ []))) (joined_same (going m bs) (order m L.blocks) (chain L.blocks (second_of i)) (λ z h. going_is m z))

none_freed : (bs : List Born) (fs : List ℕ) (o : Option ℕ) → freed_by bs fs o false ≡ fs
none_freed bs fs None = refl
none_freed bs fs (Some i) = refl

-- nothing was created, deleted or cleared
freed_silent : (n : ℕ) (bs : List Born) (fs : List ℕ) (c : Command) (gs : List (List ℕ)) (r : List ℕ) → Silent r → spared n bs fs c gs r ≡ fs
freed_silent n bs fs Prg gs r q = refl
freed_silent n bs fs Epg gs r q = refl
freed_silent n bs fs Clr gs r q = ap (λ b. cond b (run 1 n) fs) (q.got Clr)
freed_silent n bs fs Sct gs r q = refl
freed_silent n bs fs Sih gs r q = refl
freed_silent n bs fs Sit gs r q = refl
freed_silent n bs fs Rmb gs r q = refl
freed_silent n bs fs Csy gs r q = ap (taken_by fs) q.index
freed_silent n bs fs Agc gs r q = ap (taken_by fs) q.index
freed_silent n bs fs Ast gs r q = ap (taken_by fs) q.index
freed_silent n bs fs Agt gs r q = ap (taken_by fs) q.index
freed_silent n bs fs Acc gs r q = ap (taken_by fs) q.index
freed_silent n bs fs Act gs r q = ap (taken_by fs) q.index
freed_silent n bs fs Dsy gs r q = ap (freed_by bs fs (named gs)) (q.got Dsy) ∙ none_freed bs fs (named gs)
freed_silent n bs fs Dgr gs r q = ap (freed_by bs fs (named gs)) (q.got Dgr) ∙ none_freed bs fs (named gs)
freed_silent n bs fs Dch gs r q = ap (freed_by bs fs (named gs)) (q.got Dch) ∙ none_freed bs fs (named gs)
freed_silent n bs fs Fwd gs r q = refl
freed_silent n bs fs Rev gs r q = refl
freed_silent n bs fs Trn gs r q = refl
freed_silent n bs fs Sin gs r q = refl
freed_silent n bs fs Sif gs r q = refl
freed_silent n bs fs Gin gs r q = refl
freed_silent n bs fs Cin gs r q = refl
freed_silent n bs fs Tin gs r q = refl
freed_silent n bs fs Tfq gs r q = refl

module _ (S : MakeSpec) (n : ℕ) (few : n ≤ 45000) where
  -- a creation takes the front free block
  taken_told : (fs : List ℕ) (xss : List (List ℕ)) (hs : List Holding) → Steady S n (record { blocks = record { chains = xss; free = fs }; held = hs }) → (cmd : Command) (c : ℕ) (k : Kind) (t : ℕ) → (grown S (record { blocks = record { chains = xss; free = fs }; held = hs }) c k t).blocks.free ≡ taken_by fs (index_told (reply (name_of cmd) (shown (head_or 0 fs) ∷ [])))
  taken_told [] xss hs F cmd c k t = sym (ap (taken_by []) (none_told cmd))
  taken_told (x ∷ fs) xss hs F cmd c k t = let w = F.blocks.within x (omega (arith, tick_same x)) in sym (ap (taken_by (x ∷ fs)) (told_back cmd x w.0 (omega (arith, w.1, few))))

  module _ (L : Store) (F : Steady S n L) (bs : List Born) (T : Tale L bs) where
    abbrev fs : List ℕ
    fs = L.blocks.free

    grown_free : (cmd : Command) (c : ℕ) (k : Kind) (t : ℕ) → (grown S L c k t).blocks.free ≡ taken_by L.blocks.free (index_told (reply (name_of cmd) (shown (head_or 0 L.blocks.free) ∷ [])))
    grown_free cmd c k t = taken_told L.blocks.free L.blocks.chains L.held F cmd c k t

    ranked : Ranked (rank bs) L.blocks
    ranked o z o1 (inl h) = let e = ap owner_in (at_number (members_of o First) o1) in subst (λ w. rank bs w < rank bs z) e (rank_rises L bs T.parts T.after (λ i. omega (arith, F.blocks.once i)) (first_of o) z (omega (arith, e, o1)) h)
    ranked o z o1 (inr h) = let e = ap owner_in (at_number (members_of o Second) o1) in subst (λ w. rank bs w < rank bs z) e (rank_rises L bs T.parts T.after (λ i. omega (arith, F.blocks.once i)) (second_of o) z (omega (arith, e, o1)) h)

    deleted_free : (x : ℕ) → living L x ≡ true → (deleted L.blocks x).free ≡ reverse (going (length bs) bs x) ++ L.blocks.free
    deleted_free x lives =
        frees (total L.blocks.chains) (rank bs) L.blocks x (clear n L.blocks F.blocks) ranked (ltb-true 0 (occ_all x L.blocks.chains) lives) (omega arith)
        ∙ ap (λ z. reverse z ++ L.blocks.free) (sym (going_is L bs T (total L.blocks.chains) x) ∙ ap (λ m. going m bs x) (count_told L bs T.parts))

    aim_free : (c : Command) (gs : List (List ℕ)) (k : ℕ → Outcome) → ((i : ℕ) → Aimed n L c (get_or gs 0 []) i → (k i).next.blocks.free ≡ spared n bs L.blocks.free c gs (k i).said) → (at L (target L c (get_or gs 0 [])) k).next.blocks.free ≡ spared n bs L.blocks.free c gs (at L (target L c (get_or gs 0 [])) k).said
    aim_free c gs k h = by (target L c (get_or gs 0 [])) refl
      where
        by : (o : Option ℕ) → target L c (get_or gs 0 []) ≡ o → (at L o k).next.blocks.free ≡ spared n bs L.blocks.free c gs (at L o k).said
        by None e = sym (freed_silent n bs fs c gs err silent_err)
        by (Some i) e = h i (aimed n L c (get_or gs 0 []) i e)

    system_free : (o : Option ℕ) → (new_system S L o).next.blocks.free ≡ taken_by L.blocks.free (index_told (new_system S L o).said)
    system_free None = refl
    system_free (Some t) = elim (leb most_systems (length (systems L))) as (λ b. (cond b (says L Csy (shown 0 ∷ [])) (creates S L Csy 0 System t)).next.blocks.free ≡ taken_by L.blocks.free (index_told (cond b (says L Csy (shown 0 ∷ [])) (creates S L Csy 0 System t)).said)) [ true ↦ refl | false ↦ grown_free Csy 0 System t ]

    delete_free : (cmd : Command) (gs : List (List ℕ)) (i : ℕ) → Aimed n L cmd (get_or gs 0 []) i → (deleted L.blocks i).free ≡ freed_by bs L.blocks.free (named gs) (accepted cmd (reply (name_of cmd) (codes "OK" ∷ [])))
    delete_free cmd gs i a = deleted_free i a.lives ∙ sym (ap (λ o. freed_by bs fs o (accepted cmd (reply (name_of cmd) (codes "OK" ∷ [])))) a.told ∙ ap (freed_by bs fs (Some i)) (ok_got cmd))

    -- a read or a set line leaves the blocks
    read_free : (cmd : Command) (gs : List (List ℕ)) → (read_or_set S L cmd gs).next.blocks.free ≡ L.blocks.free
    read_free cmd gs = by (target L cmd (get_or gs 0 []))
      where
        by : (o : Option ℕ) → (at L o (λ i. cond (eqb (length gs) 1) (says L cmd (shown_record S L i (holding L i))) (sets S L cmd i (holding L i) (drop 1 gs)))).next.blocks.free ≡ L.blocks.free
        by None = refl
        by (Some i) = elim (eqb (length gs) 1) as (λ b. (cond b (says L cmd (shown_record S L i (holding L i))) (sets S L cmd i (holding L i) (drop 1 gs))).next.blocks.free ≡ L.blocks.free) [
          | true ↦ refl
          | false ↦ elim (fields_legal S (holding L i).kind 0 (drop 1 gs)) as (λ b. (cond b (changes (written S L i (holding L i) (drop 1 gs)) (new_texts i (drop 1 gs)) cmd) (refused L err)).next.blocks.free ≡ L.blocks.free) [ true ↦ refl | false ↦ refl ]
        ]

    done_free : (c : Command) (gs : List (List ℕ)) → (done S L c gs).next.blocks.free ≡ spared n bs L.blocks.free c gs (done S L c gs).said
    done_free Prg gs = refl
    done_free Epg gs = refl
    done_free Clr gs = ap (run 1) F.long ∙ sym (ap (λ b. cond b (run 1 n) fs) (ok_got Clr))
    done_free Sct gs = refl
    done_free Sih gs = refl
    done_free Sit gs = refl
    done_free Rmb gs = refl
    done_free Csy gs = system_free (type_named S.types (get_or gs 0 []))
    done_free Agc gs = aim_free Agc gs (λ i. creates S L Agc (first_of i) ChannelGroup 0) (λ i a. grown_free Agc (first_of i) ChannelGroup 0)
    done_free Ast gs = aim_free Ast gs (λ i. creates S L Ast (first_of i) Site 0) (λ i a. grown_free Ast (first_of i) Site 0)
    done_free Agt gs = aim_free Agt gs (λ i. creates S L Agt (second_of i) TalkgroupGroup 0) (λ i a. grown_free Agt (second_of i) TalkgroupGroup 0)
    done_free Acc gs = aim_free Acc gs (λ i. creates S L Acc (first_of i) (member_kind (holding L i).kind) 0) (λ i a. grown_free Acc (first_of i) (member_kind (holding L i).kind) 0)
    done_free Act gs = aim_free Act gs (λ i. creates S L Act (first_of i) (member_kind (holding L i).kind) 0) (λ i a. grown_free Act (first_of i) (member_kind (holding L i).kind) 0)
    done_free Dsy gs = aim_free Dsy gs (deletes L Dsy) (λ i a. delete_free Dsy gs i a)
    done_free Dgr gs = aim_free Dgr gs (deletes L Dgr) (λ i a. delete_free Dgr gs i a)
    done_free Dch gs = aim_free Dch gs (deletes L Dch) (λ i a. delete_free Dch gs i a)
    done_free Fwd gs = aim_free Fwd gs _ (λ i a. refl)
    done_free Rev gs = aim_free Rev gs _ (λ i a. refl)
    done_free Trn gs = aim_free Trn gs _ (λ i a. refl)
    done_free Sin gs = read_free Sin gs
    done_free Sif gs = read_free Sif gs
    done_free Gin gs = read_free Gin gs
    done_free Cin gs = read_free Cin gs
    done_free Tin gs = read_free Tin gs
    done_free Tfq gs = read_free Tfq gs

  -- one line, and what it got
  module _ (L : Store) (F : Steady S n L) (bs : List Born) (T : Tale L bs) (line : List ℕ) where
    silent_free : (o : Option Command) (gs : List (List ℕ)) (r : List ℕ) → Silent r → L.blocks.free ≡ spared_by n bs L.blocks.free o gs r
    silent_free None gs r q = refl
    silent_free (Some c) gs r q = sym (freed_silent n bs L.blocks.free c gs r q)

    quiet_free : (t : Told) → Quiet t → L.blocks.free ≡ spared_at n bs L.blocks.free line t
    quiet_free short q = refl
    quiet_free (said r) q = silent_free (command line) (fields line) r q

    pub free_moved : (L' : Store) (t : Told) → Moved S L line L' t → L'.blocks.free ≡ spared_at n bs L.blocks.free line t
    free_moved = by_move S L line (λ M t. M.blocks.free ≡ spared_at n bs L.blocks.free line t) quiet_free
        (λ c e. done_free L F bs T c (fields line) ∙ ap (λ o. spared_by n bs L.blocks.free o (fields line) (done S L c (fields line)).said) (sym e))
