-- A store stays steady over every line. Assumes nothing.
use Rattle.std.proofs.Common.{◌≡◌, ℕ, zero, suc, ◌+◌, ◌-◌, ◌<◌, ◌≤◌, Bool, true, false, cond, ◌&&◌, eqb, leb, ◌≢◌, List, [], ◌∷◌, ◌++◌, length, get_or, drop, set, replicate, Some, None, Option, sym, refl, ap, ◌∙◌, subst, inl, inr, arith, length-append}
use Rattle.std.proofs.lemmas.List.{length-set, length-replicate, get_or-replicate, get_or-set_same, get_or-set_other}
use Rattle.std.proofs.lemmas.Bool.{ltb-true, leb-true, and_parts, cases_eq, cases_lt}
use Rattle.text.specs.Number.{number_in}
use Rattle.make.specs.declared.kind.Kind.{Kind}
use Rattle.make.specs.declared.kind.Kind.TheVariants.{System, Site, ChannelGroup, TalkgroupGroup}
use Rattle.make.specs.Data.{MakeSpec, FieldSpec, fields_of, starts_in, standard_at, type_named}
use Rattle.chain.specs.Entry.{first_of, second_of}
use Rattle.chain.specs.Rows.{tick, occ}
use Rattle.chain.specs.Blocks.{Blocks, run, opened, deleted, occ_all, total}
use Rattle.chain.specs.Tables.{Holds}
use Rattle.chain.specs.declared.tables.Tables.{Tables}
use Rattle.chain.proofs.Keeps.{tick_same, tick_other, occ-append}
use Rattle.chain.proofs.Counts.{occ_set, total_set, stack_within, chain_within}
use Rattle.chain.proofs.Homes.{home_some}
use Rattle.chain.proofs.Seen.{length_run}
use Rattle.ledger.specs.declared.command.Command.{Command}
use Rattle.ledger.specs.declared.command.Command.TheVariants.{Prg, Epg, Clr, Sct, Sih, Sit, Rmb, Csy, Agc, Ast, Agt, Acc, Act, Dsy, Dgr, Dch, Fwd, Rev, Trn, Sin, Sif, Gin, Cin, Tin, Tfq}
use Rattle.ledger.specs.Limits.{most_systems, index_digits}
use Rattle.ledger.specs.Ledger.{Store, Holding, fresh, emptied, block_count, holding, living, systems}
use Rattle.ledger.specs.Records.{is_for, member_kind, up_to, meant, target}
use Rattle.ledger.specs.Texts.{fields_legal, fields_set}
use Rattle.ledger.specs.Replies.{err, shown, shown_record}
use Rattle.ledger.specs.Steps.{new_texts, Outcome, changes, done, at, says, refused, grown, creates, new_system, written, sets, read_or_set}
use Rattle.ledger.specs.Lines.{fields}
use Rattle.ledger.specs.Runs.{Told}
use Rattle.history.specs.Orderly.{Orderly, Steady, slot}
use Rattle.history.specs.Course.{Moved}
use Rattle.history.proofs.Stepping.{by_move}
use Rattle.history.proofs.Removing.{Clear, Left, Gone, minus, minus_nil, goes}

-- what tables keep makes their blocks orderly
pub orderly : (p : Tables) (L : Blocks) → Holds p L → Orderly p.count L
orderly p L h =
    let k = h.linked.kept in
    record {
      size = k.size;
      once = k.once;
      all = h.all;
      within = λ i o. elim (cases_lt 0 (occ i L.free)) [
        | inl y ↦ stack_within _ _ L.free k.stack i y
        | inr y ↦ let r = home_some L.chains 0 i (omega (arith, o, y)) in (chain_within _ _ _ _ L k r.c i r.there).0
      ];
      full = h.full;
      bare = k.bare;
    }

-- all blocks free
occ_run : (i a m : ℕ) → (occ i (run a m) ≤ 1) × (1 ≤ occ i (run a m) → (a ≤ i) × (i < a + m)) × (a ≤ i → i < a + m → 1 ≤ occ i (run a m))
occ_run i a zero = (omega arith, λ h. absurd (omega (arith, h)), λ h g. absurd (omega (arith, h, g)))
occ_run i a (suc m) = let r = occ_run i (suc a) m in elim (cases_eq i a) [
  | inl is ↦ let t : tick i a ≡ 1 = ap (λ z. tick z a) is ∙ tick_same a in
      let none : occ i (run (suc a) m) ≡ 0 = elim (cases_lt 0 (occ i (run (suc a) m))) [ inl y ↦ absurd (omega (arith, r.1 y, is)) | inr y ↦ omega (arith, y) ] in
      (omega (arith, t, none), λ h. (omega (arith, is), omega (arith, is)), λ h g. omega (arith, t))
  | inr ne ↦ let t = tick_other i a ne in
      (omega (arith, t, r.0), λ h. let w = r.1 (omega (arith, h, t)) in (omega (arith, w), omega (arith, w)), λ h g. omega (arith, r.2 (omega (arith, h, ne)) (omega (arith, g))))
]

occ_empty : (i m : ℕ) → occ_all i (replicate m []) ≡ 0
occ_empty i zero = refl
occ_empty i (suc m) = omega (arith, occ_empty i m)

total_empty : (m : ℕ) → total (replicate m []) ≡ 0
total_empty zero = refl
total_empty (suc m) = omega (arith, total_empty m)

pub chain_empty : (m c : ℕ) → get_or {A = List ℕ} (replicate m []) c [] ≡ []
chain_empty zero c = refl
chain_empty (suc m) zero = refl
chain_empty (suc m) (suc c) = chain_empty m c

orderly_opened : (n : ℕ) → Orderly n (opened n)
orderly_opened n = record {
  size = length-replicate (n + n + 1) [];
  once = λ i. omega (arith, (occ_run i 1 n).0, occ_empty i (n + n + 1));
  all = λ i i1 il. omega (arith, (occ_run i 1 n).2 i1 (omega (arith, il)));
  within = λ i h. let w = (occ_run i 1 n).1 (omega (arith, h, occ_empty i (n + n + 1))) in (w.0, omega (arith, w.1));
  full = omega (arith, length_run 1 n, total_empty (n + n + 1));
  bare = λ i h. (chain_empty (n + n + 1) (first_of i), chain_empty (n + n + 1) (second_of i));
}

-- the front free block goes behind a chain that no free block owns
module _ (n : ℕ) (x : ℕ) (fs : List ℕ) (xss : List (List ℕ)) (O : Orderly n (record { chains = xss; free = x ∷ fs })) (c : ℕ) (cn : c ≤ n + n) (owned : (i : ℕ) → 1 ≤ occ i (x ∷ fs) → (c ≢ first_of i) × (c ≢ second_of i)) where
  abbrev new : List (List ℕ)
  new = set xss c (get_or xss c [] ++ (x ∷ []))

  same_counts : (i : ℕ) → occ i fs + occ_all i (set xss c (get_or xss c [] ++ (x ∷ []))) ≡ occ i (x ∷ fs) + occ_all i xss
  same_counts i = omega (arith, occ_set i c xss (get_or xss c [] ++ (x ∷ [])) (omega (arith, cn, O.size)), occ-append i (get_or xss c []) (x ∷ []))

  orderly_created : Orderly n (record { chains = set xss c (get_or xss c [] ++ (x ∷ [])); free = fs })
  orderly_created = record {
    size = length-set xss c _ ∙ O.size;
    once = λ i. omega (arith, same_counts i, O.once i);
    all = λ i i1 il. omega (arith, same_counts i, O.all i i1 il);
    within = λ i h. O.within i (omega (arith, same_counts i, h));
    full = omega (arith, O.full, total_set c xss (get_or xss c [] ++ (x ∷ [])) (omega (arith, cn, O.size)), length-append (get_or xss c []) (x ∷ []));
    bare = λ i h. let o : 1 ≤ occ i (x ∷ fs) = omega (arith, h) in let w = owned i o in let b = O.bare i o in
        (get_or-set_other xss c (first_of i) _ [] (λ e. w.0 (sym e)) ∙ b.0, get_or-set_other xss c (second_of i) _ [] (λ e. w.1 (sym e)) ∙ b.1);
  }

-- x is deleted with its members
pub clear : (n : ℕ) (L : Blocks) → Orderly n L → Clear L
clear n L O = record { once = λ i. omega (arith, O.once i); some = λ i h. (O.within i (omega (arith, h))).0 }

orderly_left : (n : ℕ) (L L' : Blocks) (ds : List ℕ) → Orderly n L → Left L L' ds → Orderly n L'
orderly_left n L L' ds O l = record {
  size = l.size ∙ O.size;
  once = λ i. omega (arith, l.counts i, O.once i);
  all = λ i i1 il. omega (arith, l.counts i, O.all i i1 il);
  within = λ i h. O.within i (omega (arith, l.counts i, h));
  full = l.full ∙ O.full;
  bare = λ i h. elim (cases_lt 0 (occ i ds)) [
    | inl y ↦ l.bare i y
    | inr y ↦ let b = O.bare i (omega (arith, h, y, l.counts i, l.falls i)) in (l.chains (first_of i) ∙ ap (minus ds) b.0 ∙ minus_nil ds, l.chains (second_of i) ∙ ap (minus ds) b.1 ∙ minus_nil ds)
  ];
}

-- texts
pub starts_long : (Fs : List FieldSpec) → length (starts_in Fs) ≡ length Fs
starts_long [] = refl
starts_long (F ∷ Fs) = ap suc (starts_long Fs)

set_long : (S : MakeSpec) (k : Kind) (f : ℕ) (ts shown : List (List ℕ)) → length (fields_set S k f ts shown) ≡ length shown
set_long S k f [] shown = refl
set_long S k f ([] ∷ ts) shown = set_long S k (f + 1) ts shown
set_long S k f ((c ∷ t) ∷ ts) shown = set_long S k (f + 1) ts (set shown f (standard_at S k f (c ∷ t))) ∙ length-set shown f (standard_at S k f (c ∷ t))

abbrev none : Holding
none = record { kind = System; system_type = 0; texts = [] }

-- the records stay wide where one slot gets a wide one
abbrev Wide : MakeSpec → Holding → Type 0
Wide S h = length h.texts ≡ length (fields_of S h.kind)

wide_set : (S : MakeSpec) (n : ℕ) (hs : List Holding) (j : ℕ) (h : Holding) → length hs ≡ n → ((k : ℕ) → k < n → Wide S (slot hs k)) → Wide S h → (k : ℕ) → k < n → Wide S (slot (set hs j h) k)
wide_set S n hs j h is w g k kn = elim (cases_eq k j) [
  | inl e ↦ subst (λ z. Wide S z) (sym (ap (λ z. slot (set hs j h) z) e ∙ get_or-set_same hs j h none (omega (arith, e, kn, is)))) g
  | inr ne ↦ subst (λ z. Wide S z) (sym (get_or-set_other hs j k h none ne)) (w k kn)
]

-- what a target tells
pub record Aimed (n : ℕ) (L : Store) (c : Command) (t : List ℕ) (i : ℕ) : Type 0 where
  pub lives : living L i ≡ true
  pub fits : is_for c (holding L i) ≡ true
  pub told : number_in index_digits t ≡ Some i
  pub upto : i ≤ block_count L

cond_some : (b : Bool) (i j : ℕ) → cond b (Some i) None ≡ Some j → (b ≡ true) × (i ≡ j)
cond_some true i j e = (refl, cc)
cond_some false i j e = let z : ◌≡◌ {A = ℕ} 0 1 = cc in absurd (omega arith)

none_some : (j : ℕ) → None ≡ Some j → ⊥
none_some j e = let z : ◌≡◌ {A = ℕ} 0 1 = cc in omega arith

meant_some : (L : Store) (c : Command) (o : Option ℕ) (i : ℕ) → meant L c o ≡ Some i → (o ≡ Some i) × ((living L i ≡ true) × (is_for c (holding L i) ≡ true))
meant_some L c None i e = absurd (none_some i e)
meant_some L c (Some j) i e =
    let r = cond_some (living L j && is_for c (holding L j)) j i e in
    let p = and_parts (living L j) (is_for c (holding L j)) r.0 in
    (ap Some r.1, (subst (λ z. living L z ≡ true) r.1 p.0, subst (λ z. is_for c (holding L z) ≡ true) r.1 p.1))

up_to_some : (n : ℕ) (o : Option ℕ) (i : ℕ) → up_to n o ≡ Some i → (o ≡ Some i) × (i ≤ n)
up_to_some n None i e = absurd (none_some i e)
up_to_some n (Some j) i e =
    let r = cond_some (leb 1 j && leb j n) j i e in
    (ap Some r.1, omega (arith, r.1, leb-true j n (and_parts (leb 1 j) (leb j n) r.0).1))

pub aimed : (n : ℕ) (L : Store) (c : Command) (t : List ℕ) (i : ℕ) → target L c t ≡ Some i → Aimed n L c t i
aimed n L c t i e =
    let a = meant_some L c (up_to (block_count L) (number_in index_digits t)) i e in
    let b = up_to_some (block_count L) (number_in index_digits t) i a.0 in
    record { lives = a.1.0; fits = a.1.1; told = b.0; upto = b.1 }

module _ (S : MakeSpec) (n : ℕ) where
  pub steady_emptied : Steady S n (emptied S n)
  steady_emptied = record {
    blocks = orderly_opened n;
    long = length-replicate n (fresh S System 0);
    wide = λ k h. subst (λ z. Wide S z) (sym (get_or-replicate n k (fresh S System 0) none h)) (starts_long (fields_of S System));
  }

  -- a chain to which a record may be added: no free block owns it
  pub record Open (L : Store) (c : ℕ) : Type 0 where
    pub upto : c ≤ n + n
    pub owned : (i : ℕ) → 1 ≤ occ i L.blocks.free → (c ≢ first_of i) × (c ≢ second_of i)

  grown_by_lem : (fs : List ℕ) (xss : List (List ℕ)) (hs : List Holding) → Steady S n (record { blocks = record { chains = xss; free = fs }; held = hs }) → (c : ℕ) → Open (record { blocks = record { chains = xss; free = fs }; held = hs }) c → (k : Kind) (t : ℕ) → Steady S n (grown S (record { blocks = record { chains = xss; free = fs }; held = hs }) c k t)
  grown_by_lem [] xss hs F c o k t = F
  grown_by_lem (zero ∷ fs) xss hs F c o k t = absurd (omega (arith, F.blocks.within 0 (omega (arith, tick_same 0))))
  grown_by_lem (suc x ∷ fs) xss hs F c o k t = record {
    blocks = orderly_created n (suc x) fs xss F.blocks c o.upto o.owned;
    long = length-set hs x (fresh S k t) ∙ F.long;
    wide = wide_set S n hs x (fresh S k t) F.long F.wide (starts_long (fields_of S k));
  }

  module _ (L : Store) (F : Steady S n L) where
    pub in_range : (i : ℕ) → living L i ≡ true → (1 ≤ i) × (i ≤ n)
    in_range i lives = F.blocks.within i (omega (arith, ltb-true 0 (occ_all i L.blocks.chains) lives))

    pub open_root : Open L 0
    open_root = record { upto = omega arith; owned = λ i h. let w = F.blocks.within i (omega (arith, h)) in (λ e. omega (arith, e, w), λ e. omega (arith, e, w)) }

    not_free : (i : ℕ) → living L i ≡ true → (j : ℕ) → 1 ≤ occ j L.blocks.free → i ≢ j
    not_free i lives j h e = omega (arith, ltb-true 0 (occ_all i L.blocks.chains) lives, h, F.blocks.once j, ap (λ z. occ_all z L.blocks.chains) e)

    pub open_first : (i : ℕ) → living L i ≡ true → Open L (first_of i)
    open_first i lives = let v = in_range i lives in record {
      upto = omega (arith, v);
      owned = λ j h. let w = F.blocks.within j (omega (arith, h)) in (λ e. not_free i lives j h (omega (arith, e, v, w)), λ e. omega (arith, e, v, w));
    }

    pub open_second : (i : ℕ) → living L i ≡ true → Open L (second_of i)
    open_second i lives = let v = in_range i lives in record {
      upto = omega (arith, v);
      owned = λ j h. let w = F.blocks.within j (omega (arith, h)) in (λ e. omega (arith, e, v, w), λ e. not_free i lives j h (omega (arith, e, v, w)));
    }

    pub steady_grown : (c : ℕ) → Open L c → (k : Kind) (t : ℕ) → Steady S n (grown S L c k t)
    steady_grown c o k t = grown_by_lem L.blocks.free L.blocks.chains L.held F c o k t

    -- the blocks that leave with a living one
    pub leaving : (x : ℕ) → living L x ≡ true → Gone L.blocks (deleted L.blocks x) (x ∷ [])
    leaving x lives = goes (total L.blocks.chains) L.blocks x (clear n L.blocks F.blocks) (ltb-true 0 (occ_all x L.blocks.chains) lives) (omega arith)

    pub steady_deleted : (x : ℕ) → living L x ≡ true → Steady S n (record { blocks = deleted L.blocks x; held = L.held })
    steady_deleted x lives = record { blocks = orderly_left n L.blocks (deleted L.blocks x) (leaving x lives).ds F.blocks (leaving x lives).left; long = F.long; wide = F.wide }

    pub steady_written : (i : ℕ) → living L i ≡ true → (ts : List (List ℕ)) → Steady S n (written S L i (holding L i) ts)
    steady_written i lives ts =
        let h = holding L i in
        let v = in_range i lives in
        record {
          blocks = F.blocks;
          long = length-set L.held (i - 1) _ ∙ F.long;
          wide = wide_set S n L.held (i - 1) (record { kind = h.kind; system_type = h.system_type; texts = fields_set S h.kind 0 ts h.texts }) F.long F.wide (set_long S h.kind 0 ts h.texts ∙ F.wide (i - 1) (omega (arith, v)));
        }

    -- what is done with the record that a line names
    at_steady : (c : Command) (t : List ℕ) (k : ℕ → Outcome) → ((i : ℕ) → living L i ≡ true → Steady S n (k i).next) → Steady S n (at L (target L c t) k).next
    at_steady c t k h = by (target L c t) refl
      where
        by : (o : Option ℕ) → target L c t ≡ o → Steady S n (at L o k).next
        by None e = F
        by (Some i) e = h i (aimed n L c t i e).lives

    new_steady : (o : Option ℕ) → Steady S n (new_system S L o).next
    new_steady None = F
    new_steady (Some t) = elim (leb most_systems (length (systems L))) as (λ b. Steady S n (cond b (says L Csy (shown 0 ∷ [])) (creates S L Csy 0 System t)).next) [ true ↦ F | false ↦ steady_grown 0 open_root System t ]

    set_steady : (c : Command) (i : ℕ) → living L i ≡ true → (ts : List (List ℕ)) → Steady S n (sets S L c i (holding L i) ts).next
    set_steady c i lives ts = elim (fields_legal S (holding L i).kind 0 ts) as (λ b. Steady S n (cond b (changes (written S L i (holding L i) ts) (new_texts i ts) c) (refused L err)).next) [ true ↦ steady_written i lives ts | false ↦ F ]

    read_steady : (c : Command) (fs : List (List ℕ)) → Steady S n (read_or_set S L c fs).next
    read_steady c fs = at_steady c (get_or fs 0 []) _ (λ i lives. elim (eqb (length fs) 1) as (λ b. Steady S n (cond b (says L c (shown_record S L i (holding L i))) (sets S L c i (holding L i) (drop 1 fs))).next) [ true ↦ F | false ↦ set_steady c i lives (drop 1 fs) ])

    pub steady_done : (c : Command) (fs : List (List ℕ)) → Steady S n (done S L c fs).next
    steady_done Prg fs = F
    steady_done Epg fs = F
    steady_done Clr fs = subst (λ z. Steady S n (emptied S z)) (sym F.long) steady_emptied
    steady_done Sct fs = F
    steady_done Sih fs = F
    steady_done Sit fs = F
    steady_done Rmb fs = F
    steady_done Csy fs = new_steady (type_named S.types (get_or fs 0 []))
    steady_done Agc fs = at_steady Agc (get_or fs 0 []) _ (λ i lives. steady_grown (first_of i) (open_first i lives) ChannelGroup 0)
    steady_done Ast fs = at_steady Ast (get_or fs 0 []) _ (λ i lives. steady_grown (first_of i) (open_first i lives) Site 0)
    steady_done Agt fs = at_steady Agt (get_or fs 0 []) _ (λ i lives. steady_grown (second_of i) (open_second i lives) TalkgroupGroup 0)
    steady_done Acc fs = at_steady Acc (get_or fs 0 []) _ (λ i lives. steady_grown (first_of i) (open_first i lives) (member_kind (holding L i).kind) 0)
    steady_done Act fs = at_steady Act (get_or fs 0 []) _ (λ i lives. steady_grown (first_of i) (open_first i lives) (member_kind (holding L i).kind) 0)
    steady_done Dsy fs = at_steady Dsy (get_or fs 0 []) _ (λ i lives. steady_deleted i lives)
    steady_done Dgr fs = at_steady Dgr (get_or fs 0 []) _ (λ i lives. steady_deleted i lives)
    steady_done Dch fs = at_steady Dch (get_or fs 0 []) _ (λ i lives. steady_deleted i lives)
    steady_done Fwd fs = at_steady Fwd (get_or fs 0 []) _ (λ i lives. F)
    steady_done Rev fs = at_steady Rev (get_or fs 0 []) _ (λ i lives. F)
    steady_done Trn fs = at_steady Trn (get_or fs 0 []) _ (λ i lives. F)
    steady_done Sin fs = read_steady Sin fs
    steady_done Sif fs = read_steady Sif fs
    steady_done Gin fs = read_steady Gin fs
    steady_done Cin fs = read_steady Cin fs
    steady_done Tin fs = read_steady Tin fs
    steady_done Tfq fs = read_steady Tfq fs

  pub steady_moved : (L : Store) (line : List ℕ) (L' : Store) (t : Told) → Steady S n L → Moved S L line L' t → Steady S n L'
  steady_moved L line L' t F = by_move S L line (λ M u. Steady S n M) (λ u q. F) (λ c e. steady_done L F c (fields line)) L' t
