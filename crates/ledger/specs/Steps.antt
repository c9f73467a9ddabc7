-- What each command does and answers, once its letters, the mode and the count of its fields are right. Assumes nothing.
use Rattle.std.specs.Prelude.{ℕ, ◌-◌, cond, List, [], ◌∷◌, length, drop, Some, None, codes, decimal, Option, ◌==◌, nat_le, slice_index_or, slice_set}
use Rattle.make.specs.declared.kind.Kind.{Kind}
use Rattle.make.specs.declared.kind.Kind.TheVariants.{System, Site, ChannelGroup, TalkgroupGroup}
use Rattle.make.specs.Data.{MakeSpec, type_named}
use Rattle.chain.specs.Entry.{first_of, second_of}
use Rattle.chain.specs.Rows.{head_or, last_or}
use Rattle.chain.specs.Blocks.{created, deleted, next_in, prev_in}
use Rattle.pool.specs.Elements.{stored}
use Rattle.ledger.specs.declared.command.Command.{Command}
use Rattle.ledger.specs.declared.command.Command.TheVariants.{Prg, Epg, Clr, Sct, Sih, Sit, Rmb, Csy, Agc, Ast, Agt, Acc, Act, Dsy, Dgr, Dch, Fwd, Rev, Trn, Sin, Sif, Gin, Cin, Tin, Tfq}
use Rattle.ledger.specs.Limits.{most_systems}
use Rattle.ledger.specs.Commands.{name_of}
use Rattle.ledger.specs.Ledger.{Store, Holding, fresh, emptied, block_count, holding, systems, talkgroups}
use Rattle.ledger.specs.Records.{member_kind, target}
use Rattle.ledger.specs.Replies.{reply, err, shown, shown_record, ends}
use Rattle.ledger.specs.Texts.{fields_legal, fields_set}

-- what becomes of the table of records: it stays, or every block gets a blank record, or block x gets a new record of kind k and
-- type n (block 0 is none), or the fields ts of a set line are written into the record of block i
pub data Change : Type 0 where
  unchanged : Change
  cleared : Change
  new_record : ℕ → Kind → ℕ → Change
  new_texts : ℕ → List (List ℕ) → Change

-- the reply of a line, the store behind it, and what became of the table of records
pub record Outcome : Type 0 where
  pub said : List ℕ
  pub next : Store
  pub change : Change

-- a refusal leaves the store as it was
abbrev pub refused : Store → List ℕ → Outcome
refused L t = record { said = t; next = L; change = unchanged }

-- a reply that leaves the store L, whose records stay
abbrev pub says : Store → Command → List (List ℕ) → Outcome
says L c ts = record { said = reply (name_of c) ts; next = L; change = unchanged }

-- OK, with the store L and a change of the records
abbrev pub changes : Store → Change → Command → Outcome
changes L x c = record { said = reply (name_of c) (codes "OK" ∷ []); next = L; change = x }

abbrev pub ok : Store → Command → Outcome
ok L c = changes L unchanged c

-- the front free block goes to the end of chain c and holds a new record; where no block is free nothing changes
abbrev pub grown_by : MakeSpec → Store → List ℕ → ℕ → Kind → ℕ → Store
grown_by S L [] c k n = L
grown_by S L (x ∷ free) c k n = record { blocks = created L.blocks c; held = stored x (fresh S k n) L.held }

abbrev pub grown : MakeSpec → Store → ℕ → Kind → ℕ → Store
grown S L c k n = grown_by S L L.blocks.free c k n

-- a creation answers the index of the front free block, or -1 where no block is free
abbrev pub creates : MakeSpec → Store → Command → ℕ → Kind → ℕ → Outcome
creates S L c x k n = record { said = reply (name_of c) (shown (head_or 0 L.blocks.free) ∷ []); next = grown S L x k n; change = new_record (head_or 0 L.blocks.free) k n }

-- a new system of a type that the make has; -1 where there are as many as there may be
abbrev pub new_system : MakeSpec → Store → Option ℕ → Outcome
new_system S L None = refused L err
new_system S L (Some n) = cond (nat_le most_systems (length (systems L))) (says L Csy (shown 0 ∷ [])) (creates S L Csy 0 System n)

-- what is done with the record that the line names; a line that names none gets ERR
abbrev pub at : Store → Option ℕ → (ℕ → Outcome) → Outcome
at L None k = refused L err
at L (Some i) k = k i

-- the record and its members go
abbrev pub deletes : Store → Command → ℕ → Outcome
deletes L c i = ok (record { blocks = deleted L.blocks i; held = L.held }) c

-- each field that is not left out shows its standard form then; a field that is not legal spoils the whole line
abbrev pub written : MakeSpec → Store → ℕ → Holding → List (List ℕ) → Store
written S L i h ts = record { blocks = L.blocks; held = slice_set L.held (i - 1) (record { kind = h.kind; system_type = h.system_type; texts = fields_set S h.kind 0 ts h.texts }) }

abbrev pub sets : MakeSpec → Store → Command → ℕ → Holding → List (List ℕ) → Outcome
sets S L c i h ts = cond (fields_legal S h.kind 0 ts) (changes (written S L i h ts) (new_texts i ts) c) (refused L err)

-- an index alone reads the record, an index and every field set it
abbrev pub read_or_set : MakeSpec → Store → Command → List (List ℕ) → Outcome
read_or_set S L c fs = at L (target L c (slice_index_or fs 0 [])) (λ i. cond (length fs == 1) (says L c (shown_record S L i (holding L i))) (sets S L c i (holding L i) (drop 1 fs)))

-- what each command does to the store and answers; PRG and EPG only turn the mode
abbrev pub done : MakeSpec → Store → Command → List (List ℕ) → Outcome
done S L Prg fs = ok L Prg
done S L Epg fs = ok L Epg
done S L Clr fs = changes (emptied S (block_count L)) cleared Clr
done S L Sct fs = says L Sct (decimal (length (systems L)) ∷ [])
done S L Sih fs = says L Sih (shown (head_or 0 (systems L)) ∷ [])
done S L Sit fs = says L Sit (shown (last_or 0 (systems L)) ∷ [])
done S L Rmb fs = says L Rmb (decimal (length L.blocks.free) ∷ [])
done S L Csy fs = new_system S L (type_named S.types (slice_index_or fs 0 []))
done S L Agc fs = at L (target L Agc (slice_index_or fs 0 [])) (λ i. creates S L Agc (first_of i) ChannelGroup 0)
done S L Ast fs = at L (target L Ast (slice_index_or fs 0 [])) (λ i. creates S L Ast (first_of i) Site 0)
done S L Agt fs = at L (target L Agt (slice_index_or fs 0 [])) (λ i. creates S L Agt (second_of i) TalkgroupGroup 0)
done S L Acc fs = at L (target L Acc (slice_index_or fs 0 [])) (λ i. creates S L Acc (first_of i) (member_kind (holding L i).kind) 0)
done S L Act fs = at L (target L Act (slice_index_or fs 0 [])) (λ i. creates S L Act (first_of i) (member_kind (holding L i).kind) 0)
done S L Dsy fs = at L (target L Dsy (slice_index_or fs 0 [])) (deletes L Dsy)
done S L Dgr fs = at L (target L Dgr (slice_index_or fs 0 [])) (deletes L Dgr)
done S L Dch fs = at L (target L Dch (slice_index_or fs 0 [])) (deletes L Dch)
done S L Fwd fs = at L (target L Fwd (slice_index_or fs 0 [])) (λ i. says L Fwd (shown (next_in L.blocks i) ∷ []))
done S L Rev fs = at L (target L Rev (slice_index_or fs 0 [])) (λ i. says L Rev (shown (prev_in L.blocks i) ∷ []))
done S L Trn fs = at L (target L Trn (slice_index_or fs 0 [])) (λ i. says L Trn (ends (talkgroups L i)))
done S L Sin fs = read_or_set S L Sin fs
done S L Sif fs = read_or_set S L Sif fs
done S L Gin fs = read_or_set S L Gin fs
done S L Cin fs = read_or_set S L Cin fs
done S L Tin fs = read_or_set S L Tin fs
done S L Tfq fs = read_or_set S L Tfq fs
