-- What further lines say of the records that an account tells of. Assumes nothing.
use Rattle.std.specs.Prelude.{◌≡◌, ℕ, ◌+◌, ◌-◌, ◌<◌, ◌≤◌, true, ◌⊎◌, List, [], ◌∷◌, reverse, length, codes, decimal, slice_index, slice_index_or}
use Rattle.make.specs.Data.{MakeSpec}
use Rattle.make.specs.Rules.{Keeps}
use Rattle.chain.specs.declared.link.Branch.TheVariants.{First, Second}
use Rattle.chain.specs.declared.link.Chain.{Chain}
use Rattle.chain.specs.declared.link.Chain.TheVariants.{Root}
use Rattle.chain.specs.Rows.{head_or, last_or, occ}
use Rattle.chain.specs.Blocks.{run}
use Rattle.ledger.specs.declared.command.Command.{Command}
use Rattle.ledger.specs.declared.command.Command.TheVariants.{Sct, Sih, Sit, Rmb, Csy, Fwd, Rev, Trn}
use Rattle.ledger.specs.Limits.{most_systems}
use Rattle.ledger.specs.Ledger.{Ledger, opened}
use Rattle.ledger.specs.Records.{is_for, is_trunked}
use Rattle.ledger.specs.Replies.{err, shown, ends}
use Rattle.ledger.specs.Runs.{Given, said, answers, after}
use Rattle.history.specs.Promise.{asked, naming, about, gets, before_at, walked, adds, Shows}
use Rattle.history.specs.History.{Born, indexes, indexes_in, members_of, account}
use Rattle.history.specs.Freed.{spares}

-- a record of an account
abbrev pub Among : Born → List Born → Type 0
Among b [] = ⊥
Among b (d ∷ bs) = (b ≡ d) ⊎ Among b bs

-- what further lines say, after one more PRG and with the least buffer each, of a memory of n blocks whose account has the records bs and the free blocks fs
pub record Lasting (S : MakeSpec) (n : ℕ) (L : Ledger) (bs : List Born) (fs : List ℕ) : Type 0 where
  -- SIH, SIT and TRN answer the oldest and the newest record of their chain, and SCT the number of systems; -1 stands for none
  pub head : asked S L (codes "SIH") ≡ gets Sih (shown (head_or 0 (indexes_in Root bs)) ∷ [])
  pub tail : asked S L (codes "SIT") ≡ gets Sit (shown (last_or 0 (indexes_in Root bs)) ∷ [])
  pub number : asked S L (codes "SCT") ≡ gets Sct (decimal (length (indexes_in Root bs)) ∷ [])
  pub trunked : (b : Born) → Among b bs → is_trunked b.holds ≡ true → asked S L (about Trn b.block) ≡ gets Trn (ends (indexes_in (members_of b.block Second) bs))
  -- FWD of each record answers the next one that was created in its chain, and REV the one before it; -1 stands for none
  pub forward : (c : Chain) (k : ℕ) → k < length (indexes_in c bs) → asked S L (about Fwd (slice_index (indexes_in c bs) k)) ≡ gets Fwd (shown (slice_index (indexes_in c bs) (k + 1)) ∷ [])
  pub backward : (c : Chain) (k : ℕ) → k < length (indexes_in c bs) → asked S L (about Rev (slice_index (indexes_in c bs) k)) ≡ gets Rev (shown (before_at (indexes_in c bs) k) ∷ [])
  -- so FWD from the head visits the chain, oldest first, and ends, and REV from the tail visits it in reverse
  pub onward : (c : Chain) (m : ℕ) → length (indexes_in c bs) ≤ m → walked S L Fwd m (head_or 0 (indexes_in c bs)) ≡ indexes_in c bs
  pub homeward : (c : Chain) (m : ℕ) → length (indexes_in c bs) ≤ m → walked S L Rev m (last_or 0 (indexes_in c bs)) ≡ reverse (indexes_in c bs)
  -- each block is free or has one record of the account, and not both
  pub once : (i : ℕ) → 1 ≤ i → i ≤ n → occ i fs + occ i (indexes bs) ≡ 1
  pub within : (i : ℕ) → 1 ≤ occ i fs + occ i (indexes bs) → (1 ≤ i) × (i ≤ n)
  -- a block without a record gets ERR
  pub idle : (i : ℕ) → 1 ≤ i → i ≤ n → occ i (indexes bs) ≡ 0 → asked S L (about Fwd i) ≡ said err
  -- a creation answers the front free block, or -1 where none is free or where there are as many systems as there may be
  pub system : (k : ℕ) → k < length S.types → length (indexes_in Root bs) < most_systems → asked S L (naming Csy (slice_index_or S.types k [])) ≡ gets Csy (shown (head_or 0 fs) ∷ [])
  pub crowded : (k : ℕ) → k < length S.types → most_systems ≤ length (indexes_in Root bs) → asked S L (naming Csy (slice_index_or S.types k [])) ≡ gets Csy (shown 0 ∷ [])
  pub member : (c : Command) (b : Born) → adds c ≡ true → Among b bs → is_for c b.holds ≡ true → asked S L (about c b.block) ≡ gets c (shown (head_or 0 fs) ∷ [])
  -- RMB answers the block count less the records of the account
  pub spare : asked S L (codes "RMB") ≡ gets Rmb (decimal (n - length bs) ∷ [])
  -- a read of a record shows the account's type and texts, and the oldest and the newest record of its first chain
  pub reads : (b : Born) → Among b bs → Shows S L b.block b.holds (indexes_in (members_of b.block First) bs)

-- for each make that keeps the rules, after any lines with any buffers, further lines say that of the account of the lines and what they got
abbrev pub AccountStands : Type 0
AccountStands = (S : MakeSpec) → Keeps S → (n : ℕ) → n ≤ 45000 → (lines : List Given) → Lasting S n (after S (opened S n) lines) (account S [] lines (answers S (opened S n) lines)) (spares S n [] (run 1 n) lines (answers S (opened S n) lines))
