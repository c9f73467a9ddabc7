-- Laws of the model and of sound tables. Assumes nothing.
use Rattle.std.specs.Prelude.{◌≡◌, ℕ, zero, suc, ◌+◌, ◌-◌, ◌<◌, ◌≤◌, true, cond, List, [], ◌∷◌, ◌++◌, reverse, length, ◌==◌, ◌≢◌, slice_index_or}
use Rattle.chain.specs.declared.tables.Tables.{Tables}
use Rattle.chain.specs.Entry.{first_of, second_of, nowhere}
use Rattle.chain.specs.Rows.{head_or, last_or, occ}
use Rattle.chain.specs.Blocks.{Blocks, chain, created, deleted, without, is_used, occ_all, next_in, prev_in, ends_by, link_of}
use Rattle.chain.specs.Tables.{Sound, blocks_in, chains_in, chain_in, free_in}

-- the front free block stands at the end of one chain, and the other chains stay
abbrev pub Creating : Type 0
Creating = (L : Blocks) (c x : ℕ) (fs : List ℕ) → L.free ≡ x ∷ fs → c < length L.chains → ((created L c).free ≡ fs) × (chain (created L c) c ≡ chain L c ++ x ∷ []) × ((d : ℕ) → (d ≢ c) → chain (created L c) d ≡ chain L d)

-- a block without members leaves its chain, and goes to the front of the free blocks
abbrev pub Deleting : Type 0
Deleting = (L : Blocks) (x : ℕ) → is_used L x ≡ true → chain L (first_of x) ≡ [] → chain L (second_of x) ≡ [] → ((deleted L x).free ≡ x ∷ L.free) × ((d : ℕ) → chain (deleted L x) d ≡ without x (chain L d))

-- the blocks from x on by a step, at most m of them; 0 is none
abbrev pub visited : (ℕ → ℕ) → ℕ → ℕ → List ℕ
visited step zero x = []
visited step (suc m) x = cond (x == 0) [] (x ∷ visited step m (step x))

-- from the head of a chain the next blocks are the chain and no more, from its tail the previous ones are its reverse
abbrev pub Visiting : Type 0
Visiting = (p : Tables) → Sound p → (c m : ℕ) → length (chain_in p c) ≤ m → (visited (next_in (blocks_in p)) m (head_or 0 (chain_in p c)) ≡ chain_in p c) × (visited (prev_in (blocks_in p)) m (last_or 0 (chain_in p c)) ≡ reverse (chain_in p c))

-- each block is free or in a chain, once, and nothing else is
abbrev pub Covering : Type 0
Covering = (p : Tables) → Sound p → (i : ℕ) → (1 ≤ i → i ≤ p.count → occ i (free_in p) + occ_all i (chains_in p) ≡ 1) × (1 ≤ occ i (free_in p) + occ_all i (chains_in p) → (1 ≤ i) × (i ≤ p.count))

-- the chains of a free block are empty
abbrev pub Owning : Type 0
Owning = (p : Tables) → Sound p → (i : ℕ) → 1 ≤ occ i (free_in p) → (chain_in p (first_of i) ≡ []) × (chain_in p (second_of i) ≡ [])

-- a block whose members have no members goes after them: those of its first chain from head to tail, those of its second, then itself
abbrev pub Emptying : Type 0
Emptying = (p : Tables) → Sound p → (x : ℕ) → is_used (blocks_in p) x ≡ true → ((y : ℕ) → 1 ≤ occ y (chain_in p (first_of x)) + occ y (chain_in p (second_of x)) → (chain_in p (first_of y) ≡ []) × (chain_in p (second_of y) ≡ [])) → (deleted (blocks_in p) x).free ≡ x ∷ (reverse (chain_in p (second_of x)) ++ (reverse (chain_in p (first_of x)) ++ free_in p))

-- every link up to the count, the root's ends and the free stack are those that the model gives
abbrev pub Pinning : Type 0
Pinning = (p : Tables) → Sound p → ((i : ℕ) → 1 ≤ i → i ≤ p.count → slice_index_or p.links.now (i - 1) nowhere ≡ link_of (blocks_in p) i) × (p.root ≡ ends_by (chain_in p 0)) × (p.free ≡ head_or 0 (free_in p)) × (p.spare ≡ length (free_in p))
