-- The model of a pool: which blocks are free, which are in which chain, and how creating and deleting change that. Assumes nothing.
use Rattle.std.specs.Prelude.{◌≡◌, ℕ, zero, suc, ◌+◌, Bool, true, cond, List, [], ◌∷◌, ◌++◌, map, length, replicate, Some, None, Option, ◌==◌, nat_lt, slice_index_or, slice_set}
use Rattle.chain.specs.declared.link.Index.{Index}
use Rattle.chain.specs.declared.link.Chain.{Chain}
use Rattle.chain.specs.declared.link.Chain.TheVariants.{Root, Members}
use Rattle.chain.specs.declared.link.Ends.{Ends}
use Rattle.chain.specs.declared.link.Link.{Link}
use Rattle.chain.specs.declared.link.Link.TheVariants.{Free, Used}
use Rattle.chain.specs.Entry.{first_of, second_of, number, chain_at}
use Rattle.chain.specs.Rows.{head_or, last_or, occ}

-- the chains, each from its oldest block on, and the free blocks from the front on;
-- chain 0 is the root's, and block i has the chains 2 i - 1 and 2 i
pub record Blocks : Type 0 where
  pub chains : List (List ℕ)
  pub free : List ℕ

abbrev pub chain : Blocks → ℕ → List ℕ
chain L c = slice_index_or L.chains c []

-- m numbers from a on
abbrev pub run : ℕ → ℕ → List ℕ
run a zero = []
run a (suc m) = a ∷ run (suc a) m

-- n blocks, all free
abbrev pub opened : ℕ → Blocks
opened n = record { chains = replicate (n + n + 1) []; free = run 1 n }

-- the front free block goes behind chain c
abbrev pub behind : List ℕ → List (List ℕ) → ℕ → Blocks
behind [] xss c = record { chains = xss; free = [] }
behind (x ∷ free) xss c = record { chains = slice_set xss c (slice_index_or xss c [] ++ x ∷ []); free = free }

abbrev pub created : Blocks → ℕ → Blocks
created L c = behind L.free L.chains c

-- a list without x
abbrev pub without : ℕ → List ℕ → List ℕ
without x [] = []
without x (y ∷ ys) = cond (x == y) ys (y ∷ without x ys)

-- x leaves the chain that it is in
abbrev pub taken : Blocks → ℕ → Blocks
taken L x = record { chains = map (without x) L.chains; free = L.free }

-- x goes to the front of the free blocks
abbrev pub pushed : Blocks → ℕ → Blocks
pushed L x = record { chains = L.chains; free = x ∷ L.free }

-- the blocks of a list go one after the other
abbrev pub each : (Blocks → ℕ → Blocks) → Blocks → List ℕ → Blocks
each go L [] = L
each go L (y ∷ ys) = each go (go L y) ys

-- the members of x go from head to tail, those of its first chain before those of its second; then x goes to the front of the free blocks
abbrev pub cleared : (Blocks → ℕ → Blocks) → Blocks → ℕ → Blocks
cleared go L x = pushed (each go (each go L (chain L (first_of x))) (chain L (second_of x))) x

-- x leaves its chain and is cleared, each of its members in this same way; owners nest to m levels at most
abbrev pub removed : ℕ → Blocks → ℕ → Blocks
removed zero L x = L
removed (suc m) L x = cleared (removed m) (taken L x) x

-- how many blocks are in chains
abbrev pub total : List (List ℕ) → ℕ
total [] = 0
total (xs ∷ xss) = length xs + total xss

-- x is deleted with its members: no more levels nest than blocks are in use
abbrev pub deleted : Blocks → ℕ → Blocks
deleted L x = removed (total L.chains) L x

-- how often i stands in the chains
abbrev pub occ_all : ℕ → List (List ℕ) → ℕ
occ_all i [] = 0
occ_all i (xs ∷ xss) = occ i xs + occ_all i xss

-- whether a block is in use
abbrev pub is_used : Blocks → ℕ → Bool
is_used L x = nat_lt 0 (occ_all x L.chains)

-- the chain is the root's, or its owner is in use
abbrev pub Living : Blocks → Chain → Type 0
Living L Root = Unit {0}
Living L (Members i b) = is_used L i.number ≡ true

-- the chain that block x is in, of those from number c on
abbrev pub home_in : List (List ℕ) → ℕ → ℕ → Option Chain
home_in [] c x = None
home_in (xs ∷ xss) c x = cond (nat_lt 0 (occ x xs)) (Some (chain_at c)) (home_in xss (suc c) x)

-- the chain that block x is in
abbrev pub home_of : Blocks → ℕ → Option Chain
home_of L x = home_in L.chains 0 x

-- the block behind x in a list; 0 is none
abbrev pub next_of : ℕ → List ℕ → ℕ
next_of x [] = 0
next_of x (y ∷ ys) = cond (x == y) (head_or 0 ys) (next_of x ys)

-- the block before x in a list that stands behind b
abbrev pub prev_from : ℕ → ℕ → List ℕ → ℕ
prev_from b x [] = 0
prev_from b x (y ∷ ys) = cond (x == y) b (prev_from y x ys)

-- the block before x in a list; 0 is none
abbrev pub prev_of : ℕ → List ℕ → ℕ
prev_of x xs = prev_from 0 x xs

-- the blocks of the chain that a block is in
abbrev pub row_of : Blocks → Option Chain → List ℕ
row_of L None = []
row_of L (Some c) = chain L (number c)

-- the block behind x in its chain, and the one before it; 0 is none
abbrev pub next_in : Blocks → ℕ → ℕ
next_in L x = next_of x (row_of L (home_of L x))

abbrev pub prev_in : Blocks → ℕ → ℕ
prev_in L x = prev_of x (row_of L (home_of L x))

-- the ends of a chain
abbrev pub ends_by : List ℕ → Ends
ends_by xs = record { head = head_or 0 xs; tail = last_or 0 xs }

-- the link entry of block x, by where it is
abbrev pub link_by : Blocks → ℕ → Option Chain → Link
link_by L x None = Free (next_of x L.free)
link_by L x (Some c) = Used (record { previous = prev_of x (chain L (number c)); next = next_of x (chain L (number c)); chain = c; first = ends_by (chain L (first_of x)); second = ends_by (chain L (second_of x)) })

-- the link entry of block x, by the model
abbrev pub link_of : Blocks → ℕ → Link
link_of L x = link_by L x (home_of L x)

-- the link of the free block in slot k, of n
abbrev pub threaded : ℕ → ℕ → Link
threaded n k = Free (cond (nat_lt (k + 1) n) (k + 2) 0)

-- the block whose member a block is; none in the root's chain
abbrev pub owner_of : Option Chain → Option Index
owner_of None = None
owner_of (Some Root) = None
owner_of (Some (Members i b)) = Some i
